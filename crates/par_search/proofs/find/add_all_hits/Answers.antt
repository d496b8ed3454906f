use Rattle.std.proofs.Common.{◌∙◌, ap, arith, length, length-append, take}
use Rattle.std.proofs.lemmas.List.Folds.{length-flat_map-take}
use Rattle.par_search.specs.Flags.{WorkerTerm}
use Rattle.par_search.specs.Shares.{hits_in}
use Rattle.par_search.proofs.find.add_all_hits.Goals as goal

pub add_hits-requires : goal.add_hits-requires
add_hits-requires c =
    let w = c.worker-item.result in
    let fits = length-flat_map-take (λ (x : WorkerTerm). x.hits) c.args.workers.now c.loop-worker.worker-index w
    c.loop-worker-test.true in
    let here = c.hits.ensures ∙ ap (λ (x : WorkerTerm). x.hits) c.worker-item.is in
    record {
      room = omega (
        arith,
        fits,
        ap (λ l. length l) here,
        ap (λ l. length l) c.loop-worker.invariant.hits,
        length-append c.args.hits.now.items (hits_in (take c.loop-worker.worker-index c.args.workers.now)),
        c.loop-worker.invariant.capacity,
        c.requires.room,
      );
    }
