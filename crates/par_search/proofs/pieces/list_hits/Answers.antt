use Rattle.std.proofs.Common.{◌*◌, ◌∙◌, ap, arith, get_or, length, subst, sym, take}
use Rattle.store_machine.specs.Answers.{AreMatched}
use Rattle.store_core.specs.Records.{founds}
use Rattle.par_search.specs.Flags.{AreFlags, WorkerTerm}
use Rattle.par_search.proofs.Cuts.{all-taken, cut-lengths, flags-of, founds-next, rest-next}
use Rattle.par_search.proofs.pieces.list_hits.Goals as goal

pub loop-worker-preserved : goal.loop-worker-preserved
loop-worker-preserved c =
    let records = c.args.records.now in
    let workers = c.args.workers.now in
    let size = c.div_ceil-size.result in
    let i = c.loop-worker.worker-index in
    let rest = c.loop-worker.rest.now in
    let piece = c.cut.result.0.now in
    let behind = c.cut.result.1.now in
    let inv = c.loop-worker.invariant in
    record {
      rest = rest-next i size records rest behind inv.rest c.cut.ensures.behind;
      matched = λ p all.
          let w = c.worker-item.result in
          let its : AreFlags p piece (get_or workers i w).flags =
          flags-of p size i records rest piece workers w all c.div_ceil-size.ensures c.loop-worker-test.true inv.rest
          c.cut.ensures.piece in
          let flags : AreFlags p piece c.flags.result.now =
          subst (λ l. AreFlags p piece l)
          (sym (c.flags.ensures ∙ ap (λ (x : WorkerTerm). x.flags) c.worker-item.is)) its in
          subst (λ l. AreMatched p l c.list_piece.new.hits.items)
          (founds-next i size records rest piece inv.rest c.cut.ensures.piece)
          (c.list_piece.ensures.matched p (founds (take (i * size) records)) flags (inv.matched p all));
      count = omega (
        arith,
        c.list_piece.ensures.few,
        cut-lengths size rest piece behind c.cut.ensures.piece c.cut.ensures.behind,
        inv.count,
      );
      capacity = c.list_piece.ensures.capacity ∙ inv.capacity;
    }

pub returns-clause-matched : goal.returns-clause-matched
returns-clause-matched c = λ p all.
    let is = all-taken
    (length c.args.workers.now) c.loop-worker.worker-index c.div_ceil-size.result c.args.records.now c.requires.some
    c.loop-worker-test.false c.div_ceil-size.ensures in
    subst (λ l. AreMatched p (founds l) c.loop-worker.hits.items) is (c.loop-worker.invariant.matched p all)
