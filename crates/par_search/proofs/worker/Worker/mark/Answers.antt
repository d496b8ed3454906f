use Rattle.std.proofs.Common.{◌≡◌, ◌↔◌, ◌+◌, ◌++◌, ◌∙◌, [], ◌∷◌, ap, arith, length, length-append, subst, sym, take, true}
use Rattle.std.proofs.lemmas.List.{take_more}
use Rattle.chem_core.specs.Molecule.{Molecule}
use Rattle.smarts_parse.specs.Embedding.{Matches}
use Rattle.smarts_parse.specs.Pattern.{pattern_of}
use Rattle.store_core.specs.Records.{RecordTerm}
use Rattle.par_search.specs.Flags.{AreFlags}
use Rattle.par_search.proofs.Flagged.{flags-push}
use Rattle.par_search.proofs.worker.Worker.mark.Goals as goal

pub loop-record-preserved : goal.loop-record-preserved
loop-record-preserved c =
    let p = pattern_of c.args.pattern.now in
    let piece = c.args.piece.now in
    let i = c.loop-record.record-index in
    let r = c.record-item.result in
    let flags = c.loop-record.self-inside.flags.items in
    let flag = c.has-flag.result in
    let right =
    subst (λ (m : Molecule). (flag ≡ true) ↔ Matches p m)
    (c.mol.ensures.mol ∙ ap (λ (x : RecordTerm). x.mol) c.deref.ensures) c.has-flag.ensures.has in
    let more : take (i + 1) piece ≡ take i piece ++ r ∷ [] = take_more piece i r c.loop-record-test.true
    ∙ ap (λ x. take i piece ++ x ∷ []) (sym c.record-item.is) in
    let pushed : AreFlags p (take i piece ++ r ∷ []) (flags ++ flag ∷ []) =
    flags-push p (take i piece) r flags flag c.loop-record.invariant.flags right in
    record {
      prepared = c.has-flag.ensures.prepared;
      flags = subst (λ l. AreFlags p (take (i + 1) piece) l) (sym c.push_reserved.ensures.items)
          (subst (λ l. AreFlags p l (flags ++ flag ∷ [])) (sym more) pushed);
      count = omega (
        arith,
        ap (λ l. length l) c.push_reserved.ensures.items,
        length-append flags
            (flag ∷ []),
        c.loop-record.invariant.count,
      );
      room = c.push_reserved.ensures.capacity ∙ c.loop-record.invariant.room;
      share = c.loop-record.invariant.share;
    }
