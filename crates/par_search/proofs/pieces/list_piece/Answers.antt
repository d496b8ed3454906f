use Rattle.std.proofs.Common.{◌+◌, ◌++◌, ◌∙◌, ap, arith, length, length-append, [], ◌∷◌, subst, sym, take, vec_capacity}
use Rattle.store_machine.specs.Answers.{AreMatched}
use Rattle.store_core.specs.Records.{IsRecord, RecordTerm, founds}
use Rattle.par_search.proofs.Matched.{hit, no-hit}
use Rattle.par_search.proofs.pieces.list_piece.Goals as goal
use Rattle.par_search.proofs.pieces.list_piece.Goals.{then-is_set, else-is_set}

pub loop-place-preserved : goal.loop-place-preserved
loop-place-preserved c =
    let one = c.one_structure.ensures in
    let piece = c.args.piece.now in
    let i = c.loop-place.place in
    let r = c.index-piece-place.result in
    let old = c.loop-place.hits.items in
    let inv = c.loop-place.invariant in
    let sound = subst IsRecord c.deref.ensures c.id-id.ensures.sound in
    let id = c.id-id.ensures.id ∙ ap (λ (x : RecordTerm). x.id) c.deref.ensures in
    elim c.if-is_set.branch [
      | then-is_set w ↦
          let new = ap (λ v. v.items) w.hits-is ∙ w.push_reserved.ensures.items in
          record {
            matched = λ p before all m.
                hit one p before piece c.args.flags.now i r c.is_set.result c.id-id.result old c.if-is_set.hits.items
                c.loop-place-test.true
                c.index-piece-place.is all c.is_set.ensures w.if-is_set.true sound id new (inv.matched p before all m);
            count = omega (arith, ap (λ l. length l) new, length-append old (c.id-id.result ∷ []), inv.count);
            capacity = ap (λ v. vec_capacity v) w.hits-is ∙ w.push_reserved.ensures.capacity ∙ inv.capacity;
          }
      | else-is_set w ↦ record {
        matched = λ p before all m.
            subst (λ l. AreMatched p (before ++ founds (take (i + 1) piece)) l) (sym (ap (λ v. v.items) w.hits-is))
            (no-hit one p before piece c.args.flags.now i r c.is_set.result old c.loop-place-test.true
            c.index-piece-place.is all c.is_set.ensures w.if-is_set.false sound (inv.matched p before all m));
        count = omega (arith, ap (λ v. length v.items) w.hits-is, inv.count);
        capacity = ap (λ v. vec_capacity v) w.hits-is ∙ inv.capacity;
      }
    ]
