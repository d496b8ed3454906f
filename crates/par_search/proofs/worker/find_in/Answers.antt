use Rattle.std.proofs.Common.{◌≡◌, ◌↔◌, ◌+◌, ◌++◌, ◌∙◌, ap, arith, length, length-append, [], ◌∷◌, subst, sym, take, true, vec_capacity}
use Rattle.chem_core.specs.Molecule.{Molecule}
use Rattle.smarts_parse.specs.Embedding.{Matches}
use Rattle.smarts_parse.specs.Pattern.{pattern_of}
use Rattle.store_machine.specs.Answers.{AreMatched}
use Rattle.store_core.specs.Records.{IsRecord, RecordTerm, founds}
use Rattle.par_search.proofs.Matched.{hit-by, no-hit-by}
use Rattle.par_search.proofs.worker.find_in.Goals as goal
use Rattle.par_search.proofs.worker.find_in.Goals.{then-has, else-has}

pub loop-record-preserved : goal.loop-record-preserved
loop-record-preserved c =
    let one = c.one_structure.ensures in
    let p = pattern_of c.args.pattern.now in
    let records = c.args.records.now in
    let i = c.loop-record.record-index in
    let r = c.record-item.result in
    let old = c.loop-record.hits.items in
    let inv = c.loop-record.invariant in
    let flag = c.has.result in
    let right = subst (λ (m : Molecule). (flag ≡ true) ↔ Matches p m)
    (c.mol.ensures.mol ∙ ap (λ (x : RecordTerm). x.mol) c.deref-in-loop-record.ensures) c.has.ensures.has in
    let sound = subst IsRecord c.deref.ensures c.id-id.ensures.sound in
    let id = c.id-id.ensures.id ∙ ap (λ (x : RecordTerm). x.id) c.deref.ensures in
    elim c.if-has.branch [
      | then-has w ↦
          let new = ap (λ v. v.items) w.hits-is ∙ w.push_reserved.ensures.items in
          record {
            prepared = c.has.ensures.prepared;
            matched = λ before m.
                hit-by one p before records i r flag c.id-id.result old c.if-has.hits.items c.loop-record-test.true
                c.record-item.is right w.if-has.true sound id new (inv.matched before m);
            count = omega (arith, ap (λ l. length l) new, length-append old (c.id-id.result ∷ []), inv.count);
            capacity = ap (λ v. vec_capacity v) w.hits-is ∙ w.push_reserved.ensures.capacity ∙ inv.capacity;
          }
      | else-has w ↦ record {
        prepared = c.has.ensures.prepared;
        matched = λ before m.
            subst (λ l. AreMatched p (before ++ founds (take (i + 1) records)) l) (sym (ap (λ v. v.items) w.hits-is))
            (no-hit-by one p before records i r flag old c.loop-record-test.true c.record-item.is right w.if-has.false
            sound (inv.matched before m));
        count = omega (arith, ap (λ v. length v.items) w.hits-is, inv.count);
        capacity = ap (λ v. vec_capacity v) w.hits-is ∙ inv.capacity;
      }
    ]
