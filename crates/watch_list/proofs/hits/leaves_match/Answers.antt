use Rattle.std.proofs.Common.{◌↔◌, ◌∙◌, ap, inl, inr, IsTrue, subst, sym}
use Rattle.chem_core.specs.Molecule.{Molecule}
use Rattle.smarts_parse.specs.Embedding.{Matches}
use Rattle.smarts_parse.specs.Pattern.{pattern_of}
use Rattle.std.specs.Arc.{arc_value}
use Rattle.store_core.specs.Records.{RecordTerm}
use Rattle.store_core.specs.declared.words.Change.{Change}
use Rattle.watch_list.specs.Notes.{LeavesMatch}
use Rattle.watch_list.proofs.hits.leaves_match.Goals as goal

pub returns-in-Register : goal.returns-in-Register
returns-in-Register c =
    let p = pattern_of c.args.pattern.now in
    let answer = λ (x : Change). IsTrue c.has.result ↔ LeavesMatch p x in
    let right : IsTrue c.has.result ↔ Matches p (arc_value c.in-Register.record).mol =
    subst (λ (m : Molecule). IsTrue c.has.result ↔ Matches p m)
    (c.mol.ensures.mol ∙ ap (λ (x : RecordTerm). x.mol) c.deref.ensures) c.has.ensures in
    elim c.in-Register.is as (λ _. answer c.args.change.now) [
      | inl e ↦ subst answer (sym e) right
      | inr e ↦ subst answer (sym e) right
    ]
