use Rattle.std.proofs.Common.{◌≡◌, false, ap, sym, ◌∙◌}
use Rattle.std.specs.List.{list_any}
use Rattle.valence.specs.Suppressed.{is_plain_hydrogen}
use Rattle.valence.proofs.Law.{suppressed-no_hydrogen}
use Rattle.valence.proofs.suppression.suppress.Goals as goal

pub returns-else-has_plain_hydrogen-clause-suppressed :
    goal.returns-else-has_plain_hydrogen-clause-suppressed
returns-else-has_plain_hydrogen-clause-suppressed c =
    let atoms = c.deref.ensures.value ∙ ap (λ s. s.atoms) c.sketch.view_is in
    let without : list_any is_plain_hydrogen c.args.sketch.now.atoms ≡ false = sym
    (ap (list_any is_plain_hydrogen) atoms)
    ∙ sym c.has_plain_hydrogen.ensures ∙ c.if-has_plain_hydrogen.false in
    sym (suppressed-no_hydrogen c.args.sketch.now without)
