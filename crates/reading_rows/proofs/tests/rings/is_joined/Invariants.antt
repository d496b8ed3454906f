use Rattle.std.proofs.Common.{◌≡◌, ◌<◌, ℕ, get_or}
use Rattle.chem_core.specs.declared.sketch.SketchBond.{SketchBond}
use Rattle.reading_rows.proofs.tests.rings.is_joined.Given as goal

abbrev pub invariant-loop-bond : goal.invariant-loop-bond
invariant-loop-bond l =
    (k : ℕ) (d : SketchBond) → k < l.bond-index → ((get_or l.bonds k d).a ≡ l.a → (get_or l.bonds k d).b ≡ l.b → ⊥)
    × ((get_or l.bonds k d).a ≡ l.b → (get_or l.bonds k d).b ≡ l.a → ⊥)
