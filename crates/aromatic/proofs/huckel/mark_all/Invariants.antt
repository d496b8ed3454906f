use Rattle.std.proofs.Common.{◌≡◌, ◌↔◌, ℕ, true, false, get_or}
use Rattle.chem_core.specs.Sound.{ends_among}
use Rattle.aromatic.specs.Route.{IsMarkedEnd}
use Rattle.aromatic.proofs.huckel.mark_all.Given as goal

abbrev pub invariant-loop-place : goal.invariant-loop-place
invariant-loop-place l = (a : ℕ) → (get_or l.flags a false ≡ true) ↔ IsMarkedEnd (ends_among l.bonds) l.marks l.place a
