use Rattle.std.proofs.Common.{◌≡◌, ◌↔◌, ◌⊎◌, ℕ, true, false, get_or}
use Rattle.aromatic.proofs.MarkSteps.{Follows}
use Rattle.aromatic.proofs.huckel.mark_path.Given as goal

abbrev pub invariant-loop-link : goal.invariant-loop-link
invariant-loop-link l = (b : ℕ) → (get_or l.marks b false ≡ true)
    ↔ ((get_or l.fn.marks b false ≡ true) ⊎ Follows l.path l.link-index b)
