use Rattle.std.proofs.Common.{◌≡◌, ℕ, ◌<◌, get_or}
use Rattle.exact_find.proofs.colours.store.Given as goal

abbrev pub invariant-loop-place : goal.invariant-loop-place
invariant-loop-place l = record {
  stored : (i : ℕ) → i < l.place → get_or l.colours (get_or l.list i 0) 0 ≡ get_or l.values i 0;
  others : (x : ℕ) → ((i : ℕ) → i < l.place → get_or l.list i 0 ≡ x → ⊥)
      → get_or l.colours x 0 ≡ get_or l.initial.colours x 0;
}
