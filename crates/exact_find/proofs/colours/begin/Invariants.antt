use Rattle.std.proofs.Common.{◌≡◌, ℕ, ◌<◌, get_or}
use Rattle.exact_find.specs.Colours.{levelled}
use Rattle.exact_find.proofs.colours.begin.Given as goal

abbrev pub invariant-loop-atom : goal.invariant-loop-atom
invariant-loop-atom l = record {
  each : (i : ℕ) → i < l.atom-index → get_or l.colours (get_or l.list i 0) 0
      ≡ levelled (get_or l.initial.colours (get_or l.list i 0) 0) (get_or l.levels (get_or l.list i 0) 0);
  others : (x : ℕ) → ((i : ℕ) → i < l.atom-index → get_or l.list i 0 ≡ x → ⊥)
      → get_or l.colours x 0 ≡ get_or l.initial.colours x 0;
}
