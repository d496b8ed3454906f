use Rattle.std.proofs.Common.{◌≡◌, ◌<◌, ℕ, get_or, vec_len}
use Rattle.exact_find.proofs.sides.copy.Given as goal

abbrev pub invariant-loop-place : goal.invariant-loop-place
invariant-loop-place l = record {
  same : vec_len l.to ≡ vec_len l.initial.to;
  copied : (x : ℕ) → x < l.place → get_or l.to.items x 0 ≡ get_or l.from x 0;
}
