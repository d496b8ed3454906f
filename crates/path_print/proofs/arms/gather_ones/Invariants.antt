use Rattle.std.proofs.Common.{ℕ, ◌<◌, ◌≡◌, [], ◌∷◌, length, get_or, take}
use Rattle.std.specs.Prelude.{All}
use Rattle.path_print.specs.Arms.{HasArm, IsArm, views_around}
use Rattle.path_print.proofs.arms.gather_ones.Given as goal

-- the arms to the neighbours so far
abbrev pub invariant-loop-to : goal.invariant-loop-to
invariant-loop-to l = record {
  count : l.count ≡ l.to-index;
  size : length l.ones ≡ 12;
  each : All (IsArm (views_around l.middle) l.middle.atom 1) (take l.count l.ones);
  reached : (k : ℕ) → k < l.to-index → HasArm 1 (take l.count l.ones) ((get_or l.to-items k (0, 0)).0 ∷ []);
}
