use Rattle.std.proofs.Common.{ℕ, ◌+◌, ◌<◌, ◌≤◌, ◌≡◌, ◌≢◌, [], ◌∷◌, length, get_or, take, Contains}
use Rattle.std.specs.Prelude.{All}
use Rattle.path_print.specs.declared.arms.Arm.{Arm}
use Rattle.path_print.specs.Arms.{HasArm, IsArm, views_around}
use Rattle.path_print.proofs.arms.gather_behind.Given as goal

-- the arms that go on to the neighbours so far, behind those that were there
abbrev pub invariant-loop-to : goal.invariant-loop-to
invariant-loop-to l = record {
  few : l.count ≤ l.start + l.to-index;
  size : length l.twos ≡ length l.fn.twos;
  each : All (IsArm (views_around l.middle) l.middle.atom 2) (take l.start l.fn.twos)
      → All (IsArm (views_around l.middle) l.middle.atom 2) (take l.count l.twos);
  kept : (arm : Arm) → Contains (take l.start l.fn.twos) arm → Contains (take l.count l.twos) arm;
  reached : (k : ℕ) → k < l.to-index → (get_or l.to-items k (0, 0)).0 ≢ l.middle.atom
      → HasArm 2 (take l.count l.twos) ((get_or l.to-items k (0, 0)).0 ∷ l.one.near ∷ []);
}
