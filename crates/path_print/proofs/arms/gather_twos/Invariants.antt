use Rattle.std.proofs.Common.{ℕ, ◌*◌, ◌≤◌, ◌≡◌, ◌≢◌, List, [], ◌∷◌, length, take, Contains}
use Rattle.std.specs.Prelude.{All, AllPairs}
use Rattle.path_print.specs.declared.arms.Arm.{Arm}
use Rattle.path_print.specs.Path.{Family}
use Rattle.path_print.specs.Arms.{HasArm, Joint, AreJoints, IsArm, views_around}
use Rattle.path_print.proofs.arms.gather_twos.Given as goal

-- the arms that go on from those so far
abbrev pub invariant-loop-one : goal.invariant-loop-one
invariant-loop-one l = record {
  few : l.count ≤ 12 * l.one-index;
  size : length l.twos ≡ 144;
  each : All (IsArm (views_around l.middle) l.middle.atom 2) (take l.count l.twos);
  reached : (one : Arm) → Contains (take l.one-index l.ones) one → (family : Family) (z : ℕ) (js : List Joint)
      → AllPairs ◌≢◌ (z ∷ one.near ∷ l.middle.atom ∷ [])
      → AreJoints (views_around l.middle family) l.middle.atom (z ∷ one.near ∷ []) js
      → HasArm 2 (take l.count l.twos) (z ∷ one.near ∷ []);
}
