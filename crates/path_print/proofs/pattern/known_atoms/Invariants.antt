use Rattle.std.proofs.Common.{ℕ, ◌<◌, ◌≡◌, length}
use Rattle.std.specs.Prelude.{slice_get, option_map}
use Rattle.smarts_parse.specs.Pattern.{graph_of}
use Rattle.path_print.specs.Implied.{implied}
use Rattle.path_print.proofs.pattern.known_atoms.Given as goal

-- what each atom so far implies
abbrev pub invariant-loop-place : goal.invariant-loop-place
invariant-loop-place l = record {
  size : length l.known ≡ 256;
  each : (j : ℕ) → j < l.place → slice_get l.known j ≡ option_map implied (slice_get (graph_of l.graph).atoms j);
}
