use Rattle.std.proofs.Common.{ℕ, ◌<◌, get_or}
use Rattle.exact_find.specs.Colours.{IsNew}
use Rattle.exact_find.proofs.colours.work_out.Given as goal

abbrev pub invariant-loop-place : goal.invariant-loop-place
invariant-loop-place l = (i : ℕ) → i < l.place → IsNew l.mol l.colours (get_or l.list i 0) (get_or l.next i 0)
