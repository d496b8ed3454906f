-- A split is a step of the rule.
use Rattle.std.proofs.Common.{rules, ◌∙◌}
use Rattle.turn_gate.proofs.Parting.{splits}
use Rattle.turn_gate.proofs.gate.Gate.split.Goals as goal

pub split_seat-requires : goal.split_seat-requires
split_seat-requires g c = (
  c.see_fresh.ensures.same ∙ c.requires.of.same,
  search rules,
  rw c.see_fresh.ensures.knows (splits _ _ _ _ _ _ c.requires.root c.requires.of.out),
)
