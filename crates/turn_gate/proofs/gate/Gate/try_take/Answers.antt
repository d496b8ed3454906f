-- A try is a step of the rule.
use Rattle.std.proofs.Common.{rules}
use mathlib.Core.Option.{none}
use Rattle.atomic_table.specs.Table.{step}
use Rattle.turn_gate.proofs.Lists.{has_head}
use Rattle.turn_gate.proofs.Keeps.{takes}
use Rattle.turn_gate.proofs.gate.Gate.try_take.Goals as goal

pub compare_exchange-requires : goal.compare_exchange-requires
compare_exchange-requires g c =
    let of = c.requires.of in
    let number = has_head _ of.numbered in (
      of.same,
      search rules,
      takes _ _ _ _ _ _ _ (step c.args.self.now.table.shared.table_id.slots 1 0 1 none) of.out number.0 number.1,
    )
