-- The look keeps the rule, by which no event names a number that was not given.
use Rattle.std.proofs.Common.{rules, arith}
use mathlib.Core.Option.{none}
use Rattle.atomic_table.specs.Table.{step}
use Rattle.turn_gate.proofs.Learning.{learns, unchanged}
use Rattle.turn_gate.proofs.gate.Gate.see_fresh.Goals as goal

pub load-requires : goal.load-requires
load-requires g c = (
  c.requires.of.same,
  search rules,
  learns _ _ _ _ _ _ _ (step c.args.self.now.table.shared.table_id.slots 0 0 0 none) c.requires.of.out,
)

pub returns-clause-knows : goal.returns-clause-knows
returns-clause-knows g c =
    unchanged g.V.Stands.number c.args.self.now c.args.pass.now
    (step c.args.self.now.table.shared.table_id.slots 0 0 0 none) c.load.result _ c.requires.of c.load.ensures.2

pub returns-clause-fresh : goal.returns-clause-fresh
returns-clause-fresh g c = c.load.ensures.2.named c.requires.root _ (omega arith)
