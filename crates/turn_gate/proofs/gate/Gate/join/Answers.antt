-- A join, and the look after it, keep the rule.
use Rattle.std.proofs.Common.{rules, ap, ◌∙◌, ◌≡◌, subst}
use mathlib.Core.Option.{none}
use Rattle.atomic_table.specs.Table.{step}
use Rattle.turn_gate.specs.Steps.{sat, joined as joined_views}
use Rattle.turn_gate.proofs.Lists.{empty_is}
use Rattle.turn_gate.proofs.Joining.{joins}
use Rattle.turn_gate.proofs.Learning.{learns, merged_of, still_of}
use Rattle.turn_gate.proofs.gate.Gate.join.Goals as goal

pub join_seat-requires : goal.join_seat-requires
join_seat-requires g c =
    let other = c.requires.other in
    let e = c.into_seat-seat.ensures in (
      c.requires.of.same,
      ap (λ s. s.table_id) e ∙ other.same,
      ap (λ s. s.me.1) e ∙ empty_is _ other.empty,
      search rules,
      joins _ _ _ _ _ _ _ _ c.requires.of.out (ap (λ s. s.me.0.stage) e ∙ other.out),
    )

pub load-requires : goal.load-requires
load-requires g c = (
  c.join_seat.ensures.0 ∙ c.requires.of.same,
  search rules,
  rw c.join_seat.ensures.2 (learns _ _ _ _ _ _ _ (step c.args.self.now.table.shared.table_id.slots 0 0 0 none)
      c.requires.of.out),
)

pub returns-clause-of : goal.returns-clause-of
returns-clause-of g c =
    still_of g.V.Stands.number c.args.self.now c.args.pass.now record { seat = c.into_seat-seat.result } record {
      seat =
          c.load.new.seat;
    } _ (step c.args.self.now.table.shared.table_id.slots 0 0 0 none) c.load.result
    c.requires.of (c.load.ensures.0 ∙ c.join_seat.ensures.0) c.join_seat.ensures.2 c.load.ensures.2

pub returns-clause-merged : goal.returns-clause-merged
returns-clause-merged g c =
    let joined = c.join_seat.ensures.2 in
    merged_of g.V.Stands.number c.args.self.now c.args.pass.now c.args.other record {
      seat =
          c.load.new.seat;
    } _ (step c.args.self.now.table.shared.table_id.slots 0 0 0 none) c.load.result c.requires.of c.requires.other
    (subst (λ s. c.join_seat.new.seat.me ≡ sat (joined_views c.args.pass.now.seat.me.0 s.me.0)
    c.args.pass.now.seat.me.1) c.into_seat-seat.ensures joined) c.load.ensures.2
