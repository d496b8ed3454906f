use Rattle.std.proofs.Common.{◌≤◌, length, arith}
use Rattle.mol_finish.proofs.Namings.{from_start, naming_done}
use Rattle.mol_finish.proofs.components.name_from.Goals as goal

pub loop-next-init : goal.loop-next-init
loop-next-init c =
    let start = from_start _ _ _ _ c.requires.graph c.requires.before c.requires.in_range c.requires.unnamed
    c.requires.least in
    rw (c.in_ok-push.ensures.items, c.clear.ensures.items, c.from.ensures)
    (record { from = start.0; named = start.1 })

pub returns-clause-after : goal.returns-clause-after
returns-clause-after c =
    let all : length c.loop-next.queue.items ≤ c.loop-next.next = omega arith in
    naming_done _ _ _ _ _ c.loop-next.invariant.from.naming all
