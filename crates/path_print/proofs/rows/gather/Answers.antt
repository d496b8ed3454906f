use Rattle.std.proofs.Common.{◌≡◌, ◌≤◌, length, subst, arith}
use Rattle.path_print.proofs.Neighbours.{AreGathered, gathered_ends}
use Rattle.path_print.proofs.rows.gather.Goals as goal

pub returns-clause-ends : goal.returns-clause-ends
returns-clause-ends c =
    let l = c.loop-to in
    let few = l.invariant.ends.few in
    let size = l.invariant.size in
    let whole : l.to ≡ c.args.atoms = omega arith in
    let room : l.count ≤ length l.ends = omega (arith, few, size, whole, c.requires.few) in
    gathered_ends c.args.atoms c.args.square.now c.args.atom l.ends l.count room
    (subst (λ to. AreGathered c.args.atoms c.args.square.now c.args.atom l.ends l.count to) whole l.invariant.ends)
