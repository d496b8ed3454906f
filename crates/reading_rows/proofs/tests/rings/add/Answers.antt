use Rattle.std.proofs.Common.{◌<◌, length, arith}
use Rattle.reading_rows.proofs.Drawn.{drawn_more}
use Rattle.reading_rows.proofs.tests.rings.add.Goals as goal

pub returns : goal.returns
returns c =
    let few : length c.args.bonds.now.items < 12 = omega (arith, c.len.ensures) in
    let one : c.args.a < c.args.atoms = omega (arith, c.from.ensures) in
    let other : c.args.b < c.args.atoms = omega (arith, c.from-else-from-atoms.ensures) in
    let fresh = rw c.deref.ensures.value at c.if-is_joined.ensures in
    rw c.in_ok-push.ensures.items (drawn_more _ _ _ c.requires few one other c.if-a-b.false fresh)
