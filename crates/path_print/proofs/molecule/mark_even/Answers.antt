use Rattle.std.proofs.Common.{◌≡◌, length, get_or, take, subst, arith}
use Rattle.path_print.specs.Texts.{SetsBits}
use Rattle.path_print.specs.Arms.{IsBitAt, IsBitOfSome, IsBitThrough, path_of, views_around}
use Rattle.path_print.proofs.Ways.{sets_next, sets_same}
use Rattle.path_print.proofs.Joints.{blank}
use Rattle.path_print.proofs.Around.{IsBitInRow, row_there, row_back, sets_next_none}
use Rattle.path_print.proofs.molecule.mark_even.Goals as goal

pub loop-place-init : goal.loop-place-init
loop-place-init c =
    let middle = c.args.middle.now in
    sets_next_none (λ i. IsBitOfSome (λ last. IsBitAt (views_around middle)
    (path_of c.args.atoms (get_or c.args.row.now i blank) middle.atom c.args.atoms last)) (take i c.args.row.now))
    c.args.print.now

pub loop-place-preserved : goal.loop-place-preserved
loop-place-preserved c =
    let l = c.loop-place in
    let middle = c.args.middle.now in
    sets_next (λ i. IsBitOfSome (λ last. IsBitAt (views_around middle)
    (path_of c.args.atoms (get_or c.args.row.now i blank) middle.atom c.args.atoms last)) (take i c.args.row.now))
    l.place c.args.print.now l.print c.mark_from.new.print l.invariant c.mark_from.ensures

pub returns : goal.returns
returns c =
    let l = c.loop-place in
    let middle = c.args.middle.now in
    let views = views_around middle in
    let row = c.args.row.now in
    let atoms = c.args.atoms in
    let whole : l.place ≡ length row = omega arith in
    sets_same (IsBitInRow views middle.atom atoms row (length row)) (IsBitThrough views middle.atom atoms atoms)
    c.args.print.now l.print (row_there views middle.atom atoms row c.requires.few c.requires.row)
    (row_back views middle.atom atoms row c.requires.few c.requires.row c.requires.some)
    (subst (λ n. SetsBits (IsBitInRow views middle.atom atoms row n) c.args.print.now l.print) whole l.invariant)
