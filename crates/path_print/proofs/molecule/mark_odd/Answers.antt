use Rattle.std.proofs.Common.{ℕ, ◌+◌, get_or, subst, sym, arith}
use Rattle.path_print.specs.declared.arms.Arm.{Arm}
use Rattle.path_print.specs.Texts.{SetsBits}
use Rattle.path_print.specs.Arms.{IsBitAt, IsBitOfSome, IsBitThrough, path_of, views_around}
use Rattle.path_print.proofs.Ways.{sets_none, sets_same}
use Rattle.path_print.proofs.Joints.{blank}
use Rattle.path_print.proofs.Around.{IsBitFromLower, lower_there, lower_back, some_sets, some_sets_none, some_sets_all}
use Rattle.path_print.proofs.molecule.mark_odd.Goals as goal
use Rattle.path_print.proofs.molecule.mark_odd.Goals.{then-first-middle, else-first-middle}

pub loop-first-init : goal.loop-first-init
loop-first-init c =
    let middle = c.args.middle.now in
    some_sets_none (IsBitFromLower (views_around middle) middle.atom c.args.behind c.args.row.now) c.args.longer.now
    c.args.print.now

pub loop-first-preserved : goal.loop-first-preserved
loop-first-preserved c =
    let l = c.loop-first in
    let middle = c.args.middle.now in
    let views = views_around middle in
    let behind = c.args.behind in
    let row = c.args.row.now in
    let first : Arm = get_or c.args.longer.now l.first-index blank in
    let here : ℕ → Type 0 = IsBitFromLower views middle.atom behind row first in
    some_sets (IsBitFromLower views middle.atom behind row) c.args.longer.now l.first-index blank c.args.print.now
    l.print c.if-first-middle.print c.loop-first-test.true l.invariant
    (elim c.if-first-middle.branch [
      | then-first-middle w ↦
          subst (SetsBits here l.print) (sym w.print-is)
          (sets_same (IsBitOfSome (λ last. IsBitAt views (path_of (behind + 1) first middle.atom behind last)) row) here
          l.print w.mark_from.new.print (λ bit some. (w.if-first-middle.true, some)) (λ bit low. low.1)
          w.mark_from.ensures)
      | else-first-middle w ↦
          subst (SetsBits here l.print) (sym w.print-is)
          (sets_none here l.print (λ bit low. let lt = low.0 in let ge = w.if-first-middle.false in omega arith))
    ])

pub returns : goal.returns
returns c =
    let l = c.loop-first in
    let middle = c.args.middle.now in
    let views = views_around middle in
    let behind = c.args.behind in
    let longer = c.args.longer.now in
    let row = c.args.row.now in
    sets_same (IsBitOfSome (IsBitFromLower views middle.atom behind row) longer)
    (IsBitThrough views middle.atom (behind + 1) behind) c.args.print.now l.print
    (lower_there views middle.atom behind longer row c.requires.few c.requires.longer c.requires.row)
    (lower_back views middle.atom behind longer row c.requires.few c.requires.longer c.requires.row)
    (some_sets_all (IsBitFromLower views middle.atom behind row) longer l.first-index c.args.print.now l.print
    (omega arith) l.invariant)
