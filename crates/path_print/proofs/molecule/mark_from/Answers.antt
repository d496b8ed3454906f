use Rattle.std.proofs.Common.{get_or, subst, sym, arith}
use Rattle.std.specs.Prelude.{IsTrue}
use Rattle.std.proofs.lemmas.Bool.{false≢true}
use Rattle.path_print.specs.declared.arms.Arm.{Arm}
use Rattle.path_print.specs.Texts.{SetsBits}
use Rattle.path_print.specs.Arms.{IsBitAt, path_of, views_around}
use Rattle.path_print.proofs.Ways.{sets_none}
use Rattle.path_print.proofs.Joints.{blank}
use Rattle.path_print.proofs.Paths.{apart_distinct, distinct_apart}
use Rattle.path_print.proofs.Around.{some_sets, some_sets_none, some_sets_all}
use Rattle.path_print.proofs.molecule.mark_from.Goals as goal
use Rattle.path_print.proofs.molecule.mark_from.Goals.{then-are_apart, else-are_apart}

pub loop-last-init : goal.loop-last-init
loop-last-init c =
    let middle = c.args.middle.now in
    some_sets_none (λ last. IsBitAt (views_around middle)
    (path_of c.args.before c.args.first.now middle.atom c.args.behind last)) c.args.row.now c.args.print.now

pub mark_path-requires-clause-distinct : goal.mark_path-requires-clause-distinct
mark_path-requires-clause-distinct c =
    let middle = c.args.middle.now in
    let last : Arm = get_or c.args.row.now c.loop-last.last-index blank in
    apart_distinct (views_around middle) middle.atom c.args.first.now last c.args.before c.args.behind c.requires.some
    c.requires.few c.requires.balanced c.requires.first
    (c.requires.row c.loop-last.last-index blank c.loop-last-test.true) (c.are_apart.ensures.0 c.if-are_apart.true)

pub loop-last-preserved : goal.loop-last-preserved
loop-last-preserved c =
    let l = c.loop-last in
    let middle = c.args.middle.now in
    let views = views_around middle in
    let first = c.args.first.now in
    let before = c.args.before in
    let behind = c.args.behind in
    let last : Arm = get_or c.args.row.now l.last-index blank in
    some_sets (λ last. IsBitAt views (path_of before first middle.atom behind last)) c.args.row.now l.last-index blank
    c.args.print.now l.print c.if-are_apart.print c.loop-last-test.true l.invariant
    (elim c.if-are_apart.branch [
      | then-are_apart w ↦
          subst (SetsBits (IsBitAt views (path_of before first middle.atom behind last)) l.print) (sym w.print-is)
          w.mark_path.ensures
      | else-are_apart w ↦
          subst (SetsBits (IsBitAt views (path_of before first middle.atom behind last)) l.print) (sym w.print-is)
          (sets_none (IsBitAt views (path_of before first middle.atom behind last)) l.print
          (λ bit at. false≢true (subst IsTrue w.if-are_apart.false
          (c.are_apart.ensures.1 (distinct_apart views middle.atom first last before behind c.requires.some
          c.requires.few c.requires.balanced c.requires.first (c.requires.row l.last-index blank c.loop-last-test.true)
          at.3.distinct)))))
    ])

pub returns : goal.returns
returns c =
    let l = c.loop-last in
    let middle = c.args.middle.now in
    some_sets_all (λ last. IsBitAt (views_around middle)
    (path_of c.args.before c.args.first.now middle.atom c.args.behind last)) c.args.row.now l.last-index
    c.args.print.now l.print (omega arith) l.invariant
