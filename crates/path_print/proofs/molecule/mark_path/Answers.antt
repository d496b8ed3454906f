use Rattle.std.proofs.Common.{◌≤◌, arith}
use Rattle.path_print.specs.Path.{exact, plain}
use Rattle.path_print.specs.Arms.{path_of, views_around}
use Rattle.path_print.proofs.Molecules.{molecule_symmetric}
use Rattle.path_print.proofs.Joints.{arm_half}
use Rattle.path_print.proofs.Paths.{both_set, path_with}
use Rattle.path_print.proofs.molecule.mark_path.Goals as goal

pub bit_between-exact-requires-clause-first : goal.bit_between-exact-requires-clause-first
bit_between-exact-requires-clause-first c =
    arm_half (views_around c.args.middle.now) c.args.middle.now.atom c.args.before c.args.first.now exact c.requires.few
    c.requires.first

pub bit_between-exact-requires-clause-last : goal.bit_between-exact-requires-clause-last
bit_between-exact-requires-clause-last c =
    arm_half (views_around c.args.middle.now) c.args.middle.now.atom c.args.behind c.args.last.now exact (omega arith)
    c.requires.last

pub bit_between-plain-requires-clause-first : goal.bit_between-plain-requires-clause-first
bit_between-plain-requires-clause-first c =
    arm_half (views_around c.args.middle.now) c.args.middle.now.atom c.args.before c.args.first.now plain c.requires.few
    c.requires.first

pub bit_between-plain-requires-clause-last : goal.bit_between-plain-requires-clause-last
bit_between-plain-requires-clause-last c =
    arm_half (views_around c.args.middle.now) c.args.middle.now.atom c.args.behind c.args.last.now plain (omega arith)
    c.requires.last

pub returns : goal.returns
returns c =
    let middle = c.args.middle.now in
    let views = views_around middle in
    let symmetric = molecule_symmetric middle.mol.now in
    let first = c.args.first.now in
    let last = c.args.last.now in
    let before = c.args.before in
    let behind = c.args.behind in
    let few : behind ≤ 2 = omega arith in
    both_set views (path_of before first middle.atom behind last) c.bit_between-exact.result c.bit_between-plain.result
    c.args.print.now c.mark.new.print c.mark-2.new.print
    (path_with views symmetric middle.atom before behind first last exact middle.labels.exact c.bit_between-exact.result
    (c.requires.middle.labels exact) c.requires.few few c.requires.first c.requires.last c.requires.distinct
    c.bit_between-exact.ensures.value)
    (path_with views symmetric middle.atom before behind first last plain middle.labels.plain c.bit_between-plain.result
    (c.requires.middle.labels plain) c.requires.few few c.requires.first c.requires.last c.requires.distinct
    c.bit_between-plain.ensures.value)
    c.mark.ensures c.mark-2.ensures
