use Rattle.std.proofs.lemmas.Bool.{iff_false}
use Rattle.smarts_mean.specs.Table.{HoldsIn}
use Rattle.smarts_parse.specs.Pattern.{graph_of, term_of}
use Rattle.std.proofs.lemmas.List.{length-map}
use Rattle.std.proofs.Common.{◌<◌, ◌++◌, arith, subst, sym}
use Rattle.matcher.proofs.Groups.{keeps_front}
use Rattle.matcher.proofs.Refusals.{stands_before}
use Rattle.matcher.proofs.Standing.{cannot_stand}
use Rattle.matcher.proofs.refusal.may_stand.Goals as goal

pub has-requires : goal.has-requires
has-requires c =
    let few = c.requires.ready.searchable.few in
    omega (arith, few, c.requires.place, length-map c.args.task.now.graph.now.atoms.items term_of)

pub returns-then-not-has : goal.returns-then-not-has
returns-then-not-has c = λ _ few rest e is.
    cannot_stand c.args.task.now c.args.candidates.now.words.items (c.args.front.now ++ rest) c.args.place c.args.atom
    c.requires.candidates e c.requires.place (iff_false c.has.ensures c.if-not-has.true) is

pub returns-then-not-is_new : goal.returns-then-not-is_new
returns-then-not-is_new c = λ _ few rest e is.
    iff_false c.is_new.ensures c.if-not-is_new.true
    (λ old. stands_before (HoldsIn c.args.task.now.table.now)
    (graph_of c.args.task.now.graph.now) c.args.task.now.mol.now c.args.front.now rest c.args.place c.args.atom old
    few
    (subst (λ n. c.args.place < n) (sym (length-map c.args.task.now.graph.now.atoms.items term_of)) c.requires.place) e
    is)

pub returns : goal.returns
returns c = λ f few rest e is.
    iff_false c.keeps_groups.ensures f
    (keeps_front c.args.task.now c.args.front.now rest c.args.place c.args.atom e c.requires.place is)
