use Rattle.std.proofs.Common.{ap, arith, below_more, length}
use Rattle.std.proofs.lemmas.Bool.{iff_false}
use Rattle.std.proofs.lemmas.List.{length-map}
use Rattle.smarts_parse.specs.Pattern.{term_of}
use Rattle.matcher.proofs.Groups.{candidates_less, nowhere_all, nowhere_candidate}
use Rattle.matcher.proofs.grouping.Grouping.narrow.Goals as goal

pub has-requires : goal.has-requires
has-requires c =
    let few = c.requires.ready.searchable.few in
    omega (arith, few, c.requires.place, length-map c.args.task.now.graph.now.atoms.items term_of)

pub loop-atom-preserved-then-not-has : goal.loop-atom-preserved-then-not-has
loop-atom-preserved-then-not-has c =
    let i = c.loop-atom.invariant in
    record {
      candidates = i.candidates;
      nowhere = λ none. below_more _ _ (i.nowhere none)
          (nowhere_candidate c.args.task.now _ c.args.place c.loop-atom.atom i.candidates c.requires.place
          (iff_false c.has.ensures c.if-not-has.true));
    }

pub loop-atom-preserved : goal.loop-atom-preserved
loop-atom-preserved c =
    let i = c.loop-atom.invariant in
    let nowhere = c.may_begin.ensures c.if-may_begin.false in
    record {
      candidates = candidates_less c.args.task.now _ _ c.args.place c.loop-atom.atom c.requires.ready i.candidates
          c.remove.ensures.others c.remove.ensures.fewer nowhere;
      nowhere = λ none. below_more _ _ (i.nowhere none) nowhere;
    }

pub returns-clause-refused : goal.returns-clause-refused
returns-clause-refused c = λ none. nowhere_all c.args.task.now c.args.place c.requires.place
    (λ a l. c.loop-atom.invariant.nowhere none a (omega (
      arith,
      l,
      ap length c.atoms.ensures.value,
      c.loop-atom-test.false,
    )))
