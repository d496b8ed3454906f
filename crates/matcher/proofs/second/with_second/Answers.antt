use Rattle.std.proofs.Common.{◌<◌, ap, arith, length, refl, subst, sym}
use Rattle.std.proofs.lemmas.List.{length-map}
use Rattle.std.proofs.lemmas.Nat.Bits.{bit_at-lt, bit_at_and}
use Rattle.smarts_mean.specs.Table.{HoldsIn}
use Rattle.smarts_parse.specs.Pattern.{graph_of, term_of}
use Rattle.matcher.proofs.Seconds.{second_begins}
use Rattle.matcher.proofs.second.with_second.Goals as goal

pub returns-clause-within : goal.returns-clause-within
returns-clause-within c = λ i l t.
    let both = bit_at_and c.args.all c.leading_to.result i in
    let one = bit_at-lt c.args.all i in
    let two = bit_at-lt c.leading_to.result i in
    omega arith

pub returns-clause-begins : goal.returns-clause-begins
returns-clause-begins c = λ i l mine w.
    let task = c.args.task.now in
    second_begins (HoldsIn task.table.now) (graph_of task.graph.now) task.mol.now
    c.args.candidates.now.words.items task.steps.now task.graph.now.bonds.items c.index-bond.result.now c.args.block
    c.args.all c.index.result.now c.leading_to.result i (omega (arith, ap length c.atoms.ensures.value)) refl
    c.requires.ready (subst (λ n. 1 < n) (sym (length-map task.graph.now.atoms.items term_of)) c.requires.some)
    c.requires.truths (omega arith) c.index-bond.ensures (omega (arith, c.args.candidates.now.room))
    c.index.ensures c.leading_to.ensures.all l mine w
