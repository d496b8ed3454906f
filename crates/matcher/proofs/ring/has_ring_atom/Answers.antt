use Rattle.std.proofs.Common.{◌<◌, ap, arith, below_more, length, refl, slice_index, subst, sym}
use Rattle.std.proofs.lemmas.Bool.{iff_false}
use Rattle.std.proofs.lemmas.List.{length-map}
use Rattle.chem_core.specs.Molecule.{ends_of}
use Rattle.smarts_mean.specs.Table.{HoldsIn}
use Rattle.smarts_parse.specs.Pattern.{graph_of, term_of}
use Rattle.matcher.proofs.Classes.{stands_at}
use Rattle.matcher.proofs.Rings.{smallest_of}
use Rattle.matcher.proofs.ring.has_ring_atom.Goals as goal

pub loop-atom-preserved-then-not-may_be : goal.loop-atom-preserved-then-not-may_be
loop-atom-preserved-then-not-may_be c = below_more _ _ c.loop-atom.invariant
    (λ image e at ring cycle on size.
    let task = c.args.task.now in
    let few = subst (λ n. c.args.place < n) (sym (length-map task.graph.now.atoms.items term_of)) c.requires.place in
    iff_false (rw (c.atoms-atoms.ensures.value, c.from.ensures) at c.may_be.ensures) c.if-not-may_be.true
    (stands_at (HoldsIn task.table.now) (graph_of task.graph.now) task.mol.now task.steps.now image c.args.place
    c.loop-atom.atom c.requires.ready few e at))

pub loop-atom-preserved : goal.loop-atom-preserved
loop-atom-preserved c = below_more _ _ c.loop-atom.invariant
    (λ image e at ring cycle on size.
    let task = c.args.task.now in
    let both = smallest_of (ends_of task.mol.now) c.loop-atom.atom c.small.result c.args.links ring c.small.ensures
    cycle on size in
    let some = both.0 in
    let le = both.1 in
    absurd (omega arith))

pub returns : goal.returns
returns c = λ _ image e ring cycle on size.
    let task = c.args.task.now in
    let few : c.args.place < length (graph_of task.graph.now).atoms = subst (λ n. c.args.place < n)
    (sym (length-map task.graph.now.atoms.items term_of)) c.requires.place in
    let within : slice_index image c.args.place < length task.mol.now.atoms = e.in_range c.args.place 0
    (omega (arith, e.one_each)) in
    c.loop-atom.invariant (slice_index image c.args.place)
    (omega (arith, within, ap length c.atoms-atoms.ensures.value, c.loop-atom-test.false)) image e refl ring cycle
    on size
