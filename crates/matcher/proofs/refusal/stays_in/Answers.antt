use Rattle.std.proofs.Common.{◌<◌, ◌++◌, ◌∙◌, ap, arith, below_more, false, get_or, length, refl, slice_index, sym}
use Rattle.std.proofs.lemmas.List.{length-map}
use Rattle.chem_core.specs.Molecule.{ends_of}
use Rattle.chem_core.proofs.Components.{reaches_self}
use Rattle.smarts_parse.specs.Pattern.{term_of}
use Rattle.matcher.proofs.refusal.stays_in.Goals as goal

pub bounds-components-from : goal.bounds-components-from
bounds-components-from c =
    let least = c.component.ensures.1 c.loop-atom.atom (reaches_self (ends_of c.args.task.now.mol.now) c.loop-atom.atom)
    in
    omega (
      arith,
      least,
      c.from.ensures,
      c.loop-atom-test.true,
      ap length c.atoms.ensures.value,
      c.requires.components,
    )

pub loop-atom-preserved-then-components-from : goal.loop-atom-preserved-then-components-from
loop-atom-preserved-then-components-from c =
    let marked = ap (λ k. get_or c.args.components.now k false) (sym c.from.ensures) ∙ c.if-components-from.true in
    below_more _ _ c.loop-atom.invariant (λ _ _ _. (c.component.result, c.component.ensures, marked))

pub loop-atom-preserved : goal.loop-atom-preserved
loop-atom-preserved c =
    below_more _ _ c.loop-atom.invariant
    (λ rest e at. absurd (c.may_stand.ensures c.if-may_stand.false c.if-place-front.false rest e at))

pub returns : goal.returns
returns c = λ _ rest e.
    let task = c.args.task.now in
    let at = slice_index (c.args.front.now ++ rest) c.args.place in
    let size = e.one_each in
    let within : at < length task.mol.now.atoms = e.in_range c.args.place 0
    (omega (arith, c.requires.place, length-map task.graph.now.atoms.items term_of)) in
    c.loop-atom.invariant at (omega (arith, within, ap length c.atoms.ensures.value, c.loop-atom-test.false)) rest e refl
