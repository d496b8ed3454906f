use Rattle.std.proofs.Common.{◌++◌, ◌∷◌, [], ◌+◌, ◌∙◌, ap, arith, false, length, refl, true}
use Rattle.std.proofs.lemmas.Bool.{ltb-true}
use Rattle.std.proofs.lemmas.List.{length_push}
use Rattle.chem_core.specs.Component.{Reaches}
use Rattle.chem_core.specs.Molecule.{ends_of}
use Rattle.chem_core.proofs.Components.{component_same, reaches_back}
use Rattle.matcher.proofs.Groups.{marked_more}
use Rattle.matcher.proofs.Pigeons.{marks_push_no, marks_push_yes}
use Rattle.matcher.proofs.group.has_few_atoms.Goals as goal

pub loop-other-init : goal.loop-other-init
loop-other-init c = record { few = omega arith; marked = ([], refl, refl, λ a l r. absurd (omega arith)) }

pub loop-other-preserved-then-component : goal.loop-other-preserved-then-component
loop-other-preserved-then-component c =
    let ends = ends_of c.args.mol.now in
    let other = c.loop-other.other in
    let few = c.loop-other.invariant.few in
    let seats = c.loop-other.invariant.marked in
    record {
      few = omega arith;
      marked = (
        seats.0 ++ false ∷ [],
        length_push seats.0 false ∙ ap (λ n. n + 1) seats.1,
        marks_push_no seats.0 ∙ seats.2,
        marked_more (λ a. Reaches ends c.args.atom a) seats.0 false other seats.1 seats.3
            (λ walk. absurd (c.if-component.true
            ((component_same ends other c.args.atom _ _ c.component.ensures c.component-component.ensures).1
            (reaches_back ends c.args.atom other walk)))),
      );
    }

pub loop-other-preserved : goal.loop-other-preserved
loop-other-preserved c =
    let ends = ends_of c.args.mol.now in
    let few = c.loop-other.invariant.few in
    let seats = c.loop-other.invariant.marked in
    record {
      few = omega arith;
      marked = (
        seats.0 ++ true ∷ [],
        length_push seats.0 true ∙ ap (λ n. n + 1) seats.1,
        marks_push_yes seats.0 ∙ ap (λ n. n + 1) seats.2,
        marked_more (λ a. Reaches ends c.args.atom a) seats.0 true c.loop-other.other seats.1 seats.3 (λ walk. refl),
      );
    }

pub returns : goal.returns
returns c = λ t.
    let seats = c.loop-other.invariant.marked in
    let fewer = ltb-true _ _ t in
    record {
      marks = seats.0;
      all = λ a l walk. seats.3 a (omega (arith, l, ap length c.atoms.ensures.value, c.loop-other-test.false)) walk;
      few = omega (arith, fewer, seats.2);
    }
