use Rattle.std.proofs.Common.{ℕ, cond, refl}
use Rattle.chem_core.specs.declared.sketch.SketchBond.{SketchBond}
use Rattle.chem_core.specs.Sketch.{ends_at}
use Rattle.valence.proofs.Sums.{zeros, tally-first-fits, tally-second-fits, ends-at}
use Rattle.valence.proofs.atom_lists.degrees.Goals as goal

abbrev one : ℕ → SketchBond → ℕ
one a b = cond (ends_at a b) 1 0

pub loop-bond-init : goal.loop-bond-init
loop-bond-init c = record { long = refl; each = zeros 999 }

pub overflow_add-degrees : goal.overflow_add-degrees
overflow_add-degrees c =
    tally-first-fits one c.loop-bond.degrees c.args.bonds.now c.loop-bond.bond-index 1 1 _ c.from.result c.from.ensures
    c.loop-bond-test.true (ends-at _ _) c.loop-bond.invariant.each c.requires.few

pub overflow_add-degrees-in-loop-bond : goal.overflow_add-degrees-in-loop-bond
overflow_add-degrees-in-loop-bond c =
    tally-second-fits one c.loop-bond.degrees c.args.bonds.now c.loop-bond.bond-index 1 1 _ c.from.result
    c.from-in-loop-bond.result c.from.ensures c.from-in-loop-bond.ensures c.loop-bond-test.true
    (c.requires.distinct _ _ c.loop-bond-test.true) (ends-at _ _) c.loop-bond.invariant.each c.requires.few
