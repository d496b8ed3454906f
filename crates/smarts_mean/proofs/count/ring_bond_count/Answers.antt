-- The bonds to the neighbours are looked at in turn.
use Rattle.std.proofs.Common.{◌≡◌, arith, length, sym, subst, ◌+◌}
use Rattle.std.proofs.lemmas.Bool.{iff_false}
use Rattle.chem_core.specs.Graph.{IsRingBond}
use Rattle.chem_core.specs.Molecule.{ends_of}
use Rattle.smarts_mean.proofs.Chosen.{Chosen, chosen_no, chosen_yes, neighbour_in_range, ring_bonds_counted}
use Rattle.smarts_mean.proofs.count.ring_bond_count.Goals as goal
use Rattle.smarts_mean.proofs.count.ring_bond_count.Goals.{then-ring_bond, else-ring_bond}

pub ring_bond-requires : goal.ring_bond-requires
ring_bond-requires c =
    (neighbour_in_range c.args.mol.now c.args.atom c.neighbours-neighbours.result.now c.loop-bond.bond-index
    (0, 0) c.neighbours-neighbours.ensures.valid c.neighbours-neighbours.ensures.each c.loop-bond-test.true).1

pub loop-bond-preserved : goal.loop-bond-preserved
loop-bond-preserved c =
    let m = c.args.mol.now in
    let pairs = c.neighbours-neighbours.result.now in
    let k = c.loop-bond.bond-index in
    elim c.if-ring_bond.branch [
      | then-ring_bond w ↦ subst (λ n. Chosen (λ p. IsRingBond (ends_of m) p.1) pairs (k + 1) n) (sym w.count-is)
          (chosen_yes (λ p. IsRingBond (ends_of m) p.1) (ends_of m) c.args.atom pairs k c.loop-bond.count
          c.neighbours-neighbours.ensures.each c.loop-bond-test.true
          (c.ring_bond.ensures.0 w.if-ring_bond.true) c.loop-bond.invariant)
      | else-ring_bond w ↦ subst (λ n. Chosen (λ p. IsRingBond (ends_of m) p.1) pairs (k + 1) n) (sym w.count-is)
          (chosen_no (λ p. IsRingBond (ends_of m) p.1) pairs k c.loop-bond.count
          (iff_false c.ring_bond.ensures w.if-ring_bond.false) c.loop-bond.invariant)
    ]

pub returns : goal.returns
returns c =
    let m = c.args.mol.now in
    let pairs = c.neighbours-neighbours.result.now in
    let all : c.loop-bond.bond-index ≡ length pairs = omega arith in
    ring_bonds_counted (ends_of m) c.args.atom pairs c.loop-bond.count c.neighbours-neighbours.ensures.each
    (subst (λ k. Chosen (λ p. IsRingBond (ends_of m) p.1) pairs k c.loop-bond.count) all c.loop-bond.invariant)
