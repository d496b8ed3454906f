-- The neighbours are looked at in turn.
use Rattle.std.proofs.Common.{◌≡◌, arith, length, get_or, eqb, sym, subst, true, ◌∙◌, ◌+◌}
use Rattle.std.proofs.lemmas.Bool.{eq-eqb, eqb-true}
use Rattle.chem_core.specs.Molecule.{ends_of}
use Rattle.smarts_parse.specs.Truth.{is_hydrogen}
use Rattle.smarts_mean.proofs.Chosen.{Chosen, no_atom, chosen_no, chosen_yes, hydrogen_read, neighbour_in_range, neighbours_counted}
use Rattle.smarts_mean.proofs.count.hydrogen_count.Goals as goal
use Rattle.smarts_mean.proofs.count.hydrogen_count.Goals.{then-atoms-from-eq1, else-atoms-from-eq1}

pub bounds-atoms-from : goal.bounds-atoms-from
bounds-atoms-from c =
    let both = neighbour_in_range c.args.mol.now c.args.atom c.neighbours-neighbours.result.now
    c.loop-neighbour.neighbour-index (0, 0) c.neighbours-neighbours.ensures.valid
    c.neighbours-neighbours.ensures.each c.loop-neighbour-test.true in
    rw (c.from.ensures, c.atoms-atoms.ensures.value) both.0

-- whether the neighbour is hydrogen
read : (c : goal.Joined-atoms-from-eq1) → is_hydrogen c.args.mol.now
    (get_or c.neighbours-neighbours.result.now c.loop-neighbour.neighbour-index (0, 0)).0
    ≡ eqb (get_or c.atoms-atoms.result.now c.from.result no_atom).number 1
read c =
    let m = c.args.mol.now in
    let place = (get_or c.neighbours-neighbours.result.now c.loop-neighbour.neighbour-index (0, 0)).0 in
    let both = neighbour_in_range m c.args.atom c.neighbours-neighbours.result.now c.loop-neighbour.neighbour-index
    (0, 0) c.neighbours-neighbours.ensures.valid c.neighbours-neighbours.ensures.each c.loop-neighbour-test.true in
    rw (c.from.ensures, c.atoms-atoms.ensures.value) (hydrogen_read m place no_atom both.0)

pub loop-neighbour-preserved : goal.loop-neighbour-preserved
loop-neighbour-preserved c =
    let m = c.args.mol.now in
    let pairs = c.neighbours-neighbours.result.now in
    let k = c.loop-neighbour.neighbour-index in
    elim c.if-atoms-from-eq1.branch [
      | then-atoms-from-eq1 w ↦ subst (λ n. Chosen (λ p. is_hydrogen m p.0 ≡ true) pairs (k + 1) n) (sym w.count-is)
          (chosen_yes (λ p. is_hydrogen m p.0 ≡ true) (ends_of m) c.args.atom pairs k c.loop-neighbour.count
          c.neighbours-neighbours.ensures.each c.loop-neighbour-test.true
          (read c ∙ eq-eqb _ 1 w.if-atoms-from-eq1.true) c.loop-neighbour.invariant)
      | else-atoms-from-eq1 w ↦ subst (λ n. Chosen (λ p. is_hydrogen m p.0 ≡ true) pairs (k + 1) n) (sym w.count-is)
          (chosen_no (λ p. is_hydrogen m p.0 ≡ true) pairs k c.loop-neighbour.count
          (λ yes. w.if-atoms-from-eq1.false (eqb-true _ 1 (sym (read c) ∙ yes))) c.loop-neighbour.invariant)
    ]

pub returns-clause-value : goal.returns-clause-value
returns-clause-value c =
    let m = c.args.mol.now in
    let pairs = c.neighbours-neighbours.result.now in
    let all : c.loop-neighbour.neighbour-index ≡ length pairs = omega arith in
    neighbours_counted (is_hydrogen m) (ends_of m) c.args.atom pairs c.loop-neighbour.count
    c.neighbours-neighbours.ensures.each
    (subst (λ k. Chosen (λ p. is_hydrogen m p.0 ≡ true) pairs k c.loop-neighbour.count) all c.loop-neighbour.invariant)
