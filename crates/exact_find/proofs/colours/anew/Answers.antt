use Rattle.std.proofs.Common.{◌+◌, ◌%◌, ◌^◌, ◌++◌, ◌∷◌, [], ℕ, length, sum, ap, sym, ◌∙◌, refl, arith, length-append}
use Rattle.std.proofs.Math.Nat.{mod-add-mod}
use Rattle.exact_find.proofs.Images.{bond_within}
use Rattle.exact_find.proofs.Maps.{turned}
use Rattle.exact_find.proofs.Near.{near_bond, near_kind, near_within}
use Rattle.exact_find.proofs.Rounds.{seen-more}
use Rattle.exact_find.proofs.Sums.{sum_more}
use Rattle.exact_find.proofs.colours.anew.Goals as goal

pub bounds-bonds-from : goal.bounds-bonds-from
bounds-bonds-from c =
    let within = near_within c.args.mol.now c.args.atom c.neighbours-neighbours.result.now
    c.loop-neighbour.neighbour-index c.neighbours-neighbours.ensures.each c.loop-neighbour-test.true in
    omega (arith, within, c.from.ensures, ap length c.bonds.ensures.value)

pub bounds-colours-from : goal.bounds-colours-from
bounds-colours-from c =
    let bond = near_bond c.args.mol.now c.args.atom c.neighbours-neighbours.result.now c.loop-neighbour.neighbour-index
    c.neighbours-neighbours.ensures.each c.loop-neighbour-test.true in
    let within = bond_within c.args.mol.now _ c.args.atom bond.0 c.neighbours-neighbours.ensures.valid
    (turned c.args.mol.now c.args.atom _ bond.0 bond.1) in
    omega (arith, within, c.from-in-loop-neighbour.ensures, c.requires.room)

pub loop-neighbour-preserved : goal.loop-neighbour-preserved
loop-neighbour-preserved c =
    let before = c.loop-neighbour.invariant in
    let v : ℕ = c.through.result in
    let bond = near_kind c.args.mol.now c.args.atom _ c.neighbours-neighbours.result.now
    c.loop-neighbour.neighbour-index c.bonds.result.now c.from.result _ c.neighbours-neighbours.ensures.each
    c.loop-neighbour-test.true c.bonds.ensures.value c.from.ensures refl in (
      before.0 ++ v ∷ [],
      omega (arith, before.1, length-append before.0 (v ∷ [])),
      seen-more c.args.mol.now c.args.colours.now c.args.atom c.neighbours-neighbours.result.now before.0
          c.loop-neighbour.neighbour-index v c.from-in-loop-neighbour.result _ before.1 c.bonds.ensures.valid bond
          c.from-in-loop-neighbour.ensures c.through.ensures before.2,
      c.add-seen.ensures ∙ ap (λ s. (s + v) % 2 ^ 64) before.3 ∙ mod-add-mod (sum before.0) (2 ^ 64) v
          ∙ ap (λ s. s % 2 ^ 64) (sym (sum_more before.0 v)),
    )
