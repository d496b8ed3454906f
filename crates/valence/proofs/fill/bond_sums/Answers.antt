use Rattle.std.proofs.Common.{refl}
use Rattle.std.proofs.lemmas.List.{length-set}
use Rattle.valence.specs.Valence.{adds}
use Rattle.valence.proofs.Sums.{zeros, tally-more, adds-at}
use Rattle.valence.proofs.fill.bond_sums.Goals as goal

pub loop-bond-init : goal.loop-bond-init
loop-bond-init c = record { long = refl; each = zeros 999 }

pub loop-bond-preserved : goal.loop-bond-preserved
loop-bond-preserved c =
    let within = c.loop-bond-test.true in
    let long = c.loop-bond.invariant.long in
    let range = c.requires.in_range _ _ within in
    record {
      long = rw (length-set, length-set) long;
      each =
          rw (c.from.ensures, c.from-in-loop-bond.ensures)
          (tally-more adds _ c.args.bonds.now c.loop-bond.bond-index _ _ _ within (rw long range.0) (rw long range.1)
          (c.requires.distinct _ _ within) (adds-at _ _ c.order-order.ensures.value) c.loop-bond.invariant.each);
    }
