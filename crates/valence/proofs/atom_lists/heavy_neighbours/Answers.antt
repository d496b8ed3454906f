use Rattle.std.proofs.Common.{refl, arith}
use Rattle.std.proofs.lemmas.List.{length-set}
use Rattle.valence.proofs.Flags.{unset, leads-more}
use Rattle.valence.proofs.atom_lists.heavy_neighbours.Goals as goal

pub loop-bond-init : goal.loop-bond-init
loop-bond-init c = record { long = refl; each = unset 999 }

pub loop-bond-preserved : goal.loop-bond-preserved
loop-bond-preserved c =
    let within = c.loop-bond-test.true in
    let long = c.loop-bond.invariant.long in
    let range = c.requires.in_range _ _ within in
    let few = c.requires.few in
    record {
      long = rw (length-set, length-set) long;
      each =
          rw (c.from-a.ensures, c.from-b.ensures)
          (leads-more c.args.atoms.now c.loop-bond.leads c.args.bonds.now c.loop-bond.bond-index
          c.is_single_to_heavy.result
          c.is_single_to_heavy-in-loop-bond.result _ _ within (rw long (omega (arith, range.0)))
          (rw long (omega (arith, range.1))) range.0 range.1 (c.requires.distinct _ _ within)
          (rw c.from-b.ensures at c.is_single_to_heavy.ensures)
          (rw c.from-a.ensures at c.is_single_to_heavy-in-loop-bond.ensures)
          c.loop-bond.invariant.each);
    }
