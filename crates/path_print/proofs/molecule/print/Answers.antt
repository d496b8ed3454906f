use Rattle.std.proofs.Common.{◌≡◌, length, ap, subst, arith}
use Rattle.chem_core.specs.Molecule.{Molecule}
use Rattle.path_print.specs.Prints.{molecule_view}
use Rattle.path_print.specs.Texts.{SetsBits}
use Rattle.path_print.specs.Arms.{IsBitAround, IsBitBelow}
use Rattle.path_print.proofs.Molecules.{label_within}
use Rattle.path_print.proofs.Ways.{sets_next}
use Rattle.path_print.proofs.Around.{around_each}
use Rattle.path_print.proofs.molecule.print.Goals as goal

pub loop-place-preserved : goal.loop-place-preserved
loop-place-preserved c =
    let l = c.loop-place in
    let middle = c.of-middle.result in
    let views = molecule_view c.args.mol.now in
    let marks = c.mark_around.ensures in
    record {
      bits = sets_next (IsBitAround views) l.place c.empty-print.result l.print c.mark_around.new.print l.invariant.bits
          (subst (λ a. SetsBits (IsBitAround views a) l.print c.mark_around.new.print) c.of-middle.ensures.atom
          (subst
          (λ (m : Molecule). SetsBits (IsBitAround (molecule_view m) middle.atom) l.print c.mark_around.new.print)
          c.of-middle.ensures.mol marks.bits));
      ones = marks.ones;
      twos = marks.twos;
    }

pub returns : goal.returns
returns c =
    let l = c.loop-place in
    let views = molecule_view c.args.mol.now in
    let whole : l.place ≡ length c.args.mol.now.atoms = omega (arith, ap length c.atoms-place-end.ensures.value) in
    around_each views (length c.args.mol.now.atoms) c.empty-print.result l.print (label_within c.args.mol.now)
    c.empty-print.ensures.length c.empty-print.ensures.none
    (subst (λ n. SetsBits (IsBitBelow views n) c.empty-print.result l.print) whole l.invariant.bits)
