use Rattle.std.proofs.Common.{◌≡◌, ◌+◌, ◌-◌, length, take, drop}
use Rattle.std.specs.List.{AllByRecursion}
use Rattle.molfile_read.specs.Steps.{each}
use Rattle.molfile_read.specs.Atoms.{atom_read}
use Rattle.molfile_read.specs.Parts.{IsAtomLine}
use Rattle.molfile_read.proofs.Steps.{with_front}
use Rattle.molfile_read.proofs.atom.read_atoms.Given as goal

abbrev pub invariant-loop : goal.invariant-loop
invariant-loop l = record {
  read : with_front l.atoms.items (each atom_read (take (l.count - l.counter) l.lines))
      ≡ each atom_read (take l.count l.fn.lines);
  rest : drop (l.count - l.counter) l.lines ≡ drop l.count l.fn.lines;
  left : l.counter + length l.lines ≡ length l.fn.lines;
  many : length l.atoms.items ≡ l.counter;
  fields : AllByRecursion IsAtomLine l.atoms.items;
}
