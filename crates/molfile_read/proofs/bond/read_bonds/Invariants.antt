use Rattle.std.proofs.Common.{◌≡◌, ℕ, ◌+◌, ◌-◌, ◌<◌, ◌==◌, ◌&&◌, length, take, drop, []}
use Rattle.std.specs.List.{list_any}
use Rattle.molfile_read.specs.Bonds.{bonds_read, are_joined}
use Rattle.molfile_read.specs.Parts.{AreBondsAmong}
use Rattle.molfile_read.proofs.bond.read_bonds.Given as goal

abbrev pub invariant-loop : goal.invariant-loop
invariant-loop l = record {
  read : bonds_read l.counts.atoms l.bonds.items (take (l.counts.bonds - l.counter) l.lines)
      ≡ bonds_read l.counts.atoms [] (take l.counts.bonds l.fn.lines);
  rest : drop (l.counts.bonds - l.counter) l.lines ≡ drop l.counts.bonds l.fn.lines;
  left : l.counter + length l.lines ≡ length l.fn.lines;
  sound : AreBondsAmong l.counts.atoms l.bonds.items;
  keys : (a b : ℕ) → a < b → list_any (λ k. (a == k.0) && (b == k.1)) l.seen.keys ≡ are_joined l.bonds.items a b;
  many : length l.bonds.items ≡ l.counter;
}
