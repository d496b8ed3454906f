use Rattle.std.proofs.Common.{◌≡◌, map, take}
use Rattle.smiles_read.specs.Limits.{bond_of}
use Rattle.smiles_read.proofs.sketch.bonds.Given as goal

abbrev pub invariant-loop-link : goal.invariant-loop-link
invariant-loop-link l = l.bonds.items ≡ map bond_of (take l.link-index l.links)
