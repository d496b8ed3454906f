-- The faults of the walk, as faults of a SMILES: for private clauses only.
use Rattle.line_walk.specs.declared.fault.Fault.{Fault}
use Rattle.line_walk.specs.declared.fault.Fault.TheVariants as walk
use Rattle.smiles_read.specs.declared.fault.SmilesFault.{SmilesFault}
use Rattle.smiles_read.specs.declared.fault.SmilesFault.TheVariants.{Syntax, Ring, NoMemory}

abbrev pub walk_fault : Fault → SmilesFault
walk_fault walk.Syntax = Syntax
walk_fault walk.Ring = Ring
walk_fault walk.NoMemory = NoMemory
