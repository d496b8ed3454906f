-- The faults of the walk as those of SMARTS.
use Rattle.line_walk.specs.declared.fault.Fault.{Fault}
use Rattle.line_walk.specs.declared.fault.Fault.TheVariants as walk
use Rattle.smarts_parse.specs.declared.fault.SmartsFault.{SmartsFault}
use Rattle.smarts_parse.specs.declared.fault.SmartsFault.TheVariants as smarts

abbrev pub fault_of : Fault → SmartsFault
fault_of walk.Syntax = smarts.Syntax
fault_of walk.Ring = smarts.Ring
fault_of walk.NoMemory = smarts.NoMemory
