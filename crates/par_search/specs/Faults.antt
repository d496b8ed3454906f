-- A call's fault as a search's.
use Rattle.store_core.specs.declared.words.CallFault.{CallFault}
use Rattle.store_core.specs.declared.words.CallFault.TheVariants as call
use Rattle.par_search.specs.declared.fault.SearchFault.{SearchFault}
use Rattle.par_search.specs.declared.fault.SearchFault.TheVariants as fault

abbrev pub fault_of : CallFault → SearchFault
fault_of call.Worn = fault.Worn
fault_of call.NoMemory = fault.NoMemory
