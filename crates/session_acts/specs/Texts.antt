-- For callers: the meaning of the texts of a script.
use Rattle.std.specs.Prelude.{◌≢◌, ℕ, List, Ok, Err}
use Rattle.mol_finish.specs.Structure.{IsAnswer}
use Rattle.mol_finish.specs.declared.fault.Format.{Format}
use Rattle.mol_finish.specs.declared.fault.TextFault.{TextFault}
use Rattle.mol_finish.specs.declared.fault.TextFault.TheVariants as faults
use Rattle.smarts_parse.specs.Pattern.{PatternTerm}
use Rattle.smarts_parse.specs.Reading.{IsReading}
use Rattle.smarts_parse.specs.declared.fault.SmartsFault.{SmartsFault}
use Rattle.smarts_parse.specs.declared.fault.SmartsFault.TheVariants.{NoMemory}

-- the text has no structure, for this cause. Want of memory is no cause
abbrev pub IsTextFault : Format → List ℕ → TextFault → Type 0
IsTextFault format text faults.NoMemory = ⊥
IsTextFault format text fault = IsAnswer format text (Err fault)

-- the text is of this pattern
abbrev pub IsPatternOf : List ℕ → PatternTerm → Type 0
IsPatternOf text p = IsReading text (Ok p)

-- the text is no pattern, for this cause. Want of memory is no cause
abbrev pub IsPatternFault : List ℕ → SmartsFault → Type 0
IsPatternFault text fault = (fault ≢ NoMemory) × IsReading text (Err fault)
