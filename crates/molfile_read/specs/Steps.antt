-- Reading that may find a fault. For callers.
use Rattle.std.specs.Prelude.{List, [], ◌∷◌, Result, Ok, Err}
use Rattle.molfile_read.specs.declared.fault.MolfileFault.{MolfileFault}
use Rattle.molfile_read.specs.Text.{Line}

-- the first fault, or the reading goes on
infixl 10 ◌>>=◌
abbrev pub ◌>>=◌ : {A B : Type 0} → Result A MolfileFault → (A → Result B MolfileFault) → Result B MolfileFault
(Ok x) >>= f = f x
(Err fault) >>= f = Err fault

-- the value of each line, or the fault of the first that has one
abbrev pub each : {A : Type 0} → (Line → Result A MolfileFault) → List Line → Result (List A) MolfileFault
each read [] = Ok []
each read (line ∷ lines) = read line >>= λ x. each read lines >>= λ xs. Ok (x ∷ xs)
