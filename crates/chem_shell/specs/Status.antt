-- For callers: the status of an end and of the program.
use Rattle.std.specs.Prelude.{◌≡◌, ◌⊎◌, ℕ, List, [], ◌∷◌, if◌then◌else◌, ◌==◌}
use Rattle.serve_ends.specs.declared.status.TheConstants.{DONE, SOURCE_FAULT, SINK_FAULT, NO_MEMORY, INPUT_TOO_LONG}
use Rattle.chem_shell.specs.declared.status.TheConstants.{DISK_FAULT, NOT_A_STORE, DAMAGED, NOT_EMPTY}

-- done, a fault of the source or of the sink, want of memory, an input that is too long
abbrev pub IsEndStatus : ℕ → Type 0
IsEndStatus status =
    (status ≡ DONE) ⊎ ((status ≡ SOURCE_FAULT) ⊎ ((status ≡ SINK_FAULT)
    ⊎ ((status ≡ NO_MEMORY) ⊎ (status ≡ INPUT_TOO_LONG))))

-- as `IsEndStatus`, of an end from which nothing is taken
abbrev pub IsSinkStatus : ℕ → Type 0
IsSinkStatus status = (status ≡ DONE) ⊎ ((status ≡ SINK_FAULT) ⊎ (status ≡ NO_MEMORY))

-- the source failed, or its bytes are too many
abbrev pub IsInputStatus : ℕ → Type 0
IsInputStatus status = (status ≡ SOURCE_FAULT) ⊎ (status ≡ INPUT_TOO_LONG)

-- a creation: done, a fault of a disk, want of memory, a disk that is not empty
abbrev pub IsCreationStatus : ℕ → Type 0
IsCreationStatus status =
    (status ≡ DONE) ⊎ ((status ≡ DISK_FAULT) ⊎ ((status ≡ NO_MEMORY) ⊎ (status ≡ NOT_EMPTY)))

-- a loading that is refused: a fault of a disk, no store, a damaged one, want of memory
abbrev pub IsLoadStatus : ℕ → Type 0
IsLoadStatus status =
    (status ≡ DISK_FAULT) ⊎ ((status ≡ NOT_A_STORE) ⊎ ((status ≡ DAMAGED) ⊎ (status ≡ NO_MEMORY)))

-- the first status that is not `DONE`, if there is one
abbrev pub first_fault : List ℕ → ℕ
first_fault [] = DONE
first_fault (status ∷ more) = if status == DONE then first_fault more else status
