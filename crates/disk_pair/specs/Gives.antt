-- The two disks after a call, by its answer. For callers.
use Rattle.std.specs.Prelude.{◌≡◌, ◌⊎◌, [], Bool, Err, false, List, None, Ok, Option, Result, Some, true, ℕ}
use Rattle.disk_edge.specs.Disk.{DiskModel, Faulted}
use Rattle.journal_core.specs.declared.header.Header.{Header}
use Rattle.disk_pair.specs.Pairs.{History, MayShow, PairOpensTo, State, with_commit}
use Rattle.disk_pair.specs.Stands.{StandsFor}
use Rattle.disk_pair.specs.Term.{AtEachPair, Goes, Paired, Progress, disk_a, disk_b}
use Rattle.disk_pair.specs.declared.fault.PutFault.{PutFault}
use Rattle.disk_pair.specs.declared.fault.PutFault.TheVariants.{DiskFault, NoMemory}

-- an older commit or finish in doubt stays, or is ended
pub record EndsOlder (Stands : State → Type 0) (s : State) : Type 0 where
  pub commit : Option (List ℕ)
  pub finish : Option History
  pub commit_is : (commit ≡ s.commit) ⊎ (commit ≡ None)
  pub finish_is : (finish ≡ s.finish) ⊎ (finish ≡ None)
  pub stands : Stands (record s { commit = commit; finish = finish })

-- a commit is made, or is in doubt, or not
abbrev pub AppendGives : Result (Unit {0}) PutFault → (State → Type 0) → State → List ℕ → Type 0
AppendGives (Ok _) Stands s payload =
    Stands (record s { now = with_commit s.now payload; commit = None; finish = None })
AppendGives (Err (DiskFault true)) Stands s payload = Stands (record s { commit = Some payload; finish = None })
AppendGives (Err (DiskFault false)) Stands s payload = EndsOlder Stands s
AppendGives (Err NoMemory) Stands s payload = EndsOlder Stands s

-- a copy that has nothing yet
abbrev pub empty_copy : Header → History
empty_copy header = record { header = header; base = []; commits = [] }

-- a copy runs, or not
abbrev pub StartGives : Result (Unit {0}) PutFault → (State → Type 0) → State → Header → Type 0
StartGives (Ok _) Stands s header = Stands (record s { finish = None; copy = Some (empty_copy header) })
StartGives (Err (DiskFault true)) Stands s header = ⊥
StartGives (Err (DiskFault false)) Stands s header = EndsOlder Stands s
StartGives (Err NoMemory) Stands s header = EndsOlder Stands s

-- The running copy has this history, or is given up, or is as it was.
abbrev pub CopyGives : Result (Unit {0}) PutFault → (State → Type 0) → State → History → Type 0
CopyGives (Ok _) Stands s copy = Stands (record s { copy = Some copy })
CopyGives (Err (DiskFault true)) Stands s copy = ⊥
CopyGives (Err (DiskFault false)) Stands s copy = Stands (record s { copy = None })
CopyGives (Err NoMemory) Stands s copy = Stands s

-- The two disks have the copy, or its finish is in doubt, or it is given up, or goes on.
abbrev pub FinishGives : Result (Unit {0}) PutFault → (State → Type 0) → State → History → Type 0
FinishGives (Ok _) Stands s copy = Stands (record { now = copy; commit = None; finish = None; copy = None })
FinishGives (Err (DiskFault true)) Stands s copy = Stands (record s { finish = Some copy; copy = None })
FinishGives (Err (DiskFault false)) Stands s copy = Stands (record s { copy = None })
FinishGives (Err NoMemory) Stands s copy = Stands s

-- the progress of the copy after a call that adds to it
abbrev pub progress_after : Result (Unit {0}) PutFault → Option Progress → Option Progress → Option Progress
progress_after (Ok _) old new = new
progress_after (Err (DiskFault doubt)) old new = None
progress_after (Err NoMemory) old new = old

-- The doubt of the journal after a commit, also over a disk whose content is not known. It is true exactly if this
-- commit is in doubt, or an older one may be still.
abbrev pub DoubtAfter : Result (Unit {0}) PutFault → Bool → Bool → Type 0
DoubtAfter (Ok _) old new = new ≡ false
DoubtAfter (Err (DiskFault true)) old new = new ≡ true
DoubtAfter (Err (DiskFault false)) old new = new ≡ true → old ≡ true
DoubtAfter (Err NoMemory) old new = new ≡ true → old ≡ true

-- P holds if the request is in doubt
abbrev pub OnDoubt : Result (Unit {0}) PutFault → Type 0 → Type 0
OnDoubt (Ok _) P = Unit {0}
OnDoubt (Err (DiskFault true)) P = P
OnDoubt (Err (DiskFault false)) P = Unit {0}
OnDoubt (Err NoMemory) P = Unit {0}

-- P holds at a fault of a disk
abbrev pub OnFault : Result (Unit {0}) PutFault → Type 0 → Type 0
OnFault (Ok _) P = Unit {0}
OnFault (Err (DiskFault doubt)) P = P
OnFault (Err NoMemory) P = Unit {0}

-- Facts that each call keeps of both disks. If it answers that a disk failed, one of them counted a fault.
pub record PairGoes {D : Type 0} (model : DiskModel D) (result : Result (Unit {0}) PutFault) (old new : Paired D)
    : Type 0 where
  pub a : Goes model (disk_a old) (disk_a new)
  pub b : Goes model (disk_b old) (disk_b new)
  pub cause : OnFault result (Faulted model (disk_a old) (disk_a new) ⊎ Faulted model (disk_b old) (disk_b new))

-- A call on the other disk alone keeps the current disk and its journal. A crash at each moment of the call leaves a
-- possible history.
pub record CurrentStays {D : Type 0} (model : DiskModel D) (old new : Paired D) : Type 0 where
  pub journal : new.journal ≡ old.journal
  pub second : new.second ≡ old.second
  pub moments : (s : State) → StandsFor model old s → AtEachPair model old new (PairOpensTo (MayShow s))
