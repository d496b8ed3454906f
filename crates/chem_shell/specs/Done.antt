-- For private clauses alone: the outcome of a plan, by its command.
use Rattle.std.specs.Prelude.{◌≡◌, ◌≢◌, ◌⊎◌, ◌≤◌, ℕ, List, [], length, map, Option}
use Rattle.std.specs.List.{AllZip}
use Rattle.disk_edge.specs.Disk.{DiskModel}
use Rattle.serve_ends.specs.declared.end.End.{End}
use Rattle.serve_ends.specs.declared.serve.TheConstants.{MOST_ENDS}
use Rattle.store_disk.specs.declared.disks.Disks.{Disks}
use Rattle.chem_shell.specs.Contents.{disks_of}
use Rattle.chem_shell.specs.Drills.{ServesDrill}
use Rattle.chem_shell.specs.Ends.{HasEndCauses, ServesBulk, ServesMem}
use Rattle.chem_shell.specs.Loading.{HasCauses}
use Rattle.chem_shell.specs.OnDisks.{Creates, IsRefused, IsRefusedAs, RunsOn, ServesOn}
use Rattle.chem_shell.specs.Status.{first_fault}
use Rattle.chem_shell.specs.declared.outcome.Outcome.{Outcome}
use Rattle.chem_shell.specs.declared.request.Plan.{Plan}
use Rattle.chem_shell.specs.declared.request.Verb.{Verb}
use Rattle.chem_shell.specs.declared.request.Verb.TheVariants.{Mem, Init, Run, Serve, Bulk, Drill}
use Rattle.chem_shell.specs.declared.status.TheConstants.{USAGE}

-- the number of ends of a command
abbrev pub HasEnds : Verb → ℕ → Type 0
HasEnds Init count = count ≡ 0
HasEnds Serve count = (1 ≤ count) × (count ≤ MOST_ENDS)
HasEnds Mem count = count ≡ 1
HasEnds Run count = count ≡ 1
HasEnds Bulk count = count ≡ 1
HasEnds Drill count = count ≡ 1

module _ {D S K : Type 0} (model : DiskModel D) (left : S → Option (List ℕ)) (source_faults : S → ℕ)
    (written : K → Option (List ℕ)) (sink_faults : K → ℕ) where
  -- the ends and disks after each command
  abbrev pub Leaves : Verb → Plan → Disks D → List (End S K) → Outcome D S K → Type 0
  Leaves Mem plan disks ends r = (disks_of r ≡ disks) × AllZip (ServesMem plan left written) ends r.ends.items
  Leaves Init plan disks ends r = (r.ends.items ≡ []) × Creates model disks (disks_of r) r.status
  Leaves Run plan disks ends r = AllZip (λ old new. IsRefused model disks (disks_of r) old new
      ⊎ RunsOn model left written plan disks (disks_of r) old new) ends r.ends.items
  Leaves Serve plan disks ends r = AllZip (IsRefusedAs model disks (disks_of r) r.status) ends r.ends.items
      ⊎ ServesOn model left written plan disks (disks_of r) ends r.ends.items
  Leaves Bulk plan disks ends r = (disks_of r ≡ disks) × AllZip (ServesBulk plan written) ends r.ends.items
  Leaves Drill plan disks ends r = (disks_of r ≡ disks) × AllZip (ServesDrill plan left written) ends r.ends.items

  -- and the causes of the statuses
  pub record IsDone (plan : Plan) (disks : Disks D) (ends : List (End S K)) (r : Outcome D S K) : Type 0 where
    pub leaves : Leaves plan.command plan disks ends r
    pub causes : HasCauses model disks (disks_of r) r.status r.place
    pub end_causes : AllZip (HasEndCauses left source_faults sink_faults) ends r.ends.items
    pub overall : 1 ≤ length ends → r.status ≡ first_fault (map (λ end. end.status) r.ends.items)
    pub status : r.status ≢ USAGE
