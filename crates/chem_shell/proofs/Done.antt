-- What is left where ends were served, and where none was.
use Rattle.std.proofs.Common.{◌≡◌, ◌⊎◌, ℕ, List, Option, map, refl, sym, subst, inl, inr, arith}
use Rattle.std.specs.Prelude.{All}
use Rattle.std.specs.List.{AllZip}
use Rattle.disk_edge.specs.Disk.{DiskModel, Faulted}
use Rattle.journal_core.specs.Fronts.{IsOpen}
use Rattle.journal_core.specs.Looks.{Narrows}
use Rattle.journal_core.specs.declared.faults.LoadFault.{LoadFault}
use Rattle.journal_core.specs.declared.faults.LoadFault.TheVariants as fault
use Rattle.serve_ends.specs.declared.end.End.{End}
use Rattle.serve_ends.specs.declared.status.TheConstants.{NO_MEMORY}
use Rattle.store_disk.specs.Loads.{Damages}
use Rattle.store_disk.specs.declared.disks.Disks.{Disks}
use Rattle.chem_shell.specs.Contents.{IfBothTell, disks_of}
use Rattle.chem_shell.specs.Done.{IsDone, Leaves}
use Rattle.chem_shell.specs.Ends.{HasEndCauses, with_status}
use Rattle.chem_shell.specs.Loading.{HasCauses, IsCausedBy}
use Rattle.chem_shell.specs.Status.{first_fault, IsLoadStatus}
use Rattle.chem_shell.specs.declared.outcome.Outcome.{Outcome}
use Rattle.chem_shell.specs.declared.request.Plan.{Plan}
use Rattle.chem_shell.specs.declared.request.Verb.{Verb}
use Rattle.chem_shell.specs.declared.request.Verb.TheVariants.{Serve}
use Rattle.chem_shell.proofs.Ends.{IsOfEnd, first_is, first_of_alike, leaves_by, load_causes, never_loaded_usage, no_disk_causes, no_usage, refused_all, zip_mapped}

module _ {D S K : Type 0} (model : DiskModel D) (left : S → Option (List ℕ)) (source_faults : S → ℕ)
    (written : K → Option (List ℕ)) (sink_faults : K → ℕ) where
  abbrev LeavesBy : Verb → Plan → Disks D → List (End S K) → Outcome D S K → Type 0
  LeavesBy = Leaves model left source_faults written sink_faults

  -- ends were served, and no status of theirs comes of a disk
  pub served_done : (plan : Plan) (verb : Verb) (disks : Disks D) (ends : List (End S K)) (r : Outcome D S K)
      → plan.command ≡ verb → LeavesBy verb plan disks ends r
      → AllZip (HasEndCauses left source_faults sink_faults) ends r.ends.items
      → All IsOfEnd (map (λ (end : End S K). end.status) r.ends.items)
      → r.status ≡ first_fault (map (λ (end : End S K). end.status) r.ends.items) → r.place ≡ 0
      → IsDone model left source_faults written sink_faults plan disks ends r
  served_done plan verb disks ends r command leaves causes statuses status place =
      let own = subst IsOfEnd (sym status) (first_is IsOfEnd (inl (inl refl)) _ statuses) in
      record {
        leaves = leaves_by model left source_faults written sink_faults verb plan.command plan disks ends r
            (sym command) leaves;
        causes = no_disk_causes model disks (disks_of r) r.status r.place own place;
        end_causes = causes;
        overall = λ _. status;
        status = no_usage r.status own;
      }

  -- `serve`: the store was not loaded, or memory ran out before any end was served
  pub refused_done : (plan : Plan) (disks : Disks D) (ends : List (End S K)) (r : Outcome D S K)
      → plan.command ≡ Serve → IsLoadStatus r.status → r.ends.items ≡ map (with_status r.status) ends
      → Narrows model disks.a r.a → Narrows model disks.b r.b → HasCauses model disks (disks_of r) r.status r.place
      → IsDone model left source_faults written sink_faults plan disks ends r
  refused_done plan disks ends r command load alike read_a read_b causes = record {
    leaves = leaves_by model left source_faults written sink_faults Serve plan.command plan disks ends r (sym command)
        (inl (refused_all model left source_faults written sink_faults disks (disks_of r) r.status ends r.ends.items
        load read_a read_b alike));
    causes = causes;
    end_causes = zip_mapped (HasEndCauses left source_faults sink_faults) (with_status r.status)
        (load_causes left source_faults sink_faults r.status load) ends r.ends.items alike;
    overall = λ some. sym (first_of_alike ends r.ends.items r.status some alike);
    status = never_loaded_usage r.status load;
  }

-- the status of a loading that was refused
pub load_of : (fault : LoadFault) (n place : ℕ) → IsCausedBy fault n place → IsLoadStatus n
load_of fault.Disk n place is = inl is.0
load_of fault.NotAStore n place is = inr (inl is.0)
load_of (fault.Damaged at) n place is = inr (inr (inl is.0))
load_of fault.NoMemory n place is = inr (inr (inr is.0))

-- and its causes
pub causes_of : {D : Type 0} (model : DiskModel D) (disks disks' : Disks D) (why : LoadFault) (n place : ℕ)
    → IsCausedBy why n place
    → (why ≡ fault.NotAStore → IfBothTell model disks (λ x y. (¬ IsOpen x) × (¬ IsOpen y)))
    → ((at : ℕ) → why ≡ fault.Damaged at → IfBothTell model disks (Damages at))
    → (why ≡ fault.Disk → Faulted model disks.a disks'.a ⊎ Faulted model disks.b disks'.b)
    → HasCauses model disks disks' n place
causes_of model disks disks' fault.Disk n place is header damaged disk = record {
  disk_fault = λ _. disk refl;
  not_a_store = λ e. absurd (omega (arith, is, e));
  damaged = λ e. absurd (omega (arith, is, e));
  undamaged = λ _. is.1;
}
causes_of model disks disks' fault.NotAStore n place is header damaged disk = record {
  disk_fault = λ e. absurd (omega (arith, is, e));
  not_a_store = λ _. header refl;
  damaged = λ e. absurd (omega (arith, is, e));
  undamaged = λ _. is.1;
}
causes_of model disks disks' (fault.Damaged at) n place is header damaged disk = record {
  disk_fault = λ e. absurd (omega (arith, is, e));
  not_a_store = λ e. absurd (omega (arith, is, e));
  damaged = λ _. subst (λ (p : ℕ). IfBothTell model disks (Damages p)) (sym is.1) (damaged at refl);
  undamaged = λ no. absurd (no is.0);
}
causes_of model disks disks' fault.NoMemory n place is header damaged disk = record {
  disk_fault = λ e. absurd (omega (arith, is, e));
  not_a_store = λ e. absurd (omega (arith, is, e));
  damaged = λ e. absurd (omega (arith, is, e));
  undamaged = λ _. is.1;
}

-- want of memory says nothing of a disk
pub memory_causes : {D : Type 0} (model : DiskModel D) (disks disks' : Disks D)
    → HasCauses model disks disks' NO_MEMORY 0
memory_causes model disks disks' = record {
  disk_fault = λ e. absurd (omega (arith, e));
  not_a_store = λ e. absurd (omega (arith, e));
  damaged = λ e. absurd (omega (arith, e));
  undamaged = λ _. refl;
}

-- the outcome of `unserved`
pub refused_by : {D S K : Type 0} (model : DiskModel D) (left : S → Option (List ℕ)) (source_faults : S → ℕ)
    (written : K → Option (List ℕ)) (sink_faults : K → ℕ) (plan : Plan) (disks now : Disks D) (ends : List (End S K))
    (r : Outcome D S K) (n place : ℕ) → plan.command ≡ Serve → IsLoadStatus n
    → Narrows model disks.a now.a → Narrows model disks.b now.b → HasCauses model disks now n place
    → r.status ≡ n → r.place ≡ place → disks_of r ≡ now → r.ends.items ≡ map (with_status n) ends
    → IsDone model left source_faults written sink_faults plan disks ends r
refused_by model left source_faults written sink_faults plan disks now ends r n place command load read_a read_b causes
    status at is alike =
    refused_done model left source_faults written sink_faults plan disks ends r command
    (subst IsLoadStatus (sym status) load)
    (subst (λ (k : ℕ). r.ends.items ≡ map (with_status k) ends) (sym status) alike)
    (subst (λ (x : Disks _). Narrows model disks.a x.a) (sym is) read_a)
    (subst (λ (x : Disks _). Narrows model disks.b x.b) (sym is) read_b)
    (subst (λ (k : ℕ). HasCauses model disks (disks_of r) k r.place) (sym status)
    (subst (HasCauses model disks (disks_of r) n) (sym at)
    (subst (λ x. HasCauses model disks x n place) (sym is) causes)))
