-- What is left where one end was served.
use Rattle.std.proofs.Common.{◌≡◌, ◌≢◌, ◌∙◌, ℕ, List, [], ◌∷◌, Option, length, map, refl, sym, ap, subst, inl, inr, arith}
use Rattle.std.proofs.lemmas.List.Elements.{All-nil, All-cons}
use Rattle.std.specs.Prelude.{All, slice_index_or, slice_set}
use Rattle.std.specs.List.{AllZip}
use Rattle.disk_edge.specs.Disk.{DiskModel}
use Rattle.io_edge.specs.Faults.{Rose}
use Rattle.serve_ends.specs.declared.end.End.{End}
use Rattle.serve_ends.specs.declared.status.TheConstants.{SINK_FAULT}
use Rattle.store_disk.specs.declared.disks.Disks.{Disks}
use Rattle.chem_shell.specs.Contents.{disks_of}
use Rattle.chem_shell.specs.Done.{IsDone, Leaves}
use Rattle.chem_shell.specs.Ends.{HasEndCauses}
use Rattle.chem_shell.specs.Loading.{HasCauses}
use Rattle.chem_shell.specs.Status.{first_fault, IsEndStatus, IsSinkStatus}
use Rattle.chem_shell.specs.declared.outcome.Outcome.{Outcome}
use Rattle.chem_shell.specs.declared.request.Plan.{Plan}
use Rattle.chem_shell.specs.declared.request.Verb.{Verb}
use Rattle.chem_shell.specs.declared.request.Verb.TheVariants.{Run}
use Rattle.chem_shell.specs.declared.status.TheConstants.{USAGE}
use Rattle.chem_shell.proofs.Done.{served_done}
use Rattle.chem_shell.proofs.Ends.{IsOfEnd, leaves_by}

zip_set : {A : Type 0} (R : A → A → Type 0) (ends : List A) (old new : A) → length ends ≡ 1
    → old ≡ slice_index_or ends 0 old → R old new → AllZip R ends (slice_set ends 0 new)
zip_set R [] old new one is related = absurd (omega (arith, one))
zip_set R (x ∷ []) old new one is related = (subst (λ y. R y new) is related, tt)
zip_set R (x ∷ y ∷ ys) old new one is related = absurd (omega (arith, one))

statuses_set : {S K : Type 0} (ends : List (End S K)) (new : End S K) → length ends ≡ 1
    → map (λ (end : End S K). end.status) (slice_set ends 0 new) ≡ new.status ∷ []
statuses_set [] new one = absurd (omega (arith, one))
statuses_set (x ∷ []) new one = refl
statuses_set (x ∷ y ∷ ys) new one = absurd (omega (arith, one))

first_of_one : (n : ℕ) → first_fault (n ∷ []) ≡ n
first_of_one n = grind (arith)

-- an end from which nothing is taken
pub end_of_sink : (n : ℕ) → IsSinkStatus n → IsEndStatus n
end_of_sink n (inl done) = inl done
end_of_sink n (inr (inl failed)) = inr (inr (inl failed))
end_of_sink n (inr (inr memory)) = inr (inr (inr (inl memory)))

no_source : (n : ℕ) → IsSinkStatus n → n ≡ 3 → ⊥
no_source n (inl done) e = omega arith
no_source n (inr (inl failed)) e = omega arith
no_source n (inr (inr memory)) e = omega arith

never_long : (n : ℕ) → IsSinkStatus n → n ≡ 9 → ⊥
never_long n (inl done) e = omega arith
never_long n (inr (inl failed)) e = omega arith
never_long n (inr (inr memory)) e = omega arith

pub sink_causes : {S K : Type 0} (left : S → Option (List ℕ)) (source_faults : S → ℕ) (sink_faults : K → ℕ)
    (old new : End S K) → IsSinkStatus new.status
    → (new.status ≡ SINK_FAULT → Rose (sink_faults old.sink) (sink_faults new.sink))
    → HasEndCauses left source_faults sink_faults old new
sink_causes left source_faults sink_faults old new status failed = record {
  source_fault = λ e. absurd (no_source new.status status e);
  sink_fault = failed;
  input_too_long = λ e. absurd (never_long new.status status e);
}

module _ {D S K : Type 0} (model : DiskModel D) (left : S → Option (List ℕ)) (source_faults : S → ℕ)
    (written : K → Option (List ℕ)) (sink_faults : K → ℕ) (plan : Plan) (disks : Disks D) (ends : List (End S K))
    (old new : End S K) (r : Outcome D S K) (one : length ends ≡ 1) (first : old ≡ slice_index_or ends 0 old)
    (is : r.ends.items ≡ slice_set ends 0 new) where
  abbrev LeavesBy : Verb → Type 0
  LeavesBy verb = Leaves model left source_faults written sink_faults verb plan disks ends r

  -- what is left of the end, of each
  pub one_zip : (R : End S K → End S K → Type 0) → R old new → AllZip R ends r.ends.items
  one_zip R related = subst (AllZip R ends) (sym is) (zip_set R ends old new one first related)

  one_status : map (λ (end : End S K). end.status) r.ends.items ≡ new.status ∷ []
  one_status = ap (map (λ (end : End S K). end.status)) is ∙ statuses_set ends new one

  -- no status of the end comes of a disk
  pub one_done : (verb : Verb) → plan.command ≡ verb → LeavesBy verb
      → HasEndCauses left source_faults sink_faults old new → IsEndStatus new.status
      → r.status ≡ first_fault (map (λ (end : End S K). end.status) r.ends.items) → r.place ≡ 0
      → IsDone model left source_faults written sink_faults plan disks ends r
  one_done verb command leaves causes ended status place =
      served_done model left source_faults written sink_faults plan verb disks ends r command leaves
      (one_zip (HasEndCauses left source_faults sink_faults) causes)
      (subst (All IsOfEnd) (sym one_status) (All-cons IsOfEnd new.status [] (inl ended) (All-nil IsOfEnd))) status place

  -- its status may come of a disk
  pub run_done : plan.command ≡ Run → LeavesBy Run → HasEndCauses left source_faults sink_faults old new
      → HasCauses model disks (disks_of r) new.status r.place → new.status ≢ USAGE
      → r.status ≡ first_fault (map (λ (end : End S K). end.status) r.ends.items)
      → IsDone model left source_faults written sink_faults plan disks ends r
  run_done command leaves end_causes causes known status =
      let same : r.status ≡ new.status = status ∙ (ap first_fault one_status ∙ first_of_one new.status) in
      record {
        leaves = leaves_by model left source_faults written sink_faults Run plan.command plan disks ends r
            (sym command) leaves;
        causes = subst (λ (n : ℕ). HasCauses model disks (disks_of r) n r.place) (sym same) causes;
        end_causes = one_zip (HasEndCauses left source_faults sink_faults) end_causes;
        overall = λ _. status;
        status = λ e. known (sym same ∙ e);
      }
