-- What many ends at desks of one hall leave, in the words of the top call.
use Rattle.std.proofs.Common.{◌≡◌, ◌⊎◌, ◌∙◌, ◌<◌, ◌≤◌, ◌^◌, ◌+◌, ◌++◌, if◌then◌else◌, true, false, suc, Bool, ℕ, List, [], ◌∷◌, Some, length, map, refl, sym, ap, subst, inl, inr, append-nil, arith}
use Rattle.std.proofs.lemmas.Bool.{cases_lt}
use Rattle.std.proofs.lemmas.List.Elements.{All-nil, All-cons}
use Rattle.std.specs.Prelude.{All, slice_index_or}
use Rattle.std.specs.List.{AllZip}
use Rattle.disk_edge.specs.Disk.{DiskModel}
use Rattle.disk_pair.specs.Term.{OfEachPair, disk_a, disk_b}
use Rattle.io_edge.specs.declared.sinks.Sink as put
use Rattle.io_edge.specs.declared.sources.Source as taken
use Rattle.session_acts.specs.Cursors.{Calls}
use Rattle.session_acts.specs.Truths.{IsInRun, ServicesAreTrue}
use Rattle.dialogue.specs.declared.end.EndStatus.{EndStatus}
use Rattle.dialogue.specs.declared.end.EndStatus.TheVariants.{Done, SourceFault, SinkFault, NoMemory, InputTooLong, Worn}
use Rattle.journal_core.specs.Looks.{Narrows}
use Rattle.store_disk.specs.Loads.{OpensAfter}
use Rattle.store_disk.specs.OnDisk.{StandsFor, StoreTerm}
use Rattle.store_disk.specs.Stored.{Stretches}
use Rattle.store_disk.specs.declared.disks.Disks.{Disks}
use Rattle.store_machine.specs.Laws.{IsSound, RunsStaySound}
use Rattle.store_machine.specs.Openings.{IsOpened}
use Rattle.store_machine.specs.Rebases.{RebasesGrow, RebasesStay}
use Rattle.store_machine.specs.Told.{RunsAdd}
use Rattle.store_machine.specs.Runs.{IsCalm, IsRun, calls_of}
use Rattle.store_machine.specs.declared.machine.State.{State}
use Rattle.store_machine.specs.declared.machine.Step.{Step}
use Rattle.turn_gate.proofs.Lists.{of_self}
use Rattle.turn_gate.specs.Numbers.{has, own}
use Rattle.hall.specs.Histories.{after}
use Rattle.hall.specs.Passes.{Begins, Ends, by, known}
use Rattle.hall.specs.declared.hall.HallPass.{HallPass}
use Rattle.hall.specs.declared.kept.Origin.{Origin}
use Rattle.serve_ends.specs.Serving.{Serving}
use Rattle.serve_ends.specs.Ends.{EndServed}
use Rattle.serve_ends.specs.Status.{IsStatusOf}
use Rattle.serve_ends.specs.declared.end.End.{End}
use Rattle.serve_ends.specs.declared.status.TheConstants.{WORN}
use Rattle.chem_shell.specs.Ends.{HasEndCauses}
use Rattle.chem_shell.specs.Serving.{IsScriptServed}
use Rattle.chem_shell.specs.OnDisks.{AreAtDesks, AreOnDisks, ServesAtDesk, ServesOn}
use Rattle.chem_shell.specs.Words.{settings_of}
use Rattle.chem_shell.specs.declared.request.Plan.{Plan}
use Rattle.chem_shell.proofs.Ended.{causes_of_end, ended_worn, not_worn}
use Rattle.chem_shell.proofs.Ends.{IsOfEnd}
use Rattle.chem_shell.proofs.Loaded.{on_these_disks}
use Rattle.chem_shell.proofs.Opened.{opened_in, opens_at}
use Rattle.chem_shell.proofs.Transcripts.{end_of, script_of, served_true}

-- the status of an end
status_of_end : (ended : EndStatus) (status : ℕ) → IsStatusOf ended status → IsOfEnd status
status_of_end Worn status is = inr is
status_of_end Done status is = inl (end_of Done status (λ e. cc e) is)
status_of_end SourceFault status is = inl (end_of SourceFault status (λ e. cc e) is)
status_of_end SinkFault status is = inl (end_of SinkFault status (λ e. cc e) is)
status_of_end NoMemory status is = inl (end_of NoMemory status (λ e. cc e) is)
status_of_end InputTooLong status is = inl (end_of InputTooLong status (λ e. cc e) is)

-- every step of a part has a number that is an end's
named : (x : Step) (xs : List Step) → own by (x.owner ∷ []) (x ∷ xs) ≡ [] → ⊥
named x xs e =
    let ys = own by (x.owner ∷ []) xs in
    let some = ap length (subst (λ b. (if b then x ∷ ys else ys) ≡ []) (of_self x.owner) e) in
    omega arith

none_behind : (b : Bool) (x : Step) (ys : List Step) → (if b then x ∷ ys else ys) ≡ [] → ys ≡ []
none_behind false x ys e = e
none_behind true x ys e = let some = ap length e in absurd (omega arith)

pub numbered : (n : ℕ) (steps : List Step)
    → ((m : ℕ) → (m < 1) ⊎ (1 + n ≤ m) → own by (m ∷ []) steps ≡ [])
    → All (λ (x : Step). (1 ≤ x.owner) × (x.owner ≤ n)) steps
numbered n [] none = All-nil (λ (x : Step). (1 ≤ x.owner) × (x.owner ≤ n))
numbered n (x ∷ xs) none = All-cons (λ (x : Step). (1 ≤ x.owner) × (x.owner ≤ n)) x xs
    (elim (cases_lt x.owner 1) [
      | inl low ↦ absurd (named x xs (none x.owner (inl low)))
      | inr some ↦ elim (cases_lt n x.owner) [
        | inl high ↦ absurd (named x xs (none x.owner (inr (let h = high in omega (arith, h)))))
        | inr few ↦ (some, few)
      ]
    ])
    (numbered n xs (λ m out. none_behind (has (m ∷ []) x.owner) x (own by (m ∷ []) xs) (none m out)))

-- the causes of the ends' statuses
pub end_causes : {S K : Type 0} (source : taken.Ghosts S) (sink : put.Ghosts K) (plan : Plan)
    (olds news : List (End S K)) → length news ≡ length olds
    → ((i : ℕ) (d : End S K) → i < length olds
    → (calls : Calls) × EndServed source sink (settings_of plan) (slice_index_or olds i d)
    (slice_index_or news i d) calls)
    → AllZip (HasEndCauses source.left source.faults sink.faults) olds news
    × All IsOfEnd (map (λ (end : End S K). end.status) news)
end_causes source sink plan [] [] count each = (tt, All-nil IsOfEnd)
end_causes source sink plan [] (new ∷ news) count each = absurd (omega (arith, count))
end_causes source sink plan (old ∷ olds) [] count each = absurd (omega (arith, count))
end_causes source sink plan (old ∷ olds) (new ∷ news) count each =
    let end = (each 0 old (omega arith)).1 in
    let rest = end_causes source sink plan olds news (omega (arith, count))
    (λ i d less. each (suc i) d (omega (arith, less))) in (
      (causes_of_end source sink end.ended old new end.status end.ends, rest.0),
      All-cons IsOfEnd new.status (map (λ end. end.status) news)
          (status_of_end end.ended new.status end.status) rest.1,
    )

module _ {S K : Type 0} (source : taken.Ghosts S) (sink : put.Ghosts K) (law : ServicesAreTrue) (plan : Plan)
    (from to : State) (steps : List Step) (sound : IsSound from) (run : IsRun from steps to) (calm : IsCalm steps) where
  -- the calls of one owner are in the run
  calls_in_run : (owner : ℕ) → IsInRun (calls_of (has (owner ∷ [])) steps) to.history
  calls_in_run owner = record {
    before = from;
    after = to;
    steps = steps;
    own = has (owner ∷ []);
    more = [];
    sound = sound;
    run = run;
    calm = calm;
    made = sym (append-nil (calls_of (has (owner ∷ [])) steps));
    is = refl;
  }

  at_desk : (owner : ℕ) (old new : End S K)
      → EndServed source sink (settings_of plan) old new (calls_of (has (owner ∷ [])) steps)
      → ServesAtDesk source.left sink.written plan.page (calls_of (has (owner ∷ [])) steps) to.history old new
  at_desk owner old new end =
      let calls = calls_of (has (owner ∷ [])) steps in
      let served = served_true law end.ended plan.page (source.left old.source) (source.left new.source)
      (sink.written old.sink) (sink.written new.sink) calls to.history (calls_in_run owner) end.served in
      record {
        served = λ fit. script_of source sink end.ended plan.page calls to.history old new
            (not_worn end.ended new.status end.status fit) end.status served end.ends;
        worn = λ e. (subst (λ (x : EndStatus). IsScriptServed x plan.page (source.left old.source)
            (source.left new.source) (sink.written old.sink) (sink.written new.sink) calls to.history)
            (ended_worn end.ended new.status end.status e) served).script;
        within = end.ends.within;
      }

  -- each end, from the first owner on
  at_desks : (owner : ℕ) (olds news : List (End S K)) → length news ≡ length olds
      → ((i : ℕ) (d : End S K) → i < length olds → EndServed source sink (settings_of plan) (slice_index_or olds i d)
      (slice_index_or news i d) (calls_of (has ((owner + i) ∷ [])) steps))
      → AreAtDesks source.left sink.written plan.page steps to.history owner olds news
  at_desks owner [] [] count each = refl
  at_desks owner [] (new ∷ news) count each = absurd (omega (arith, count))
  at_desks owner (old ∷ olds) [] count each = absurd (omega (arith, count))
  at_desks owner (old ∷ olds) (new ∷ news) count each = (
    at_desk owner old new (subst (λ (k : ℕ). EndServed source sink (settings_of plan) old new
        (calls_of (has (k ∷ [])) steps)) (omega arith) (each 0 old (omega arith))),
    at_desks (suc owner) olds news (omega (arith, count)) (λ i d less.
        subst (λ (k : ℕ). EndServed source sink (settings_of plan) (slice_index_or olds i d) (slice_index_or news i d)
        (calls_of (has (k ∷ [])) steps)) (omega arith) (each (suc i) d (omega (arith, less)))),
  )

-- a fact of the ends by their places is one of each
pub each_end : {S K : Type 0} (P : End S K → Type 0) (ends : List (End S K))
    → ((i : ℕ) (d : End S K) → i < length ends → P (slice_index_or ends i d)) → All P ends
each_end P [] each = All-nil P
each_end P (end ∷ ends) each = All-cons P end ends (each 0 end (omega arith))
    (each_end P ends (λ i d less. each (suc i) d (omega (arith, less))))

one_origin : {O : Type 0} (x y : O) → x ∷ [] ≡ y ∷ [] → x ≡ y
one_origin x y e = cc e

module _ {D : Type 0} (model : DiskModel D) (store : StoreTerm D) (old : HallPass D)
    (begins : Begins model store true old) where
  -- the run of a hall is a stretch from the state at which it begins
  pub stretch_of : (left : StoreTerm D) (new : HallPass D) (steps : List Step) → Ends model new left
      → (known new).origin ≡ (known old).origin → (known new).seen ≡ (known old).seen ++ steps
      → Stretches model store left begins.origin.state steps (after begins.origin.state steps)
  stretch_of left new steps ends origin seen =
      let same : ends.origin ≡ begins.origin =
      one_origin ends.origin begins.origin (sym ends.of ∙ (origin ∙ begins.of)) in
      let is_seen : (known new).seen ≡ steps = seen ∙ ap (λ (l : List Step). l ++ steps) begins.seen in
      let from_origin : Stretches model begins.origin.store left begins.origin.state (known new).seen
      (after begins.origin.state (known new).seen) =
      subst (λ (o : Origin D). Stretches model o.store left o.state (known new).seen (after o.state (known new).seen))
      same ends.stretch in
      let from_store : Stretches model store left begins.origin.state (known new).seen
      (after begins.origin.state (known new).seen) =
      subst (λ (x : StoreTerm D). Stretches model x left begins.origin.state (known new).seen
      (after begins.origin.state (known new).seen)) begins.store_is from_origin in
      subst (λ (xs : List Step). Stretches model store left begins.origin.state xs (after begins.origin.state xs))
      is_seen from_store

  -- where no end was served, the disks are as they were
  pub unserved_pair : (left : StoreTerm D) → Ends model old left → left.pair ≡ store.pair
  unserved_pair left ends = (stretch_of left old [] ends refl (sym (append-nil (known old).seen))).untouched tt

-- what two disks open to at each state for which a store on them stands
abbrev pub StandingOpens : {D : Type 0} → DiskModel D → StoreTerm D → Type 0
StandingOpens model store = (t : State) → StandsFor model store t → OfEachPair model store.pair (OpensAfter t)

module _ {D S K : Type 0} (model : DiskModel D) (source : taken.Ghosts S) (sink : put.Ghosts K)
    (adds : RunsAdd) (stay : RunsStaySound) (grow : RebasesGrow) (rest : RebasesStay) (true_of : ServicesAreTrue)
    (content_is_image : (d : D) (l : List ℕ) → model.content d ≡ Some l → model.images d l) (plan : Plan)
    (disks : Disks D) (store : StoreTerm D) (standing : StandingOpens model store) (s : State)
    (stands : StandsFor model store s) (opened : IsOpened plan.commits s)
    (read_a : Narrows model disks.a (disk_a store.pair)) (read_b : Narrows model disks.b (disk_b store.pair))
    (old : HallPass D) (begins : Begins model store true old) where
  -- what the run of a hall leaves of the disks, for all of its steps
  hall_on_disks : (left : StoreTerm D) → StandingOpens model left → (new : HallPass D) (now : Disks D)
      (steps : List Step) → Ends model new left → (known new).origin ≡ (known old).origin
      → (known new).seen ≡ (known old).seen ++ steps → now.a ≡ disk_a left.pair → now.b ≡ disk_b left.pair
      → (on : AreOnDisks model plan.commits disks now (calls_of (λ _. true) steps))
      × (on.steps ≡ steps) × (on.last ≡ after begins.origin.state steps)
      × IsRun begins.origin.state steps (after begins.origin.state steps) × IsCalm steps
  hall_on_disks left standing' new now steps ends origin seen a b =
      let stretch = stretch_of model store old begins left new steps ends origin seen in
      let at = begins.start.opened refl in
      let first = opened_in model at.0 plan.commits store s begins.origin.state opened stands begins.stands at.1 in
      let on = on_these_disks adds stay grow model plan.commits disks begins.origin.state store left standing'
      begins.stands first (opens_at rest model content_is_image store begins.origin.state
      (standing begins.origin.state begins.stands) begins.stands plan.commits first disks read_a read_b) read_a read_b
      (calls_of (λ _. true) steps) now a b
      (record { steps = steps; after = after begins.origin.state steps; stands = stretch; own = refl }) in
      (on.0, on.2, on.1, stretch.run, stretch.calm)

  -- the ends in it
  pub serves_on : (left : StoreTerm D) → StandingOpens model left → (new : HallPass D) (now : Disks D)
      (before ends : List (End S K)) → Ends model new left
      → (serving : Serving source sink (settings_of plan) old new before ends) → now.a ≡ disk_a left.pair
      → now.b ≡ disk_b left.pair → ServesOn model source.left sink.written plan disks now before ends
  serves_on left standing' new now before ends closed serving a b =
      let first : (known old).given ≡ 1 = begins.given in
      let on = hall_on_disks left standing' new now serving.steps closed serving.origin serving.seen a b in
      record {
        calls = calls_of (λ _. true) serving.steps;
        on = on.0;
        each = subst (λ (x : State). AreAtDesks source.left sink.written plan.page on.0.steps x.history 1 before ends)
            (sym on.2) (subst (λ (xs : List Step). AreAtDesks source.left sink.written plan.page xs
            (after begins.origin.state serving.steps).history 1 before ends) (sym on.1)
            (at_desks source sink true_of plan begins.origin.state (after begins.origin.state serving.steps)
            serving.steps begins.stands.memory.sound on.3 on.4 1 before ends serving.count
            (λ i d less. subst (λ (k : ℕ). EndServed source sink (settings_of plan) (slice_index_or before i d)
            (slice_index_or ends i d) (calls_of (has ((k + i) ∷ [])) serving.steps)) first (serving.each i d less))));
        owners = subst (All (λ (x : Step). (1 ≤ x.owner) × (x.owner ≤ length before))) (sym on.1)
            (numbered (length before) serving.steps (λ m out. serving.others m
            (subst (λ (k : ℕ). (m < k) ⊎ (k + length before ≤ m)) (sym first) out)));
        worn = each_end (λ (end : End S K). end.status ≡ WORN → length on.0.steps ≡ 2 ^ 63) ends
            (λ i d less e.
            let full = serving.worn i d (omega (arith, less, serving.count)) e in
            ap length on.1 ∙ (sym (ap length (serving.seen ∙ ap (λ (l : List Step). l ++ serving.steps) begins.seen))
            ∙ (full ∙ (serving.turns ∙ begins.turns))));
      }
