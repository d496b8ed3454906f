-- The steps of one atom taken one after another, and what a search for the ring of a bond says in the end.
use Rattle.std.proofs.Common.{ℕ, ◌+◌, ◌<◌, ◌≤◌, ◌≡◌, ◌≢◌, ◌⊎◌, inl, inr, Bool, true, false, Some, List, [], ◌∷◌, ◌++◌, length, get_or, set, replicate, ap, ◌∙◌, arith}
use Rattle.std.specs.List.{slice_get}
use Rattle.std.proofs.lemmas.Bool.{cases_lt}
use Rattle.std.proofs.lemmas.Option.{slice_get-get_or}
use Rattle.std.proofs.lemmas.List.{get_or_append_left, get_or_push, length_push, get_or-set_same, get_or-set_other, get_or_past, get_or_default}
use Rattle.chem_core.specs.Graph.{Ends, JoinsAt, IsSimpleGraph}
use Rattle.chem_core.specs.declared.adjacency.Step.{Step}
use Rattle.chem_core.specs.Steps.{AreStepsFrom}
use Rattle.chem_core.proofs.Steps.{step_joins, step_within}
use Rattle.ring_find.specs.Walk.{StepBut}
use Rattle.ring_find.specs.Search.{IsSearch, IsRingSearch, mark_at}
use Rattle.ring_find.specs.BondRings.{KeepsRings, IsSmallestThrough}
use Rattle.ring_find.proofs.Cycles.{smallest_from_mark}
use Rattle.ring_find.proofs.Searches.{search_start, search_push, search_next, search_done}

-- ---- ends in range

pub ends_at : (n : ℕ) (ends : Ends) (b : ℕ) → IsSimpleGraph n ends → b < length ends → ((get_or ends b (0, 0)).0 < n)
    × ((get_or ends b (0, 0)).1 < n) × ((get_or ends b (0, 0)).0 ≢ (get_or ends b (0, 0)).1)
    × (slice_get ends b ≡ Some (get_or ends b (0, 0)))
ends_at n ends b graph h =
    let range = graph.in_range b (0, 0) h in
    (range.0, range.1, graph.distinct b (0, 0) h, slice_get-get_or ends b (0, 0) h)

-- ---- the queue in range

pub queued_within : (S : ℕ → ℕ → Type 0) (n x : ℕ) (marks queue : List ℕ) (next i : ℕ) (d : ℕ)
    → IsSearch S n x marks queue next → i < length queue → get_or queue i d < length marks
queued_within S n x marks queue next i d h l =
    let same : get_or queue i d ≡ get_or queue i 0 = get_or_default queue i d 0 l in
    elim (cases_lt (get_or queue i d) (length marks)) [
      | inl a ↦ a
      | inr a ↦
          let some = h.marked i l in
          let none : get_or marks (get_or queue i 0) 0 ≡ 0 = get_or_past marks (get_or queue i 0) 0 (omega arith) in
          absurd (omega arith)
    ]

-- a mark is at most one more than the number of atoms
pub mark_low : (S : ℕ → ℕ → Type 0) (n x : ℕ) (marks queue : List ℕ) (next i : ℕ) → IsSearch S n x marks queue next
    → i < length queue → get_or marks (get_or queue i 0) 0 ≤ n
mark_low S n x marks queue next i h l =
    let low = h.low i l in
    let count = h.count in
    omega arith

-- ---- the steps of one atom

pub record IsVisit (ends : Ends) (kept : List Bool) (b atoms next at new : ℕ) (steps : List Step) (marks queue : List ℕ)
    (k : ℕ) : Type 0 where
  pub search : IsRingSearch ends kept b atoms marks queue next
  pub within : next < length queue
  pub here : get_or queue next 0 ≡ at
  pub mark : get_or marks at 0 + 1 ≡ new
  pub done : (j : ℕ) (d : Step) → j < k → (get_or steps j d).bond ≢ b → get_or kept (get_or steps j d).bond false ≡ true
      → (0 < get_or marks (get_or steps j d).to 0) × (get_or marks (get_or steps j d).to 0 ≤ new)

pub visit_push : (ends : Ends) (kept : List Bool) (b atoms next at new : ℕ) (steps : List Step) (marks queue : List ℕ)
    (k : ℕ) (d : Step) → IsSimpleGraph atoms ends → AreStepsFrom ends at steps
    → IsVisit ends kept b atoms next at new steps marks queue k → k < length steps → (get_or steps k d).bond ≢ b
    → get_or kept (get_or steps k d).bond false ≡ true → get_or marks (get_or steps k d).to 0 ≡ 0
    → IsVisit ends kept b atoms next at new steps (set marks (get_or steps k d).to new) (queue ++ (get_or steps k d).to
    ∷ []) (k + 1)
visit_push ends kept b atoms next at new steps marks queue k d graph from h l other usable fresh =
    let w : ℕ = (get_or steps k d).to in
    let joins = step_joins ends at steps k d from l in
    let within : w < atoms = (step_within atoms ends at steps k d graph from l).1 in
    let there : w < length marks = omega (arith, h.search.size) in
    let step : StepBut ends kept b (get_or queue next 0) w = rw (h.here) (
      (get_or steps k d).bond,
      other,
      usable,
      joins,
    ) in
    let is : mark_at marks queue next + 1 ≡ new = rw (h.here) (h.mark) in
    let pushed = search_push (StepBut ends kept b) atoms _ marks queue next w h.search h.within step within fresh in
    let newm : get_or (set marks w new) w 0 ≡ new = get_or-set_same marks w new 0 there in
    let oldm : (v : ℕ) → v ≢ w → get_or (set marks w new) v 0 ≡ get_or marks v 0 = λ v ne.
    get_or-set_other marks w v new 0 ne in
    let apart : at ≢ w = λ e.
    let some : 0 < get_or marks at 0 = rw (h.here) at (h.search.marked next h.within) in
    let none : get_or marks at 0 ≡ 0 = ap (λ v. get_or marks v 0) e ∙ fresh in
    omega arith in
    record {
      search = rw is at pushed;
      within = let e = length_push queue w in let f = h.within in omega arith;
      here = get_or_append_left queue (w ∷ []) 0 next h.within ∙ h.here;
      mark = rw (oldm at apart) (h.mark);
      done = λ j c low ne kj. elim (cases_lt j k) [
        | inl before ↦
            let past = h.done j c before ne kj in
            let apart' : (get_or steps j c).to ≢ w = λ e.
            let none : get_or marks (get_or steps j c).to 0 ≡ 0 = ap (λ v. get_or marks v 0) e ∙ fresh in
            omega (arith, past.0) in
            rw (oldm (get_or steps j c).to apart') past
        | inr after ↦
            let e : j ≡ k = omega arith in
            let same : (get_or steps j c).to ≡ w = ap (λ i. (get_or steps i c).to) e
            ∙ ap (λ s. s.to) (get_or_default steps k c d l) in
            let m = h.mark in
            rw (same, newm) (omega arith, omega arith)
      ];
    }

pub visit_done : (ends : Ends) (kept : List Bool) (b atoms next at new : ℕ) (steps : List Step) (marks queue : List ℕ)
    (k : ℕ) → AreStepsFrom ends at steps → IsVisit ends kept b atoms next at new steps marks queue k → length steps ≤ k
    → IsRingSearch ends kept b atoms marks queue (next + 1)
visit_done ends kept b atoms next at new steps marks queue k from h all =
    search_next (StepBut ends kept b) atoms _ marks queue next h.search h.within (λ v s.
    let joins : JoinsAt ends s.0 at v = rw (h.here) at s.3 in
    let step : Step = record { to = v; bond = s.0 } in
    let has = from.each s.0 v joins in
    let is : get_or steps has.0 step ≡ step = has.2 in
    let ne : (get_or steps has.0 step).bond ≢ b = rw is s.1 in
    let usable : get_or kept (get_or steps has.0 step).bond false ≡ true = rw is s.2 in
    let past = h.done has.0 step (omega (arith, has.1)) ne usable in
    let past' : (0 < get_or marks v 0) × (get_or marks v 0 ≤ new) = rw is at past in
    let m : mark_at marks queue next + 1 ≡ new = rw (h.here) (h.mark) in
    (past'.0, omega (arith, past'.1)))

-- ---- the search for a bond

pub ring_start : (n : ℕ) (ends : Ends) (kept : List Bool) (b : ℕ) → IsSimpleGraph n ends → b < length ends
    → IsRingSearch ends kept b n (set (replicate n 0) (get_or ends b (0, 0)).0 1) ((get_or ends b (0, 0)).0 ∷ []) 0
ring_start n ends kept b graph h = search_start (StepBut ends kept b) n _ (ends_at n ends b graph h).0

pub ring_done : (n : ℕ) (ends : Ends) (kept : List Bool) (b : ℕ) (marks queue : List ℕ) (next : ℕ)
    → IsSimpleGraph n ends → KeepsRings ends kept → b < length ends → IsRingSearch ends kept b n marks queue next
    → (get_or marks (get_or ends b (0, 0)).1 0 ≢ 0) ⊎ (length queue ≤ next)
    → IsSmallestThrough ends b (get_or marks (get_or ends b (0, 0)).1 0)
ring_done n ends kept b marks queue next graph keeps within h end =
    let e = ends_at n ends b graph within in
    smallest_from_mark n ends kept b _ _ _ graph keeps e.3 e.2 (search_done (StepBut ends kept b) n _ marks queue next _
    h end)

-- one more bond's ring
pub rings_more : (ends : Ends) (lengths : List ℕ) (n v : ℕ) → length lengths ≡ n
    → ((b : ℕ) → b < n → IsSmallestThrough ends b (get_or lengths b 0)) → IsSmallestThrough ends n v → (b : ℕ)
    → b < n + 1 → IsSmallestThrough ends b (get_or (lengths ++ v ∷ []) b 0)
rings_more ends lengths n v count h new b l =
    elim (cases_lt b n) [
      | inl low ↦
          let there : b < length lengths = omega arith in
          rw (get_or_append_left lengths (v ∷ []) 0 b there) (h b low)
      | inr high ↦
          let e : b ≡ n = omega arith in
          rw (e, get_or_push lengths v 0 n count) new
    ]
