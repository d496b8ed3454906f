-- A breadth-first search under way: the marks of the atoms, and the queue of the atoms that are marked.
-- For private clauses alone.
use Rattle.std.specs.Prelude.{◌≡◌, ◌≢◌, ◌≤◌, ◌<◌, ◌+◌, ◌==◌, ℕ, suc, Bool, List, length, slice_index, slice_index_or, count_by, Contains}
use Rattle.chem_core.specs.Graph.{Ends}
use Rattle.ring_find.specs.Walk.{Walk, StepBut}

-- the mark of the i-th atom of the queue
abbrev pub mark_at : List ℕ → List ℕ → ℕ → ℕ
mark_at marks queue i = slice_index marks (slice_index queue i)

-- A search from x that has taken the steps of the first `next` atoms of the queue. A mark is one more than the number
-- of steps of a walk, and 0 if none is found. The queue rises by marks, which differ by at most one from there on.
pub record IsSearch (Step : ℕ → ℕ → Type 0) (atoms x : ℕ) (marks queue : List ℕ) (next : ℕ) : Type 0 where
  pub size : length marks ≡ atoms
  pub count : length queue + count_by (λ m. m == 0) marks ≡ atoms
  pub within : next ≤ length queue
  pub start : slice_index marks x ≡ 1
  pub walk : (v d : ℕ) → slice_index marks v ≡ suc d → Walk Step x v d
  pub queued : (v : ℕ) → slice_index marks v ≢ 0 → Contains queue v
  pub marked : (i : ℕ) → i < length queue → 0 < mark_at marks queue i
  pub low : (i : ℕ) → i < length queue → mark_at marks queue i ≤ i + 1
  pub rises : (i j : ℕ) → i ≤ j → j < length queue → mark_at marks queue i ≤ mark_at marks queue j
  pub near : (i j : ℕ) → next ≤ i → i < length queue → j < length queue → mark_at marks queue j ≤ mark_at marks queue i
      + 1
  pub past : (i v : ℕ) → i < next → Step (slice_index queue i) v → (0 < slice_index marks v)
      × (slice_index marks v ≤ mark_at marks queue i + 1)

-- a search for the smallest ring through bond b, from the first of its ends
abbrev pub IsRingSearch : Ends → List Bool → ℕ → ℕ → List ℕ → List ℕ → ℕ → Type 0
IsRingSearch ends kept b atoms marks queue next =
    IsSearch (StepBut ends kept b) atoms (slice_index_or ends b (0, 0)).0 marks queue next
