-- The distances of atoms from the target of a search, and the queue of the atoms that are reached. For private clauses
-- alone.
use Rattle.std.specs.Prelude.{◌≡◌, ◌≢◌, ◌==◌, ℕ, ◌+◌, ◌<◌, ◌≤◌, List, length, slice_index, count_by, Contains}
use Rattle.aromatic.specs.declared.limits.TheConstants.{LONGEST}
use Rattle.aromatic.specs.declared.links.Link.{Link}
use Rattle.aromatic.specs.Links.{IsLinked}

-- A number for each atom: 0 for the target, and along a link it falls by at most one. So at least that many links lead
-- from each atom to the target.
pub record AreDistances (links : List (List Link)) (target : ℕ) (distances : List ℕ) : Type 0 where
  pub count : length distances ≡ length links
  pub here : slice_index distances target ≡ 0
  pub falls : (a n : ℕ) → IsLinked links a n → slice_index distances a ≤ slice_index distances n + 1

-- each atom that has a distance, other than LONGEST, is in the queue
abbrev pub IsQueue : List ℕ → List ℕ → Type 0
IsQueue distances queue = (a : ℕ) → a < length distances → slice_index distances a ≢ LONGEST → Contains queue a

-- the distance of the i-th atom of the queue
abbrev pub distance_at : List ℕ → List ℕ → ℕ → ℕ
distance_at distances queue i = slice_index distances (slice_index queue i)

-- The distances are spread from the target as far as the atoms of the queue below the head. The atoms linked to these
-- are at most one farther. The queue rises by distances, which differ by at most one from the head on.
pub record IsSpread (links : List (List Link)) (target : ℕ) (distances queue : List ℕ) (head : ℕ) : Type 0 where
  pub count : length distances ≡ length links
  pub here : slice_index distances target ≡ 0
  pub most : (a : ℕ) → slice_index distances a ≤ LONGEST
  pub queued : IsQueue distances queue
  pub in_range : (i : ℕ) → i < length queue → slice_index queue i < length links
  pub near : (i : ℕ) → i < length queue → distance_at distances queue i < LONGEST
  pub rises : (i j : ℕ) → i ≤ j → j < length queue → distance_at distances queue i ≤ distance_at distances queue j
  pub close : (i j : ℕ) → head ≤ i → i < length queue → j < length queue → distance_at distances queue j
      ≤ distance_at distances queue i + 1
  pub done : (i n : ℕ) → i < head → IsLinked links (slice_index queue i) n → slice_index distances n
      ≤ distance_at distances queue i + 1
  -- an atom is queued once, or at LONGEST
  pub room : length queue + count_by (λ d. d == LONGEST) distances ≡ length links
