-- The history to which the bytes of two disks open. For callers.
use Rattle.std.specs.Prelude.{◌≡◌, ◌⊎◌, ◌<◌, ◌≤◌, ◌++◌, ◌∷◌, [], Bool, false, true, List, Option, Some, ℕ}
use Rattle.journal_core.specs.Fronts.{IsFront, IsOpenAt}
use Rattle.journal_core.specs.Records.{Opens}
use Rattle.journal_core.specs.declared.header.Header.{Header}

-- a history as a disk has it: its header, the base records' payloads, and the commits' payloads
pub record History : Type 0 where
  pub header : Header
  pub base : List (List ℕ)
  pub commits : List (List ℕ)

-- the bytes of one disk are open, with this history
pub record OpensAs (h : History) (bytes : List ℕ) : Type 0 where
  pub front : List ℕ
  pub is : IsFront h.header h.base front
  pub opens : Opens front h.commits bytes

-- The first of two disks is read: it is open, and the second is not, or with no greater generation.
abbrev pub ReadsFirst : List ℕ → List ℕ → Type 0
ReadsFirst a b = (g : ℕ) × IsOpenAt g a × ((k : ℕ) → IsOpenAt k b → k ≤ g)

-- The second is read: it is open, and the first is not, or with a smaller generation.
abbrev pub ReadsSecond : List ℕ → List ℕ → Type 0
ReadsSecond a b = (g : ℕ) × IsOpenAt g b × ((k : ℕ) → IsOpenAt k a → k < g)

-- these bytes of the two are read
abbrev pub Picks : List ℕ → List ℕ → List ℕ → Type 0
Picks a b c = (ReadsFirst a b × (c ≡ a)) ⊎ (ReadsSecond a b × (c ≡ b))

-- two disks open to a history
pub record PairOpens (h : History) (a b : List ℕ) : Type 0 where
  pub read : List ℕ
  pub picks : Picks a b read
  pub opens : OpensAs h read

-- they open to a history that has P
abbrev pub PairOpensTo : (History → Type 0) → List ℕ → List ℕ → Type 0
PairOpensTo P a b = (h : History) × P h × PairOpens h a b

-- An image of the other disk is not read beside a current one of this generation; the flag says that the second disk is
-- current.
abbrev pub Loses : Bool → ℕ → List ℕ → Type 0
Loses false g y = (k : ℕ) → IsOpenAt k y → k ≤ g
Loses true g y = (k : ℕ) → IsOpenAt k y → k < g

-- The history of two disks, the commit in doubt, the complete copy whose finish is in doubt, and the contents of a
-- running copy so far.
pub record State : Type 0 where
  pub now : History
  pub commit : Option (List ℕ)
  pub finish : Option History
  pub copy : Option History

abbrev pub with_base : History → List ℕ → History
with_base h payload = record h { base = h.base ++ payload ∷ [] }

abbrev pub with_commit : History → List ℕ → History
with_commit h payload = record h { commits = h.commits ++ payload ∷ [] }

-- one of the histories that a crash may leave
abbrev pub MayShow : State → History → Type 0
MayShow s h = (h ≡ s.now) ⊎ (((p : List ℕ) × (s.commit ≡ Some p) × (h ≡ with_commit s.now p)) ⊎ (s.finish ≡ Some h))
