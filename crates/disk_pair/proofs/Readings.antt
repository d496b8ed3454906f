-- Which of two disks is read.
use Rattle.std.proofs.Common.{inl, inr, ◌<◌, Bool, false, true, ℕ, List, Option, Some, None, refl, arith}
use Rattle.journal_core.specs.Fronts.{IsOpen, IsOpenAt}
use Rattle.journal_core.proofs.FrontLaws.{one_generation, open_or_not, opens_at}
use Rattle.disk_pair.specs.Pairs.{History, Loses, OpensAs, PairOpens}
use Rattle.disk_pair.specs.Puts.{IsOther}
use Rattle.disk_pair.specs.Stands.{OtherHas}

-- An image of the current disk and one of the other disk open to a history: whether the current one is the second.
abbrev pub Shows : Bool → History → List ℕ → List ℕ → Type 0
Shows false h current other = PairOpens h current other
Shows true h current other = PairOpens h other current

pub generation_of : (h : History) (x : List ℕ) → OpensAs h x → IsOpenAt h.header.generation x
generation_of h x o = opens_at h.header h.base o.front h.commits x o.is o.opens

-- an other disk that loses leaves the current one to be read
pub reads_current : (second : Bool) (h : History) (x y : List ℕ) → OpensAs h x → Loses second h.header.generation y
    → Shows second h x y
reads_current false h x y o loses = record {
  read = x;
  picks = inl ((h.header.generation, generation_of h x o, loses), refl);
  opens = o;
}
reads_current true h x y o loses = record {
  read = x;
  picks = inr ((h.header.generation, generation_of h x o, loses), refl);
  opens = o;
}

-- a complete copy of greater generation is read
pub reads_copy : (second : Bool) (h v : History) (x y : List ℕ) → OpensAs h x → OpensAs v y
    → h.header.generation < v.header.generation → Shows second v x y
reads_copy false h v x y o p less = record {
  read = y;
  picks = inr (
    (
      v.header.generation,
      generation_of v y p,
      λ k is.
          let same = one_generation h.header.generation k x (generation_of h x o) is in omega (arith, same, less),
    ),
    refl,
  );
  opens = p;
}
reads_copy true h v x y o p less = record {
  read = y;
  picks = inl (
    (
      v.header.generation,
      generation_of v y p,
      λ k is.
          let same = one_generation h.header.generation k x (generation_of h x o) is in omega (arith, same, less),
    ),
    refl,
  );
  opens = p;
}

-- what is not open loses, and so does what has a smaller generation
pub shut_loses : (second : Bool) (g : ℕ) (y : List ℕ) → (IsOpen y → ⊥) → Loses second g y
shut_loses false g y closed = λ k is. absurd (closed (k, is))
shut_loses true g y closed = λ k is. absurd (closed (k, is))

pub older_loses : (second : Bool) (g : ℕ) (h : History) (x : List ℕ) → OpensAs h x → h.header.generation < g
    → Loses second g x
older_loses false g h x o less = λ k is.
    let same = one_generation h.header.generation k x (generation_of h x o) is in omega (arith, same, less)
older_loses true g h x o less = λ k is.
    let same = one_generation h.header.generation k x (generation_of h x o) is in omega (arith, same, less)

pub other_is : (second : Bool) (g : ℕ) (finish : Option History) (images : List ℕ → Type 0)
    → OtherHas second g finish images → (y : List ℕ) → images y → IsOther second g finish y
other_is second g None images has y i = inr (has y i)
other_is second g (Some v) images has y i = elim (has.1 y i) [
  | inl copy ↦ inl (v, refl, has.0, copy)
  | inr loses ↦ inr loses
]

-- an image that is open and was one is what it was; one that is not open loses
pub was_other : (second : Bool) (g : ℕ) (finish : Option History) (images : List ℕ → Type 0)
    → OtherHas second g finish images → (y : List ℕ) → (IsOpen y → images y) → IsOther second g finish y
was_other second g finish images has y was = elim (open_or_not y) [
  | inl is_open ↦ other_is second g finish images has y (was is_open)
  | inr closed ↦ inr (shut_loses second g y closed)
]

-- a refusal keeps what the other disk has
pub other_stays : (second : Bool) (g : ℕ) (finish : Option History) (old new : List ℕ → Type 0)
    → ((y : List ℕ) → old y → new y) → ((y : List ℕ) → new y → IsOpen y → old y)
    → OtherHas second g finish old → OtherHas second g finish new
other_stays second g None old new stays no_new has = λ y i. elim (open_or_not y) [
  | inl is_open ↦ has y (no_new y i is_open)
  | inr closed ↦ shut_loses second g y closed
]
other_stays second g (Some v) old new stays no_new has = (
  has.0,
  λ y i. elim (open_or_not y) [
    | inl is_open ↦ has.1 y (no_new y i is_open)
    | inr closed ↦ inr (shut_loses second g y closed)
  ],
  (has.2.0, stays has.2.0 has.2.1, has.2.2),
)
