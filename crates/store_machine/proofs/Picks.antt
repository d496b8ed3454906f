-- What is picked of all that is found at a version are the answers there.
use Rattle.std.proofs.Common.{◌≡◌, ◌⊎◌, ◌+◌, ◌<◌, ◌≤◌, add-one, ap, arith, Bool, Contains, inl, inr, List, [], ◌∷◌, refl, slice_index, Some, subst, suc, sym, zero, ℕ}
use Rattle.std.specs.FinMap.{get}
use Rattle.std.specs.List.Sorted.{IsStrictlyIncreasing}
use Rattle.mol_finish.specs.declared.fault.Format.{Format}
use Rattle.store_machine.specs.Answers.{AreAnswers, AreFound, AreTried, ids}
use Rattle.store_machine.specs.History.{snapshot}
use Rattle.store_machine.specs.Structures.{IsScreened}
use Rattle.store_machine.specs.declared.machine.Found.{Found}
use Rattle.store_machine.specs.declared.machine.History.{History}
use Rattle.store_machine.specs.declared.machine.Status.TheVariants.{Live}
use Rattle.store_machine.proofs.Members.{contains-here, contains-split, contains-there}

-- numbers, each at or past one, and past the one before it
abbrev pub Rising : ℕ → List ℕ → Type 0
Rising a [] = Unit {0}
Rising a (x ∷ xs) = (a ≤ x) × Rising (x + 1) xs

rising-weaker : (a b : ℕ) (xs : List ℕ) → a ≤ b → Rising b xs → Rising a xs
rising-weaker a b [] le h = tt
rising-weaker a b (x ∷ xs) le h = (omega (arith, le, h.0), h.1)

rising-increasing : (a : ℕ) (xs : List ℕ) → Rising a xs → IsStrictlyIncreasing xs
rising-increasing a [] h k less = absurd (omega (arith, less))
rising-increasing a (x ∷ []) h k less = absurd (omega (arith, less))
rising-increasing a (x ∷ y ∷ ys) h zero less = omega (arith, h.1.0)
rising-increasing a (x ∷ y ∷ ys) h (suc k) less =
    let rest : slice_index (y ∷ ys) k < slice_index (y ∷ ys) (k + 1) = rising-increasing (x + 1) (y ∷ ys) h.1 k
    (omega (arith, less)) in
    rw add-one (rw add-one at rest)

pub increasing-behind : (x y : ℕ) (ys : List ℕ) → IsStrictlyIncreasing (x ∷ y ∷ ys) → IsStrictlyIncreasing (y ∷ ys)
increasing-behind x y ys up k less =
    let rest : slice_index (x ∷ y ∷ ys) (suc k) < slice_index (x ∷ y ∷ ys) (suc k + 1) = up (suc k)
    (omega (arith, less)) in
    rw add-one (rw add-one at rest)

first-rising : (a x : ℕ) (xs : List ℕ) → a ≤ x → IsStrictlyIncreasing (x ∷ xs) → Rising a (x ∷ xs)
first-rising a x [] le up = (le, tt)
first-rising a x (y ∷ ys) le up =
    let first : x < y = up 0 (omega arith) in
    (le, first-rising (x + 1) y ys (omega (arith, first)) (increasing-behind x y ys up))

pub rising-from : (xs : List ℕ) → IsStrictlyIncreasing xs → Rising 0 xs
rising-from [] up = tt
rising-from (x ∷ xs) up = first-rising 0 x xs (omega arith) up

-- a record with the identifier
pub record With (rs : List Found) (id : ℕ) : Type 0 where
  pub found : Found
  pub within : Contains rs found
  pub is : found.id ≡ id

abbrev further : (r : Found) (rs : List Found) (id : ℕ) → With rs id → With (r ∷ rs) id
further r rs id w = record { found = w.found; within = contains-there r w.found rs w.within; is = w.is }

none-in : {X : Type 0} (x : X) → Contains [] x → ⊥
none-in x c = omega (arith, c.1)

with-id : (rs : List Found) (id : ℕ) → Contains (ids rs) id → With rs id
with-id [] id c = absurd (none-in id c)
with-id (r ∷ rs) id c =
    elim (contains-split r.id id (ids rs) c) [
      | inl e ↦ record { found = r; within = contains-here r r rs refl; is = e }
      | inr d ↦ further r rs id (with-id rs id d)
    ]

id-of : (rs : List Found) (r : Found) → Contains rs r → Contains (ids rs) r.id
id-of [] r c = absurd (none-in r c)
id-of (q ∷ qs) r c =
    elim (contains-split q r qs c) [
      | inl e ↦ contains-here q.id r.id (ids qs) (ap (λ (x : Found). x.id) e)
      | inr d ↦ contains-there q.id r.id (ids qs) (id-of qs r d)
    ]

pub found-tried : (want : List Bool) (h : History) (v : ℕ) (rs : List Found)
    → AreFound (IsScreened want) (snapshot h v) rs → AreTried h v want (ids rs)
found-tried want h v rs f = record {
  ascending = f.ascending;
  only = λ id c.
      let w = with-id rs id c in
      let o = f.only w.found w.within in
      record {
        version = o.0.0;
        format = w.found.format;
        text = w.found.text;
        state = subst (λ k. get (snapshot h v) k ≡ Some (Live o.0.0 w.found.format w.found.text)) w.is o.0.1;
        asked = o.1;
      };
  all = λ id a.
      let r : Found = record { id = id; format = a.format; text = a.text } in
      id-of rs r (f.all r (a.version, a.state) a.asked);
}

-- of these records the identifiers of those of whose texts this holds, in order
abbrev pub Picks : (Format → List ℕ → Type 0) → List Found → List ℕ → Type 0
Picks Asked [] hits = hits ≡ []
Picks Asked (r ∷ rs) hits =
    (Asked r.format r.text × (rest : List ℕ) × (hits ≡ r.id ∷ rest) × Picks Asked rs rest)
    ⊎ (¬ Asked r.format r.text × Picks Asked rs hits)

module _ (Asked : Format → List ℕ → Type 0) where
  rising-picked : (a : ℕ) (rs : List Found) (hits : List ℕ) → Rising a (ids rs) → Picks Asked rs hits → Rising a hits
  rising-picked a [] hits up m = subst (Rising a) (sym m) tt
  rising-picked a (r ∷ rs) hits up (inl m) =
      subst (Rising a) (sym m.2) (up.0, rising-picked (r.id + 1) rs m.1 up.1 m.3)
  rising-picked a (r ∷ rs) hits up (inr m) =
      rising-weaker a (r.id + 1) hits (omega (arith, up.0)) (rising-picked (r.id + 1) rs hits up.1 m.1)

  picked-only : (rs : List Found) (hits : List ℕ) (id : ℕ) → Picks Asked rs hits → Contains hits id
      → (w : With rs id) × Asked w.found.format w.found.text
  picked-only [] hits id m c = absurd (none-in id (subst (λ (l : List ℕ). Contains l id) m c))
  picked-only (r ∷ rs) hits id (inl m) c =
      elim (contains-split r.id id m.1 (subst (λ (l : List ℕ). Contains l id) m.2 c)) [
        | inl e ↦ (record { found = r; within = contains-here r r rs refl; is = e }, m.0)
        | inr d ↦ let w = picked-only rs m.1 id m.3 d in (further r rs id w.0, w.1)
      ]
  picked-only (r ∷ rs) hits id (inr m) c = let w = picked-only rs hits id m.1 c in (further r rs id w.0, w.1)

  picked-all : (rs : List Found) (hits : List ℕ) (r : Found) → Picks Asked rs hits → Contains rs r
      → Asked r.format r.text → Contains hits r.id
  picked-all [] hits r m c is = absurd (none-in r c)
  picked-all (q ∷ qs) hits r (inl m) c is =
      subst (λ (l : List ℕ). Contains l r.id) (sym m.2)
      (elim (contains-split q r qs c) [
        | inl e ↦ contains-here q.id r.id m.1 (ap (λ (x : Found). x.id) e)
        | inr d ↦ contains-there q.id r.id m.1 (picked-all qs m.1 r m.3 d is)
      ])
  picked-all (q ∷ qs) hits r (inr m) c is =
      elim (contains-split q r qs c) [
        | inl e ↦ absurd (m.0 (subst (λ (x : Found). Asked x.format x.text) (sym e) is))
        | inr d ↦ picked-all qs hits r m.1 d is
      ]

  -- what is picked of all that is wanted, where all that is asked for is wanted
  pub picked-answers : (want : List Bool) (h : History) (v : ℕ) (rs : List Found) (hits : List ℕ)
      → ((format : Format) (text : List ℕ) → Asked format text → IsScreened want format text)
      → AreFound (IsScreened want) (snapshot h v) rs → Picks Asked rs hits → AreAnswers Asked h v hits
  picked-answers want h v rs hits screened f m = record {
    ascending = rising-increasing 0 hits (rising-picked 0 rs hits (rising-from (ids rs) f.ascending) m);
    only = λ id c.
        let w = picked-only rs hits id m c in
        let o = f.only w.0.found w.0.within in
        record {
          version = o.0.0;
          format = w.0.found.format;
          text = w.0.found.text;
          state = subst (λ k. get (snapshot h v) k ≡ Some (Live o.0.0 w.0.found.format w.0.found.text)) w.0.is o.0.1;
          asked = w.1;
        };
    all = λ id a.
        let r : Found = record { id = id; format = a.format; text = a.text } in
        picked-all rs hits r m (f.all r (a.version, a.state) (screened a.format a.text a.asked)) a.asked;
  }
