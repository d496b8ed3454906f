-- Walks joined, turned round, along a list; and a shortest walk as a list of atoms.
use Rattle.std.proofs.Common.{ℕ, suc, zero, ◌+◌, ◌<◌, ◌≤◌, ◌≡◌, ◌≢◌, ◌⊎◌, inl, inr, List, [], ◌∷◌, ◌++◌, length, get_or, refl, sym, subst, ◌∙◌, arith}
use Rattle.std.proofs.lemmas.Bool.{cases_lt}
use Rattle.std.proofs.lemmas.List.{get_or_append_left, get_or_push, length_push}
use Rattle.ring_find.specs.Walk.{Walk, IsDistance}

pub walk_join : (S : ℕ → ℕ → Type 0) (x y z m n : ℕ) → Walk S x y m → Walk S y z n → Walk S x z (m + n)
walk_join S x y z m zero w v = let e : m + zero ≡ m = omega arith in rw (e, ← v) w
walk_join S x y z m (suc n) w v =
    let e : m + suc n ≡ suc (m + n) = omega arith in
    rw e (v.0, walk_join S x y v.0 m n w v.1, v.2)

pub walk_back : (S : ℕ → ℕ → Type 0) → ((u v : ℕ) → S u v → S v u) → (x y n : ℕ) → Walk S x y n → Walk S y x n
walk_back S turn x y zero w = sym w
walk_back S turn x y (suc n) w =
    let e : 1 + n ≡ suc n = omega arith in
    rw e at (walk_join S y w.0 x 1 n (y, refl, turn w.0 y w.2) (walk_back S turn x w.0 n w.1))

-- along a list from its place p on
pub walk_along : (S : ℕ → ℕ → Type 0) (xs : List ℕ) (p d : ℕ)
    → ((k : ℕ) → p ≤ k → k < p + d → S (get_or xs k 0) (get_or xs (k + 1) 0))
    → Walk S (get_or xs p 0) (get_or xs (p + d) 0) d
walk_along S xs p zero steps = let e : p + zero ≡ p = omega arith in rw e refl
walk_along S xs p (suc d) steps =
    let e : p + suc d ≡ p + d + 1 = omega arith in
    rw e (
      get_or xs (p + d) 0,
      walk_along S xs p d (λ k a b. steps k a (omega arith)),
      steps (p + d) (omega arith) (omega arith),
    )

-- the atoms of a shortest walk: the k-th is at distance k
pub record IsPath (S : ℕ → ℕ → Type 0) (x y n : ℕ) (xs : List ℕ) : Type 0 where
  pub long : length xs ≡ n + 1
  pub first : get_or xs 0 0 ≡ x
  pub last : get_or xs n 0 ≡ y
  pub steps : (k : ℕ) → k < n → S (get_or xs k 0) (get_or xs (k + 1) 0)
  pub far : (k : ℕ) → k ≤ n → IsDistance S x (get_or xs k 0) k

-- the atom before the last of a shortest walk is one step nearer
before_last : (S : ℕ → ℕ → Type 0) (x y z n : ℕ) → IsDistance S x y (suc n) → Walk S x z n → S z y → IsDistance S x z n
before_last S x y z n h w s = record {
  walk = w;
  least = λ m v. let more = h.least (suc m) (z, v, s) in omega arith;
}

path_more : (S : ℕ → ℕ → Type 0) (x y z n : ℕ) (xs : List ℕ) → IsDistance S x y (suc n) → S z y → IsPath S x z n xs
    → IsPath S x y (suc n) (xs ++ y ∷ [])
path_more S x y z n xs h s p =
    let long : length xs ≡ suc n = omega (arith, p.long) in
    let old : (k : ℕ) → k ≤ n → get_or (xs ++ y ∷ []) k 0 ≡ get_or xs k 0 = λ k l. get_or_append_left xs (y ∷ []) 0 k
    (omega arith) in
    let new : get_or (xs ++ y ∷ []) (suc n) 0 ≡ y = get_or_push xs y 0 (suc n) long in
    record {
      long = omega (arith, length_push xs y);
      first = old 0 (omega arith) ∙ p.first;
      last = new;
      steps = λ k l. elim (cases_lt k n) [
        | inl low ↦ rw (old k (omega arith), old (k + 1) (omega arith)) (p.steps k low)
        | inr high ↦
            let is : k ≡ n = omega arith in
            let is' : k + 1 ≡ suc n = omega arith in
            rw (is', new, old k (omega arith), is, p.last) s
      ];
      far = λ k l. elim (cases_lt k (suc n)) [
        | inl low ↦ rw (old k (omega arith)) (p.far k (omega arith))
        | inr high ↦
            let is : k ≡ suc n = omega arith in
            rw (is, new) h
      ];
    }

pub path_of : (S : ℕ → ℕ → Type 0) (x y n : ℕ) → IsDistance S x y n → (xs : List ℕ) × IsPath S x y n xs
path_of S x y zero h = (
  y ∷ [],
  record {
    long = refl;
    first = sym (h.walk);
    last = refl;
    steps = λ k l. absurd (omega arith);
    far = λ k l. let is : k ≡ 0 = omega arith in rw is h;
  },
)
path_of S x y (suc n) h =
    let z : ℕ = h.walk.0 in
    let near : IsDistance S x z n = before_last S x y z n h h.walk.1 h.walk.2 in
    let rest = path_of S x z n near in
    (rest.0 ++ y ∷ [], path_more S x y z n rest.0 h h.walk.2 rest.1)

-- no two places of a path hold one atom
pub path_distinct : (S : ℕ → ℕ → Type 0) (x y n : ℕ) (xs : List ℕ) → IsPath S x y n xs → (i j : ℕ) → i < j → j ≤ n
    → get_or xs i 0 ≢ get_or xs j 0
path_distinct S x y n xs p i j low high same =
    let there : Walk S x (get_or xs j 0) i = subst (λ v. Walk S x v i) same (p.far i (omega arith)).walk in
    let more = (p.far j high).least i there in
    omega arith

-- the mark of an atom: one more than its distance, or 0 where no walk goes there
abbrev pub IsMark : (ℕ → ℕ → Type 0) → ℕ → ℕ → ℕ → Type 0
IsMark S x y r = ((r ≡ 0) × ((m : ℕ) → Walk S x y m → ⊥)) ⊎ ((d : ℕ) × (r ≡ suc d) × IsDistance S x y d)
