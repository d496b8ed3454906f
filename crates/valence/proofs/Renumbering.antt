-- The places of atoms that stay, once those that go are away.
use Rattle.std.proofs.Common.{ℕ, zero, suc, ◌+◌, ◌-◌, ◌<◌, ◌≤◌, ◌≡◌, Bool, false, not, cond, List, length, get_or, set, refl, ap, sym, subst, ◌∙◌, inl, inr, arith, ◌≢◌, below_more}
use Rattle.std.specs.List.{range_with_len}
use Rattle.std.proofs.lemmas.Bool.{cases_order}
use Rattle.std.proofs.lemmas.List.{map-id, get_or-set_same, get_or-set_other}
use Rattle.std.proofs.lemmas.List.Sums.{count_by-le-length}
use Rattle.std.proofs.lemmas.List.FromFn.{sum_by-map-range_with_len_more, length-range_with_len}
use Rattle.valence.specs.Suppressed.{new_place}

pub new_place-more : (goes : ℕ → Bool) (a : ℕ) → new_place goes (a + 1) ≡ new_place goes a + cond (not (goes a)) 1 0
new_place-more goes a =
    let g : ℕ → ℕ = λ k. cond (not (goes k)) 1 0 in
    let e = sum_by-map-range_with_len_more g (λ k. k) 0 a a (omega arith) in
    rw (map-id (range_with_len 0 (a + 1)), map-id (range_with_len 0 a)) at e

pub new_place-le : (goes : ℕ → Bool) (a : ℕ) → new_place goes a ≤ a
new_place-le goes a = omega (
  arith,
  count_by-le-length (λ k. not (goes k)) (range_with_len 0 a),
  length-range_with_len 0 a,
)

new_place-up : (goes : ℕ → Bool) (a k : ℕ) → new_place goes a ≤ new_place goes (a + k)
new_place-up goes a zero = let e : a + 0 ≡ a = omega arith in rw e (omega arith)
new_place-up goes a (suc k) =
    let e : a + suc k ≡ (a + k) + 1 = omega arith in
    rw e (omega (arith, new_place-up goes a k, new_place-more goes (a + k)))

-- only what goes before a place moves it
pub new_place-agree : (goes other : ℕ → Bool) (a : ℕ) → ((k : ℕ) → k < a → goes k ≡ other k) → new_place goes a
    ≡ new_place other a
new_place-agree goes other zero same = refl
new_place-agree goes other (suc a) same =
    let z : suc a ≡ a + 1 = omega arith in
    let before = new_place-agree goes other a (λ k h. same k (omega arith)) in
    let here : cond {A = ℕ} (not (goes a)) 1 0 ≡ cond (not (other a)) 1 0 =
    ap (λ t. cond (not t) 1 0) (same a (omega arith)) in
    subst (λ k. new_place goes k ≡ new_place other k) (sym z) (omega (
      arith,
      new_place-more goes a,
      new_place-more other a,
      before,
      here,
    ))

-- one more place is written
pub places-more : (goes : ℕ → Bool) (xs : List ℕ) (i v : ℕ) → i < length xs → v ≡ new_place goes i
    → ((a : ℕ) → a < i → get_or xs a 0 ≡ new_place goes a) → (a : ℕ) → a < i + 1 → get_or (set xs i v) a 0
    ≡ new_place goes a
places-more goes xs i v within is before = below_more (λ a. get_or (set xs i v) a 0 ≡ new_place goes a) i
    (λ a h. let ne : a ≢ i = λ e. absurd (omega arith) in get_or-set_other xs i a v 0 ne ∙ before a h)
    (get_or-set_same xs i v 0 within ∙ is)

-- an atom that stays comes before each later one
pub new_place-lt : (goes : ℕ → Bool) (a b : ℕ) → goes a ≡ false → a < b → new_place goes a < new_place goes b
new_place-lt goes a b stays h =
    let one : cond {A = ℕ} (not (goes a)) 1 0 ≡ 1 = ap (λ t. cond (not t) 1 0) stays in
    let e : (a + 1) + (b - (a + 1)) ≡ b = omega arith in
    let up = new_place-up goes (a + 1) (b - (a + 1)) in
    let up' : new_place goes (a + 1) ≤ new_place goes b = rw e at up in
    omega (arith, one, new_place-more goes a, up')

-- atoms that stay have places of their own
pub new_place-one : (goes : ℕ → Bool) (a b : ℕ) → goes a ≡ false → goes b ≡ false → new_place goes a ≡ new_place goes b
    → a ≡ b
new_place-one goes a b sa sb e = elim (cases_order a b) [
  | inl h ↦ h
  | inr o ↦ elim o [
    | inl h ↦ absurd (omega (arith, new_place-lt goes a b sa h))
    | inr h ↦ absurd (omega (arith, new_place-lt goes b a sb h))
  ]
]
