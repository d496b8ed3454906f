-- A map of atoms that keeps bonds is changed on a part of the atoms, for which another map is known: where the first
-- map takes some other part to the images of that part, these two parts change places. For proofs alone.
use Rattle.std.proofs.Common.{◌≡◌, ℕ, Bool, true, false, cond, sym, ap, ◌∙◌, subst, inl, inr}
use Rattle.std.proofs.lemmas.Bool.{cases_Bool}

-- f takes the atoms of one side to those of the other, and g back; h takes the part d to the part e, and k back. Bonds of
-- the part go to atoms outside that f takes outside of e; and no part is met by halves.
pub record Parts (K : Type 0) (E F : ℕ → ℕ → K → Type 0) (f g h k : ℕ → ℕ) (d e : ℕ → Bool) : Type 0 where
  pub back : (x : ℕ) → g (f x) ≡ x
  pub here : (x : ℕ) → d x ≡ true → e (h x) ≡ true
  pub home : (x : ℕ) → d x ≡ true → k (h x) ≡ x
  pub whole : (x : ℕ) → d x ≡ false → e (f x) ≡ true → e (f (k (f x))) ≡ false
  pub kept : (x y : ℕ) (b : K) → E x y b → F (f x) (f y) b
  pub inside : (x y : ℕ) (b : K) → d x ≡ true → d y ≡ true → E x y b → F (h x) (h y) b
  pub edge : (x y : ℕ) (b : K) → d x ≡ true → d y ≡ false → E x y b → F (h x) (f y) b
  pub closed : (x y : ℕ) (b : K) → d x ≡ true → d y ≡ false → E x y b → e (f y) ≡ false
  pub turned : (x y : ℕ) (b : K) → E x y b → E y x b

-- the map that is changed
unfoldable pub changed : (f h k : ℕ → ℕ) (d e : ℕ → Bool) → ℕ → ℕ
changed f h k d e x = cond (d x) (h x) (cond (e (f x)) (f (k (f x))) (f x))

pub changed-in : (f h k : ℕ → ℕ) (d e : ℕ → Bool) (x : ℕ) → d x ≡ true → changed f h k d e x ≡ h x
unfolding changed
changed-in f h k d e x in' = ap (λ t. cond t (h x) (cond (e (f x)) (f (k (f x))) (f x))) in'

pub changed-met : (f h k : ℕ → ℕ) (d e : ℕ → Bool) (x : ℕ) → d x ≡ false → e (f x) ≡ true
    → changed f h k d e x ≡ f (k (f x))
unfolding changed
changed-met f h k d e x out met = ap (λ t. cond t (h x) (cond (e (f x)) (f (k (f x))) (f x))) out
    ∙ ap (λ t. cond t (f (k (f x))) (f x)) met

pub changed-out : (f h k : ℕ → ℕ) (d e : ℕ → Bool) (x : ℕ) → d x ≡ false → e (f x) ≡ false
    → changed f h k d e x ≡ f x
unfolding changed
changed-out f h k d e x out free = ap (λ t. cond t (h x) (cond (e (f x)) (f (k (f x))) (f x))) out
    ∙ ap (λ t. cond t (f (k (f x))) (f x)) free

-- the map that is changed goes back by the other, changed alike
pub changed-back : (K : Type 0) (E F : ℕ → ℕ → K → Type 0) (f g h k : ℕ → ℕ) (d e : ℕ → Bool)
    → Parts K E F f g h k d e → Parts K F E g f k h e d → (x : ℕ)
    → changed g k h e d (changed f h k d e x) ≡ x
changed-back K E F f g h k d e p q x =
    let c : ℕ → ℕ = changed g k h e d in
    elim (cases_Bool (d x)) [
      | inl in' ↦ ap c (changed-in f h k d e x in') ∙ changed-in g k h e d (h x) (p.here x in') ∙ p.home x in'
      | inr out ↦ elim (cases_Bool (e (f x))) [
        | inl met ↦
            let z : ℕ = k (f x) in
            let home : d z ≡ true = q.here (f x) met in
            let back : g (f z) ≡ z = p.back z in
            ap c (changed-met f h k d e x out met)
            ∙ changed-met g k h e d (f z) (p.whole x out met) (ap d back ∙ home)
            ∙ ap (λ t. g (h t)) back ∙ ap g (q.home (f x) met) ∙ p.back x
        | inr free ↦ ap c (changed-out f h k d e x out free)
            ∙ changed-out g k h e d (f x) free (ap d (p.back x) ∙ out) ∙ p.back x
      ]
    ]

-- bonds between atoms outside, the first of which changes places
changed-edge : (K : Type 0) (E F : ℕ → ℕ → K → Type 0) (f g h k : ℕ → ℕ) (d e : ℕ → Bool)
    → Parts K E F f g h k d e → Parts K F E g f k h e d → (x y : ℕ) (b : K) → e (f x) ≡ true → e (f y) ≡ false
    → E x y b → F (f (k (f x))) (f y) b
changed-edge K E F f g h k d e p q x y b met free bond =
    let there : E (k (f x)) (g (f y)) b = q.edge (f x) (f y) b met free (p.kept x y b bond) in
    let here : E (k (f x)) y b = subst (λ t. E (k (f x)) t b) (p.back y) there in
    p.kept (k (f x)) y b here

changed-kept-in : (K : Type 0) (E F : ℕ → ℕ → K → Type 0) (f g h k : ℕ → ℕ) (d e : ℕ → Bool)
    → Parts K E F f g h k d e → (x y : ℕ) (b : K) → d x ≡ true → E x y b
    → F (changed f h k d e x) (changed f h k d e y) b
changed-kept-in K E F f g h k d e p x y b in' bond =
    let move : (s t : ℕ) → changed f h k d e x ≡ s → changed f h k d e y ≡ t → F s t b
    → F (changed f h k d e x) (changed f h k d e y) b =
    λ s t one other fact. subst (λ u. F u (changed f h k d e y) b) (sym one) (subst (λ u. F s u b) (sym other) fact)
    in
    elim (cases_Bool (d y)) [
      | inl too ↦ move (h x) (h y) (changed-in f h k d e x in') (changed-in f h k d e y too)
          (p.inside x y b in' too bond)
      | inr out ↦ move (h x) (f y) (changed-in f h k d e x in')
          (changed-out f h k d e y out (p.closed x y b in' out bond)) (p.edge x y b in' out bond)
    ]

changed-kept-out : (K : Type 0) (E F : ℕ → ℕ → K → Type 0) (f g h k : ℕ → ℕ) (d e : ℕ → Bool)
    → Parts K E F f g h k d e → Parts K F E g f k h e d → (x y : ℕ) (b : K) → d x ≡ false → d y ≡ false → E x y b
    → F (changed f h k d e x) (changed f h k d e y) b
changed-kept-out K E F f g h k d e p q x y b out off bond =
    let move : (s t : ℕ) → changed f h k d e x ≡ s → changed f h k d e y ≡ t → F s t b
    → F (changed f h k d e x) (changed f h k d e y) b =
    λ s t one other fact. subst (λ u. F u (changed f h k d e y) b) (sym one) (subst (λ u. F s u b) (sym other) fact)
    in
    elim (cases_Bool (e (f x))) [
      | inl met ↦ elim (cases_Bool (e (f y))) [
        | inl too ↦ move (f (k (f x))) (f (k (f y))) (changed-met f h k d e x out met)
            (changed-met f h k d e y off too)
            (p.kept (k (f x)) (k (f y)) b (q.inside (f x) (f y) b met too (p.kept x y b bond)))
        | inr free ↦ move (f (k (f x))) (f y) (changed-met f h k d e x out met) (changed-out f h k d e y off free)
            (changed-edge K E F f g h k d e p q x y b met free bond)
      ]
      | inr free ↦ elim (cases_Bool (e (f y))) [
        | inl met ↦ move (f x) (f (k (f y))) (changed-out f h k d e x out free) (changed-met f h k d e y off met)
            (q.turned (f (k (f y))) (f x) b
            (changed-edge K E F f g h k d e p q y x b met free (p.turned x y b bond)))
        | inr too ↦ move (f x) (f y) (changed-out f h k d e x out free) (changed-out f h k d e y off too)
            (p.kept x y b bond)
      ]
    ]

-- the map that is changed keeps bonds
pub changed-kept : (K : Type 0) (E F : ℕ → ℕ → K → Type 0) (f g h k : ℕ → ℕ) (d e : ℕ → Bool)
    → Parts K E F f g h k d e → Parts K F E g f k h e d → (x y : ℕ) (b : K) → E x y b
    → F (changed f h k d e x) (changed f h k d e y) b
changed-kept K E F f g h k d e p q x y b bond =
    elim (cases_Bool (d x)) [
      | inl in' ↦ changed-kept-in K E F f g h k d e p x y b in' bond
      | inr out ↦ elim (cases_Bool (d y)) [
        | inl in' ↦ q.turned (changed f h k d e y) (changed f h k d e x) b
            (changed-kept-in K E F f g h k d e p y x b in' (p.turned x y b bond))
        | inr off ↦ changed-kept-out K E F f g h k d e p q x y b out off bond
      ]
    ]
