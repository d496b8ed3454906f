-- What is left of a list when some of its elements are taken out.
use Rattle.std.proofs.Common.{◌≡◌, ◌≢◌, ◌+◌, ◌++◌, ◌⊎◌, ◌∙◌, All, ap, arith, Bool, cond, Contains, false, filter, inl, inr, length, List, [], ◌∷◌, refl, suc, sym, true, ℕ}
use Rattle.std.proofs.lemmas.Bool.{cases_lt}
use Rattle.std.proofs.lemmas.List.Elements.{All-push, All-tail}
use Rattle.std.proofs.lemmas.List.Kept.{AllPairs-cons}
use Rattle.std.specs.List.{AllPairs}
use Rattle.store_machine.proofs.Members.{contains-here, contains-split, contains-there}

pub cases-same : (a b : ℕ) → (a ≡ b) ⊎ (a ≢ b)
cases-same a b =
    elim (cases_lt a b) [
      | inl lt ↦ inr (λ e. omega (arith, lt, e))
      | inr ge ↦ elim (cases_lt b a) [ inl gt ↦ inr (λ e. omega (arith, gt, e)) | inr le ↦ inl (omega (arith, ge, le)) ]
    ]

module _ {X : Type 0} (p : X → Bool) where
  pub filtered-has : (xs : List X) (x : X) → Contains (filter p xs) x → Contains xs x × (p x ≡ true)
  filtered-has [] x c = absurd (omega (arith, c.1))
  filtered-has (y ∷ ys) x c = go (λ d. filtered-has ys x d) (p y) refl c
    where
      go : (Contains (filter p ys) x → Contains ys x × (p x ≡ true)) → (b : Bool) → p y ≡ b
          → Contains (cond b (y ∷ filter p ys) (filter p ys)) x → Contains (y ∷ ys) x × (p x ≡ true)
      go rest true t d =
          elim (contains-split y x (filter p ys) d) [
            | inl e ↦ (contains-here y x ys e, ap p (sym e) ∙ t)
            | inr f ↦ let r = rest f in (contains-there y x ys r.0, r.1)
          ]
      go rest false t d = let r = rest d in (contains-there y x ys r.0, r.1)

  pub filtered-in : (xs : List X) (x : X) → Contains xs x → p x ≡ true → Contains (filter p xs) x
  filtered-in [] x c t = absurd (omega (arith, c.1))
  filtered-in (y ∷ ys) x c t = go (λ d. filtered-in ys x d t) (p y) refl
    where
      go : (Contains ys x → Contains (filter p ys) x) → (b : Bool) → p y ≡ b
          → Contains (cond b (y ∷ filter p ys) (filter p ys)) x
      go rest true is = elim (contains-split y x ys c) [
        | inl e ↦ contains-here y x (filter p ys) e
        | inr d ↦ contains-there y x (filter p ys) (rest d)
      ]
      go rest false is = elim (contains-split y x ys c) [
        | inl e ↦ absurd (not-both (sym (ap p e ∙ t) ∙ is))
        | inr d ↦ rest d
      ]
        where
          not-both : true ≡ false → ⊥
          not-both e = cc e

  all-pass : (xs : List X) → ((x : X) → Contains xs x → p x ≡ true) → filter p xs ≡ xs
  all-pass [] all = refl
  all-pass (x ∷ xs) all =
      ap (λ b. cond b (x ∷ filter p xs) (filter p xs)) (all x (contains-here x x xs refl))
      ∙ ap (λ l. x ∷ l) (all-pass xs (λ y c. all y (contains-there x y xs c)))

  -- of distinct elements one is taken out
  pub one-out : (xs : List X) (x : X) → AllPairs (λ a b. a ≢ b) xs → Contains xs x → p x ≡ false
      → ((y : X) → x ≢ y → p y ≡ true) → length (filter p xs) + 1 ≡ length xs
  one-out [] x apart c not others = absurd (omega (arith, c.1))
  one-out (y ∷ ys) x apart c not others =
      elim (contains-split y x ys c) [
        | inl e ↦
            let rest : filter p ys ≡ ys = all-pass ys (λ z d. others z (λ same. other z d (e ∙ same))) in
            ap (λ b. length (cond b (y ∷ filter p ys) (filter p ys)) + 1) (ap p e ∙ not)
            ∙ omega (arith, ap (λ l. length l) rest)
        | inr d ↦
            let rest = one-out ys x
            (λ i j z less within. apart (suc i) (suc j) z (omega (arith, less)) (omega (arith, within))) d not others in
            ap (λ b. length (cond b (y ∷ filter p ys) (filter p ys)) + 1) (others y (λ same. other x d (sym same)))
            ∙ omega (arith, rest)
      ]
    where
      other : (z : X) → Contains ys z → y ≢ z
      other z d e = apart 0 (suc d.0) z (omega arith) (let w = d.1 in omega (arith, w)) (e ∙ sym d.2)

-- one more at the end
pub pairs-push : {X : Type 0} (R : X → X → Type 0) (xs : List X) (x : X) → AllPairs R xs → All (λ y. R y x) xs
    → AllPairs R (xs ++ x ∷ [])
pairs-push R [] x pairs below = λ i j d less within. absurd (omega (arith, less, within))
pairs-push R (y ∷ ys) x pairs below =
    AllPairs-cons R y (ys ++ x ∷ [])
    (All-push (R y) ys x (λ i d less. pairs 0 (suc i) d (omega arith) (omega (arith, less))) (below 0 y (omega arith)))
    (pairs-push R ys x (λ i j d less within. pairs (suc i) (suc j) d (omega (arith, less)) (omega (arith, within)))
    (All-tail (λ z. R z x) y ys below))
