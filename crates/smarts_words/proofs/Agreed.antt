-- Two bonds disagree exactly where both are written and differ: a step can be told from its number.
use Rattle.std.proofs.Common.{◌≡◌, ◌≢◌, ◌↔◌, ℕ, Bool, true, false, ◌&&◌, ◌==◌, cond, List, [], ◌∷◌, Option, None, Some, refl, sym, ◌∙◌, ap}
use Rattle.std.proofs.lemmas.Bool.{eq-eqb, eqb-true}
use Rattle.smarts_words.specs.declared.word.BondWord.{BondWord}
use Rattle.smarts_words.specs.declared.word.BondWord.TheVariants as words
use Rattle.smarts_words.specs.declared.word.Step.{Step}
use Rattle.smarts_words.specs.declared.word.Step.TheVariants as steps
use Rattle.smarts_words.specs.Bonds.{step_number, same_steps, agreed_bond}

abbrev word_from : ℕ → BondWord
word_from n = cond (n == 0) words.Single (cond (n == 1) words.Double (cond (n == 2) words.Triple
    (cond (n == 3) words.Quad (cond (n == 4) words.Aromatic (cond (n == 5) words.Any
    (cond (n == 6) words.Ring (cond (n == 7) words.Up words.Down)))))))

abbrev step_from : ℕ → Step BondWord
step_from n = cond (n == 9) steps.Not (cond (n == 10) steps.And (cond (n == 11) steps.Or (steps.Prim (word_from n))))

step_back : (s : Step BondWord) → step_from (step_number s) ≡ s
step_back (steps.Prim words.Single) = refl
step_back (steps.Prim words.Double) = refl
step_back (steps.Prim words.Triple) = refl
step_back (steps.Prim words.Quad) = refl
step_back (steps.Prim words.Aromatic) = refl
step_back (steps.Prim words.Any) = refl
step_back (steps.Prim words.Ring) = refl
step_back (steps.Prim words.Up) = refl
step_back (steps.Prim words.Down) = refl
step_back steps.Not = refl
step_back steps.And = refl
step_back steps.Or = refl

same_step : (x y : Step BondWord) → step_number x ≡ step_number y → x ≡ y
same_step x y e = sym (step_back x) ∙ ap step_from e ∙ step_back y

both : (a b : Bool) → (a && b) ≡ true → (a ≡ true) × (b ≡ true)
both true b h = (refl, h)
both false b h = absurd (cc)

cons_same : (x y : Step BondWord) (xs ys : List (Step BondWord)) → x ≡ y → xs ≡ ys → x ∷ xs ≡ y ∷ ys
cons_same x y xs ys e f = cc

same_is : (xs ys : List (Step BondWord)) → same_steps xs ys ≡ true → xs ≡ ys
same_is [] [] h = refl
same_is [] (y ∷ ys) h = absurd (cc)
same_is (x ∷ xs) [] h = absurd (cc)
same_is (x ∷ xs) (y ∷ ys) h =
    let p = both (step_number x == step_number y) (same_steps xs ys) h in
    cons_same x y xs ys (same_step x y (eqb-true (step_number x) (step_number y) p.0)) (same_is xs ys p.1)

is_same : (xs : List (Step BondWord)) → same_steps xs xs ≡ true
is_same [] = refl
is_same (x ∷ xs) = ap (λ b. b && same_steps xs xs) (eq-eqb (step_number x) (step_number x) refl) ∙ is_same xs

-- what is chosen by whether they are the same
chosen : (b : Bool) (xs ys : List (Step BondWord)) → same_steps xs ys ≡ b
    → (◌≡◌ {A = Option (List (Step BondWord))} (cond b (Some xs) None) None) ↔ (xs ≢ ys)
chosen true xs ys e = (λ h. absurd (cc), λ h. absurd (h (same_is xs ys e)))
chosen false xs ys e = (λ h f. let g = is_same xs in let k = ap (same_steps xs) f in absurd (cc), λ h. refl)

pub disagree : (xs ys : List (Step BondWord)) → (agreed_bond xs ys ≡ None) ↔ ((xs ≢ []) × (ys ≢ []) × (xs ≢ ys))
disagree [] ys = (λ h. absurd (cc), λ h. absurd (h.0 refl))
disagree (x ∷ xs) [] = (λ h. absurd (cc), λ h. absurd (h.1 refl))
disagree (x ∷ xs) (y ∷ ys) =
    let c = chosen (same_steps (x ∷ xs) (y ∷ ys)) (x ∷ xs) (y ∷ ys) refl in
    (λ h. (λ e. absurd (cc), λ e. absurd (cc), c.0 h), λ h. c.1 h.2)
