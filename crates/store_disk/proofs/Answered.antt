-- Answers to the elements of a list, taken one after the other.
use Rattle.std.proofs.Common.{◌≡◌, ◌+◌, ◌++◌, ◌<◌, ◌∙◌, ap, arith, drop, get_or, length, List, [], ◌∷◌, Option, option_to_list, Some, subst, sym, ℕ}
use Rattle.std.proofs.lemmas.List.{drop_more}
use Rattle.std.specs.List.{AllZip}

module _ {A B : Type 0} (R : A → B → Type 0) (xs : List A) (i : ℕ) (x : A) (less : i < length xs)
    (is : x ≡ get_or xs i x) (answers : List B) (all : AllZip R (drop i xs) answers) where
  beside : AllZip R (x ∷ drop (i + 1) xs) answers
  beside = subst (λ l. AllZip R l answers) (drop_more xs i x less ∙ ap (λ y. y ∷ drop (i + 1) xs) (sym is)) all

  -- the next answer is there
  pub some-next : 0 < length answers
  some-next = go answers beside
    where
      go : (l : List B) → AllZip R (x ∷ drop (i + 1) xs) l → 0 < length l
      go [] h = absurd h
      go (y ∷ ys) h = omega arith

  -- it is that of the next element, and the others are those of the others
  pub next-answer : (o : Option B) (y : B) (others : List B) → o ≡ Some y → answers ≡ option_to_list o ++ others
      → R x y × AllZip R (drop (i + 1) xs) others
  next-answer o y others e items =
      subst (AllZip R (x ∷ drop (i + 1) xs)) (items ∙ ap (λ (p : Option B). option_to_list p ++ others) e) beside
