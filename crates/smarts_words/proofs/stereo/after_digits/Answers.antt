use Rattle.std.proofs.Common.{◌≡◌, ℕ, ◌-◌, ◌<◌, List, [], ◌∷◌, length, take, drop, get_or, refl, sym, ◌∙◌, ap, subst, arith}
use Rattle.std.proofs.lemmas.Grind.{common_steps}
use Rattle.smiles_words.specs.Atom.{IsDigit}
use Rattle.smiles_words.proofs.Fronts.{front_is}
use Rattle.smarts_words.specs.Prims.{NoDigit}
use Rattle.smarts_words.proofs.stereo.after_digits.Goals as goal

none_first : (xs : List ℕ) → length xs < 1 → NoDigit xs
none_first [] l = tt
none_first (x ∷ xs) l = absurd (omega arith)

no_first : (xs r : List ℕ) (a : ℕ) → xs ≡ a ∷ r → ¬ IsDigit a → NoDigit xs
no_first xs r a e h = subst NoDigit (sym e) h

pub returns-clause-found : goal.returns-clause-found
returns-clause-found c =
    let bytes = c.args.bytes.now in
    let r = take (length bytes - 1) (drop 1 bytes) in
    let one : IsDigit (get_or bytes 0 0) = grind (arith, common_steps) in
    let two : IsDigit (get_or r 0 0) = grind (arith, common_steps) in
    let front = front_is bytes (get_or bytes 0 0) c.in-len1-up.len_at_least refl in
    let second = front_is r (get_or r 0 0) c.in-len1-up-rest.len_at_least refl in (
      get_or bytes 0 0 ∷ get_or r 0 0 ∷ [],
      (omega arith, omega arith, (one, (two, tt))),
      front
          ∙ ap (λ v. get_or bytes 0 0 ∷ v) second,
      tt,
    )

pub returns-then-not-is_digit-2-clause-found : goal.returns-then-not-is_digit-2-clause-found
returns-then-not-is_digit-2-clause-found c =
    let bytes = c.args.bytes.now in
    let r = take (length bytes - 1) (drop 1 bytes) in
    let one : IsDigit (get_or bytes 0 0) = grind (arith, common_steps) in
    let front = front_is bytes (get_or bytes 0 0) c.in-len1-up.len_at_least refl in
    let other : ¬ IsDigit (get_or r 0 0) = grind (arith, common_steps) in (
      get_or bytes 0 0 ∷ [],
      (omega arith, omega arith, (one, tt)),
      front,
      no_first r _ (get_or r 0 0) (front_is r (get_or r 0 0) c.in-len1-up-rest.len_at_least refl) other,
    )

pub returns-in_default-rest-clause-found : goal.returns-in_default-rest-clause-found
returns-in_default-rest-clause-found c =
    let bytes = c.args.bytes.now in
    let r = take (length bytes - 1) (drop 1 bytes) in
    let one : IsDigit (get_or bytes 0 0) = grind (arith, common_steps) in
    let front = front_is bytes (get_or bytes 0 0) c.in-len1-up.len_at_least refl in
    (get_or bytes 0 0 ∷ [], (omega arith, omega arith, (one, tt)), front, none_first r c.in_default-rest.len_below)
