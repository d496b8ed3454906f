-- Where a line ends, and what its text is.
use Rattle.std.proofs.Common.{◌≡◌, ◌≢◌, ℕ, ◌+◌, ◌<◌, ◌≤◌, true, List, [], ◌∷◌, ◌++◌, Some, None, length, take, drop, refl, sym, ap, ◌∙◌, subst, arith, take-append-drop, take-add, length-take, length-drop}
use Rattle.std.specs.Prelude.{position, ◌==◌}
use Rattle.std.specs.List.{position_or_len}
use Rattle.std.proofs.lemmas.List.{get_or-drop, get_or-take, get_or_default}
use Rattle.std.proofs.lemmas.List.Elements.{All-append}
use Rattle.std.proofs.lemmas.List.Quantifiers.{position-Some}
use Rattle.std.proofs.lemmas.List.Sums.{fails_before_first}
use Rattle.std.proofs.lemmas.Bool.Decides.{nat_tests}
use Rattle.io_edge.specs.declared.lines.TheConstants.{LF, CR}
use Rattle.io_edge.specs.Cut.{HasNoLf, EndsAt}
use Rattle.io_edge.specs.Lines.{without_cr}

-- a list that no LF is found in has none
pub no_lf : (xs : List ℕ) → position (λ b. b == LF) xs ≡ None → HasNoLf xs
no_lf xs h k d lt e =
    let all : length xs ≤ position_or_len (λ b. b == LF) xs = grind (arith, nat_tests) in
    let other = fails_before_first (λ b. b == LF) xs k d (omega arith) in
    grind (arith, nat_tests)

-- nor has a list whose parts have none
pub no_lf_joined : (xs : List ℕ) (n : ℕ) → HasNoLf (take n xs) → HasNoLf (drop n xs) → HasNoLf xs
no_lf_joined xs n front back = subst HasNoLf (take-append-drop n xs) (All-append (λ b. b ≢ LF) _ _ front back)

-- the bytes before the first LF that is found have none
pub no_lf_before : (xs : List ℕ) (at : ℕ) → position (λ b. b == LF) xs ≡ Some at → HasNoLf (take at xs)
no_lf_before xs at h k d lt e =
    let found = position-Some (λ b. b == LF) xs at 0 h in
    let below : k < at = omega (arith, length-take at xs) in
    let other = found.2 k below in
    let same = sym (get_or-take at xs k d below) ∙ e in
    let zero = get_or_default xs k d 0 (omega (arith, length-take at xs)) in
    grind (arith, nat_tests)

is_lf : (b : ℕ) → b == LF ≡ true → b ≡ LF
is_lf b h = grind (arith, nat_tests)

-- the first LF behind bytes that have none is the first of all
pub ends_behind : (xs : List ℕ) (n at : ℕ) → n ≤ length xs → HasNoLf (take n xs) → position (λ b. b == LF) (drop n xs)
    ≡ Some at → EndsAt xs (n + at)
ends_behind xs n at fits front h =
    let found = position-Some (λ b. b == LF) (drop n xs) at 0 h in
    record {
      within = omega (arith, length-drop n xs);
      ends = sym (get_or-drop n xs at 0) ∙ is_lf _ found.1;
      before = subst HasNoLf (sym (take-add n at xs))
          (All-append (λ b. b ≢ LF) _ _ front (no_lf_before (drop n xs) at h));
    }

-- the CR at the end is dropped
pub without_cr-cr : (xs : List ℕ) → without_cr (xs ++ CR ∷ []) ≡ xs
without_cr-cr [] = refl
without_cr-cr (x ∷ []) = refl
without_cr-cr (x ∷ y ∷ xs) = ap (λ l. x ∷ l) (without_cr-cr (y ∷ xs))

-- a byte that is none stays
other_stays : (x : ℕ) → x ≢ CR → without_cr (x ∷ []) ≡ x ∷ []
other_stays x h = grind (arith, nat_tests)

-- and no other byte is
pub without_cr-other : (xs : List ℕ) (x : ℕ) → x ≢ CR → without_cr (xs ++ x ∷ []) ≡ xs ++ x ∷ []
without_cr-other [] x h = other_stays x h
without_cr-other (y ∷ []) x h = ap (λ l. y ∷ l) (other_stays x h)
without_cr-other (y ∷ z ∷ xs) x h = ap (λ l. y ∷ l) (without_cr-other (z ∷ xs) x h)

-- what a line's text is, by its last byte
pub text_is-cr : (line text : List ℕ) (b : ℕ) → line ≡ text ++ b ∷ [] → b ≡ CR → text ≡ without_cr line
text_is-cr line text b split cr = sym (ap without_cr (split ∙ ap (λ x. text ++ x ∷ []) cr) ∙ without_cr-cr text)

pub text_is-other : (line text : List ℕ) (b : ℕ) → line ≡ text ++ b ∷ [] → b ≢ CR → line ≡ without_cr line
text_is-other line text b split other = split ∙ sym (ap without_cr split ∙ without_cr-other text b other)
