-- A text cut at a byte, and its lines one after another.
use Rattle.std.proofs.Common.{ℕ, zero, suc, ◌+◌, ◌≤◌, ◌≡◌, ◌⊎◌, inl, inr, Bool, true, false, cond, eqb, List, [], ◌∷◌, length, take, drop, refl, sym, ap, ◌∙◌, arith}
use Rattle.std.specs.Prelude.{None, Some, fold}
use Rattle.std.specs.List.{position_or_len, before_first, after_first, All}
use Rattle.std.proofs.Math.Seq.{take_all}
use Rattle.std.proofs.lemmas.Bool.{cases_lt}
use Rattle.std.proofs.lemmas.List.{length-drop}
use Rattle.std.proofs.lemmas.List.Sums.{position_or_len_is, fails_before_first}
use Rattle.std.proofs.lemmas.List.Splits.{slice_split_none, slice_split_first}
use Rattle.memchr.specs.Find.{IsFirstByte, is_byte}
use Rattle.chem_gen.specs.Summary.{lines_of, is_ending, endings_in, begins}

abbrev is_lf : ℕ → Bool
is_lf = λ b. eqb b 10

empty_list : (ys : List ℕ) → length ys ≡ 0 → ys ≡ []
empty_list [] e = refl
empty_list (y ∷ ys) e = absurd (omega arith)

pub drop_past : (n : ℕ) (xs : List ℕ) → length xs ≤ n → drop n xs ≡ []
drop_past n xs h = empty_list (drop n xs) (length-drop n xs ∙ omega arith)

-- the lines of a text are its first line and those of what stands after it; after the last stands nothing
pub lines_cut : (text : List ℕ) → (lines_of text ≡ before_first is_lf text ∷ lines_of (after_first is_lf text))
    ⊎ ((lines_of text ≡ before_first is_lf text ∷ []) × (after_first is_lf text ≡ []))
lines_cut text =
    elim (cases_lt (position_or_len is_lf text) (length text)) [
      | inl lt ↦ inl (slice_split_first is_lf text 0 lt)
      | inr ge ↦
          let whole : take (position_or_len is_lf text) text ≡ text = take_all (position_or_len is_lf text) text ge in
          let none : All (λ x. is_lf x ≡ false) text = λ k d h. fails_before_first is_lf text k d (omega arith) in
          inr (
            slice_split_none is_lf text none
                ∙ ap (λ x. x ∷ []) (sym whole),
            drop_past (position_or_len is_lf text + 1) text (omega arith),
          )
    ]

-- ---- the last version

abbrev pub newer : List ℕ → List ℕ → List ℕ
newer version line = cond (begins line (111 ∷ 107 ∷ 32 ∷ [])) (drop 3 line) version

abbrev pub version_from : List ℕ → List (List ℕ) → List ℕ
version_from version lines = fold newer version lines

pub version-cut : (v text : List ℕ) → version_from v (lines_of text) ≡ version_from (newer v (before_first is_lf text))
    (lines_of (after_first is_lf text))
version-cut v text =
    elim (lines_cut text) [
      | inl e ↦ ap (version_from v) e
      | inr e ↦ ap (version_from v) e.0 ∙ sym
          (ap (λ rest. version_from (newer v (before_first is_lf text)) (lines_of rest)) e.1)
    ]

-- ---- the endings

pub endings-cut : (text : List ℕ) → endings_in (lines_of text) ≡ cond (is_ending (before_first is_lf text))
    (before_first is_lf text ∷ endings_in (lines_of (after_first is_lf text)))
    (endings_in (lines_of (after_first is_lf text)))
endings-cut text =
    elim (lines_cut text) [
      | inl e ↦ ap endings_in e
      | inr e ↦ ap endings_in e.0 ∙ sym (ap (λ rest. cond (is_ending (before_first is_lf text))
          (before_first is_lf text ∷ endings_in (lines_of rest)) (endings_in (lines_of rest))) e.1)
    ]

drop-nil : (n : ℕ) (xs : List (List ℕ)) → length xs ≡ 0 → endings_in (drop n xs) ≡ []
drop-nil zero [] h = refl
drop-nil (suc n) [] h = refl
drop-nil n (x ∷ xs) h = absurd (omega arith)

-- no ending is in an empty text
none_in_nil : (n : ℕ) → endings_in (drop n (lines_of [])) ≡ []
none_in_nil zero = refl
none_in_nil (suc n) = drop-nil n [] refl

pub skip-cut : (n : ℕ) (text : List ℕ) → endings_in (drop (suc n) (lines_of text))
    ≡ endings_in (drop n (lines_of (after_first is_lf text)))
skip-cut n text =
    elim (lines_cut text) [
      | inl e ↦ ap (λ ls. endings_in (drop (suc n) ls)) e
      | inr e ↦ ap (λ ls. endings_in (drop (suc n) ls)) e.0 ∙ drop-nil n [] refl
          ∙ sym (ap (λ rest. endings_in (drop n (lines_of rest))) e.1 ∙ none_in_nil n)
    ]

-- ---- the place of a byte

is_false : (b : Bool) → (b ≡ true → ⊥) → b ≡ false
is_false true h = absurd (h refl)
is_false false h = refl

pub place_some : (byte k : ℕ) (text : List ℕ) → IsFirstByte (is_byte byte) text (Some k)
    → position_or_len (λ b. eqb b byte) text ≡ k
place_some byte k text h =
    let low = h.0.high in
    position_or_len_is (λ b. eqb b byte) text k 0 (omega arith) (λ j lt. is_false _ (h.0.before j (omega arith) lt))
    (λ _. h.1)

pub place_none : (byte : ℕ) (text : List ℕ) → IsFirstByte (is_byte byte) text None
    → position_or_len (λ b. eqb b byte) text ≡ length text
place_none byte text h = position_or_len_is (λ b. eqb b byte) text (length text) 0 (omega arith)
    (λ j lt. is_false _ (h j (omega arith) lt)) (λ lt. absurd (omega arith))

-- ---- one line, with its parts named

pub version_yes : (v text line after number : List ℕ) → line ≡ before_first is_lf text → after ≡ after_first is_lf text
    → begins line (111 ∷ 107 ∷ 32 ∷ []) ≡ true → number ≡ drop 3 line
    → version_from number (lines_of after) ≡ version_from v (lines_of text)
version_yes v text line after number is is_after so is_number =
    ap (λ n. version_from n (lines_of after)) (is_number ∙ sym (ap (λ b. cond b (drop 3 line) v) so))
    ∙ ap (λ l. version_from (newer v l) (lines_of after)) is
    ∙ ap (λ a. version_from (newer v (before_first is_lf text)) (lines_of a)) is_after
    ∙ sym (version-cut v text)

pub version_no : (v text line after : List ℕ) → line ≡ before_first is_lf text → after ≡ after_first is_lf text
    → begins line (111 ∷ 107 ∷ 32 ∷ []) ≡ false → version_from v (lines_of after) ≡ version_from v (lines_of text)
version_no v text line after is is_after so =
    ap (λ n. version_from n (lines_of after)) (sym (ap (λ b. cond b (drop 3 line) v) so))
    ∙ ap (λ l. version_from (newer v l) (lines_of after)) is
    ∙ ap (λ a. version_from (newer v (before_first is_lf text)) (lines_of a)) is_after
    ∙ sym (version-cut v text)

pub ending_yes : (text line after : List ℕ) → line ≡ before_first is_lf text → after ≡ after_first is_lf text
    → is_ending line ≡ true → endings_in (lines_of text) ≡ line ∷ endings_in (lines_of after)
ending_yes text line after is is_after so =
    endings-cut text
    ∙ sym (ap (λ l. cond (is_ending l) (l ∷ endings_in (lines_of (after_first is_lf text)))
    (endings_in (lines_of (after_first is_lf text)))) is)
    ∙ ap (λ b. cond b (line ∷ endings_in (lines_of (after_first is_lf text)))
    (endings_in (lines_of (after_first is_lf text)))) so
    ∙ ap (λ a. line ∷ endings_in (lines_of a)) (sym is_after)

pub ending_no : (text line after : List ℕ) → line ≡ before_first is_lf text → after ≡ after_first is_lf text
    → is_ending line ≡ false → endings_in (lines_of text) ≡ endings_in (lines_of after)
ending_no text line after is is_after so =
    endings-cut text
    ∙ sym (ap (λ l. cond (is_ending l) (l ∷ endings_in (lines_of (after_first is_lf text)))
    (endings_in (lines_of (after_first is_lf text)))) is)
    ∙ ap (λ b. cond b (line ∷ endings_in (lines_of (after_first is_lf text)))
    (endings_in (lines_of (after_first is_lf text)))) so
    ∙ ap (λ a. endings_in (lines_of a)) (sym is_after)
