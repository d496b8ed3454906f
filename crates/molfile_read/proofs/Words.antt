-- Words, and the text after them.
use Rattle.std.proofs.Common.{◌≡◌, ◌≢◌, ℕ, zero, suc, ◌+◌, ◌<◌, ◌≤◌, inl, inr, Bool, true, List, [], ◌∷◌, length, get_or, take, drop, filter, refl, sym, ◌∙◌, ap, arith}
use Rattle.std.proofs.lemmas.Bool.{eq-eqb, ne_eqb, cases_lt, cases_eq}
use Rattle.std.proofs.lemmas.Bool.Decides.{nat_tests}
use Rattle.std.proofs.lemmas.List.{take_all, drop_all, drop_more, length-take}
use Rattle.std.specs.Prelude.{if◌then◌else◌, nat_lt}
use Rattle.molfile_read.specs.Text.{with_byte}
use Rattle.molfile_read.specs.Field.{after_blanks}
use Rattle.molfile_read.specs.Properties.{pieces, words}

abbrev some : List ℕ → Bool
some word = nat_lt 0 (length word)

blank : (b : ℕ) (bs : List ℕ) → b ≡ 32 → pieces (b ∷ bs) ≡ [] ∷ pieces bs
blank b bs e = ap (λ t. if t then [] ∷ pieces bs else with_byte b (pieces bs)) (eq-eqb b 32 e)

no_blank : (b : ℕ) (bs : List ℕ) → b ≢ 32 → pieces (b ∷ bs) ≡ with_byte b (pieces bs)
no_blank b bs e = ap (λ t. if t then [] ∷ pieces bs else with_byte b (pieces bs)) (ne_eqb b 32 e)

-- blanks in front make no words
pub words_after_blanks : (bs : List ℕ) → words (after_blanks bs) ≡ words bs
words_after_blanks [] = refl
words_after_blanks (b ∷ bs) =
    elim (cases_eq b 32) [
      | inl e ↦ ap (λ t. words (if t then after_blanks bs else b ∷ bs)) (eq-eqb b 32 e) ∙ words_after_blanks bs
          ∙ sym (ap (filter some) (blank b bs e))
      | inr e ↦ ap (λ t. words (if t then after_blanks bs else b ∷ bs)) (ne_eqb b 32 e)
    ]

pub first_no_blank : (bs : List ℕ) → 0 < length (after_blanks bs) → get_or (after_blanks bs) 0 0 ≢ 32
first_no_blank [] h e = absurd (omega arith)
first_no_blank (b ∷ bs) h e =
    elim (cases_eq b 32) [
      | inl f ↦
          let same : after_blanks (b ∷ bs) ≡ after_blanks bs = ap (λ t. if t then after_blanks bs else b ∷ bs)
          (eq-eqb b 32 f) in
          let l = ap length same in
          first_no_blank bs (omega arith) (ap (λ w. get_or w 0 0) (sym same) ∙ e)
      | inr f ↦
          let same : after_blanks (b ∷ bs) ≡ b ∷ bs = ap (λ t. if t then after_blanks bs else b ∷ bs) (ne_eqb b 32 f) in
          f (ap (λ w. get_or w 0 0) (sym same) ∙ e)
    ]

piece_before : (bs : List ℕ) (end : ℕ) → end < length bs → ((k : ℕ) → k < end → get_or bs k 0 ≢ 32) → get_or bs end 0
    ≡ 32
    → pieces bs ≡ take end bs ∷ pieces (drop (suc end) bs)
piece_before [] end lt free is = absurd (omega arith)
piece_before (b ∷ bs) zero lt free is = blank b bs is
piece_before (b ∷ bs) (suc end) lt free is =
    no_blank b bs (free 0 (omega arith))
    ∙ ap (with_byte b) (piece_before bs end (omega arith) (λ k h. free (suc k) (omega arith)) is)

piece_alone : (bs : List ℕ) → ((k : ℕ) → k < length bs → get_or bs k 0 ≢ 32) → pieces bs ≡ bs ∷ []
piece_alone [] free = refl
piece_alone (b ∷ bs) free = no_blank b bs (free 0 (omega arith))
    ∙ ap (with_byte b) (piece_alone bs (λ k h. free (suc k) (omega arith)))

is_some_word : (w : List ℕ) → 0 < length w → some w ≡ true
is_some_word w h = grind (arith, nat_tests)

kept : (w : List ℕ) (ws : List (List ℕ)) → 0 < length w → filter some (w ∷ ws) ≡ w ∷ filter some ws
kept w ws h = ap (λ t. if t then w ∷ filter some ws else filter some ws) (is_some_word w h)

-- a text that begins with a word is that word and the words after it
pub first_word : (bs : List ℕ) (end : ℕ) → 0 < length bs → get_or bs 0 0 ≢ 32 → end ≤ length bs
    → ((k : ℕ) → k < end → get_or bs k 0 ≢ 32)
    → (end < length bs → get_or bs end 0 ≡ 32) → words bs ≡ take end bs ∷ words (drop end bs)
first_word bs end some_left first le free is =
    elim (cases_lt end (length bs)) [
      | inl lt ↦
          let at : 0 < end = elim (cases_eq end 0) [
            | inl z ↦ absurd (first (ap (λ k. get_or bs k 0) (sym z) ∙ is lt))
            | inr z ↦ omega arith
          ] in
          let long : 0 < length (take end bs) = omega (arith, length-take end bs) in
          let rest : drop end bs ≡ get_or bs end 0 ∷ drop (suc end) bs = drop_more bs end 0 lt
          ∙ ap (λ n. get_or bs end 0 ∷ drop n bs) (let e : end + 1 ≡ suc end = omega arith in e) in
          let after : words (drop end bs) ≡ words (drop (suc end) bs) = ap words rest
          ∙ ap (filter some) (blank (get_or bs end 0) (drop (suc end) bs) (is lt)) in
          ap (filter some) (piece_before bs end lt free (is lt)) ∙ kept (take end bs) (pieces (drop (suc end) bs)) long
          ∙ ap (λ w. take end bs ∷ w) (sym after)
      | inr ge ↦
          let front : take end bs ≡ bs = take_all end bs ge in
          let rest : drop end bs ≡ [] = drop_all end bs ge in
          ap (filter some) (piece_alone bs (λ k h. free k (omega arith))) ∙ kept bs [] some_left
          ∙ ap (λ w. w ∷ []) (sym front) ∙ ap (λ w. take end bs ∷ words w) (sym rest)
    ]
