-- The first line of a text.
use Rattle.std.proofs.Common.{◌≡◌, ◌≢◌, ℕ, zero, suc, ◌<◌, inl, inr, List, [], ◌∷◌, length, get_or, take, drop, sym, ◌∙◌, ap, arith}
use Rattle.std.proofs.lemmas.Bool.{eq-eqb, ne_eqb}
use Rattle.std.proofs.lemmas.List.{take_all, drop_all}
use Rattle.std.specs.Prelude.{if◌then◌else◌}
use Rattle.chem_text.specs.Line.{IsLine}
use Rattle.molfile_read.specs.Text.{lines_of, with_byte}

-- a line before an LF
pub line_before : (text : List ℕ) (end : ℕ) → end < length text → ((i : ℕ) → i < end → get_or text i 0 ≢ 10)
    → get_or text end 0 ≡ 10
    → lines_of text ≡ take end text ∷ lines_of (drop (suc end) text)
line_before [] end lt free lf = absurd (omega arith)
line_before (b ∷ bs) zero lt free lf = ap (λ t. if t then [] ∷ lines_of bs else with_byte b (lines_of bs))
    (eq-eqb b 10 lf)
line_before (b ∷ bs) (suc end) lt free lf =
    let rest = line_before bs end (omega arith) (λ i h. free (suc i) (omega arith)) lf in
    ap (λ t. if t then [] ∷ lines_of bs else with_byte b (lines_of bs)) (ne_eqb b 10 (free 0 (omega arith)))
    ∙ ap (with_byte b) rest

-- a last line without LF
pub line_alone : (text : List ℕ) → 0 < length text → ((i : ℕ) → i < length text → get_or text i 0 ≢ 10)
    → lines_of text ≡ text ∷ []
line_alone [] lt free = absurd (omega arith)
line_alone (b ∷ []) lt free = ap (λ t. if t then [] ∷ lines_of [] else with_byte b (lines_of []))
    (ne_eqb b 10 (free 0 (omega arith)))
line_alone (b ∷ c ∷ bs) lt free =
    let rest = line_alone (c ∷ bs) (omega arith) (λ i h. free (suc i) (omega arith)) in
    ap (λ t. if t then [] ∷ lines_of (c ∷ bs) else with_byte b (lines_of (c ∷ bs))) (ne_eqb b 10 (free 0 (omega arith)))
    ∙ ap (with_byte b) rest

-- the first line, by what `line_at` says from the start on
pub first_line : (text : List ℕ) (end next : ℕ) → IsLine text 0 end next → 0 < next → lines_of text ≡ take end text
    ∷ lines_of (drop next text)
first_line text end next is more =
    let free : (i : ℕ) → i < end → get_or text i 0 ≢ 10 = λ i h. is.no_lf i (omega arith) h in
    elim is.ended [
      | inl h ↦ line_before text end h.0.0 free h.0.1 ∙ ap (λ n. take end text ∷ lines_of (drop n text)) (let e = h.1 in
          let f : suc end ≡ next = omega arith in f)
      | inr h ↦
          let all = line_alone text (let e = h.1 in omega arith) (λ i lt. free i (let e = h.0 in omega arith)) in
          let front : take end text ≡ text = take_all end text (let e = h.0 in omega arith) in
          let rest : drop next text ≡ [] = drop_all next text (let e = h.1 in omega arith) in
          all ∙ ap (λ w. w ∷ []) (sym front) ∙ ap (λ w. take end text ∷ lines_of w) (sym rest)
    ]
