-- Where the first LF from a place on stands.
use Rattle.std.proofs.Common.{◌≡◌, ℕ, ◌+◌, ◌-◌, ◌<◌, ◌≤◌, List, length, slice_index, take, drop, sym, ◌∙◌, ap, arith, inl, inr, refl, eq-eqb}
use Rattle.std.proofs.lemmas.List.{get_or-drop, length-drop, take_all}
use Rattle.std.proofs.lemmas.Bool.{eqb-true}
use Rattle.memchr.specs.Find.{Nowhere, NoneBefore, Passes, is_byte}
use Rattle.chem_text.specs.Line.{IsLine}

-- no LF among the first bytes from a place on
none_from : (text : List ℕ) (from k : ℕ) → Nowhere (Passes (is_byte 10) (drop from text)) 0 k → (i : ℕ) → from ≤ i
    → i < from + k → slice_index text i ≡ 10 → ⊥
none_from text from k none i low high e =
    let same : from + (i - from) ≡ i = omega arith in
    let at : slice_index (drop from text) (i - from) ≡ 10 = get_or-drop from text (i - from) 0
    ∙ ap (slice_index text) same ∙ e in
    none (i - from) (omega arith) (omega arith) (eq-eqb _ _ at)

-- the bytes from a place on, as the code slices them
pub slice_from : (text : List ℕ) (from : ℕ) → take (length text - from) (drop from text) ≡ drop from text
slice_from text from = take_all (length text - from) (drop from text) (omega (arith, length-drop from text))

pub line_with_lf : (text : List ℕ) (from k : ℕ) → from ≤ length text
    → (NoneBefore (Passes (is_byte 10) (drop from text)) 0 (length (drop from text)) k
    × Passes (is_byte 10) (drop from text) k)
    → IsLine text from (from + k) (from + k + 1)
line_with_lf text from k within found =
    let whole = length-drop from text in
    let high = found.0.high in
    record {
      forward = omega arith;
      no_lf = none_from text from k found.0.before;
      ended = inl ((omega arith, sym (get_or-drop from text k 0) ∙ eqb-true _ _ found.1), refl);
    }

pub last_line : (text : List ℕ) (from : ℕ) → from ≤ length text → Nowhere (Passes (is_byte 10) (drop from text)) 0
    (length (drop from text)) → IsLine text from (length text) (length text)
last_line text from within none =
    let whole = length-drop from text in
    record {
      forward = within;
      no_lf = λ i low high. none_from text from (length (drop from text)) none i low (omega arith);
      ended = inr (refl, refl);
    }
