-- The first of the lines of a text from a place on.
use Rattle.std.proofs.Common.{◌≡◌, ◌≢◌, ℕ, zero, suc, ◌+◌, ◌-◌, ◌<◌, ◌≤◌, inl, inr, List, [], ◌∷◌, length, get_or, take, drop, sym, ◌∙◌, ap, arith}
use Rattle.std.proofs.lemmas.Bool.{eq-eqb, ne_eqb}
use Rattle.std.proofs.lemmas.List.{take_all, drop_all, drop-drop, get_or-drop, length-drop}
use Rattle.std.specs.Prelude.{if◌then◌else◌}
use Rattle.chem_text.specs.Line.{IsLine}
use Rattle.sd_read.specs.Lines.{line_of, lines_from, with_byte}

-- a line before an LF
line_before : (at next : ℕ) (text : List ℕ) (end : ℕ) → suc (at + end) ≡ next → end < length text
    → ((i : ℕ) → i < end → get_or text i 0 ≢ 10) → get_or text end 0 ≡ 10
    → lines_from at text ≡ line_of (take end text) next ∷ lines_from next (drop (suc end) text)
line_before at next [] end behind lt free lf = absurd (omega arith)
line_before at next (b ∷ bs) zero behind lt free lf =
    ap (λ t. if t then line_of [] (suc at) ∷ lines_from (suc at) bs else with_byte at b (lines_from (suc at) bs))
    (eq-eqb b 10 lf)
    ∙ ap (λ n. line_of [] n ∷ lines_from n bs) (let is : suc at ≡ next = omega arith in is)
line_before at next (b ∷ bs) (suc end) behind lt free lf =
    let rest = line_before (suc at) next bs end (omega arith) (omega arith) (λ i h. free (suc i) (omega arith)) lf in
    ap (λ t. if t then line_of [] (suc at) ∷ lines_from (suc at) bs else with_byte at b (lines_from (suc at) bs))
    (ne_eqb b 10 (free 0 (omega arith)))
    ∙ ap (with_byte at b) rest

-- a last line without LF
line_alone : (at next : ℕ) (text : List ℕ) → at + length text ≡ next → 0 < length text
    → ((i : ℕ) → i < length text → get_or text i 0 ≢ 10) → lines_from at text ≡ line_of text next ∷ []
line_alone at next [] behind lt free = absurd (omega arith)
line_alone at next (b ∷ []) behind lt free =
    ap (λ t. if t then line_of [] (suc at) ∷ [] else with_byte at b []) (ne_eqb b 10 (free 0 (omega arith)))
    ∙ ap (λ n. line_of (b ∷ []) n ∷ []) (let is : suc at ≡ next = omega arith in is)
line_alone at next (b ∷ c ∷ bs) behind lt free =
    let rest = line_alone (suc at) next (c ∷ bs) (omega arith) (omega arith) (λ i h. free (suc i) (omega arith)) in
    ap (λ t. if t then line_of [] (suc at) ∷ lines_from (suc at) (c ∷ bs)
    else with_byte at b (lines_from (suc at) (c ∷ bs))) (ne_eqb b 10 (free 0 (omega arith)))
    ∙ ap (with_byte at b) rest

-- the first line from a place on, by what `line_at` says
pub first_line : (text : List ℕ) (at end next : ℕ) → at ≤ length text → IsLine text at end next → at < next
    → lines_from at (drop at text) ≡ line_of (take (end - at) (drop at text)) next ∷ lines_from next (drop next text)
first_line text at end next within is more =
    let rest = drop at text in
    let long : length rest ≡ length text - at = length-drop at text in
    let forward = is.forward in
    let read : (i : ℕ) → get_or rest i 0 ≡ get_or text (at + i) 0 = λ i. get_or-drop at text i 0 in
    let free : (i : ℕ) → i < end - at → get_or rest i 0 ≢ 10 =
    λ i h lf. is.no_lf (at + i) (omega arith) (omega arith) (sym (read i) ∙ lf) in
    elim is.ended [
      | inl h ↦
          let back : at + (end - at) ≡ end = omega arith in
          let behind : at + suc (end - at) ≡ next = let e = h.1 in omega arith in
          line_before at next rest (end - at) (omega arith) (let e = h.0.0 in omega arith) free
          (read (end - at) ∙ ap (λ k. get_or text k 0) back ∙ h.0.1)
          ∙ ap (λ w. line_of (take (end - at) rest) next ∷ lines_from next w)
          (drop-drop (suc (end - at)) at text ∙ ap (λ k. drop k text) behind)
      | inr h ↦
          let all = line_alone at next rest (let e = h.1 in omega arith) (let e = h.1 in omega arith)
          (λ i lt. free i (let e = h.0 in omega arith)) in
          let front : take (end - at) rest ≡ rest = take_all (end - at) rest (let e = h.0 in omega arith) in
          let none : drop next text ≡ [] = drop_all next text (let e = h.1 in omega arith) in
          all ∙ ap (λ w. line_of w next ∷ []) (sym front)
          ∙ ap (λ w. line_of (take (end - at) rest) next ∷ lines_from next w) (sym none)
    ]
