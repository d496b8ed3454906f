-- The lines that are whole in what was taken.
use Rattle.std.proofs.Common.{◌≡◌, ◌≢◌, ◌∙◌, inl, ℕ, suc, true, false, IsTrue, List, [], ◌∷◌, ◌++◌, map, refl, sym, ap, arith, cond, Contains, Option}
use Rattle.std.specs.Prelude.{◌==◌}
use Rattle.std.proofs.lemmas.Bool.Decides.{nat_tests}
use Rattle.std.proofs.lemmas.List.{map-append}
use Rattle.io_edge.specs.Lines.{AwaitsBytes, Piece, Reading, TextLine, as_line, before_first, ended_pieces, lines_behind, lines_left, lines_of, pieces, rest_as_line, text_of, whole_lines}
use Rattle.dialogue.specs.Reads.{Told}
use Rattle.dialogue.proofs.Reading.{false_is_not_true}

-- ---- lines of a text with one more LF

begun_last : (b : ℕ) (ps : List Piece) (p : Piece)
    → (q : Piece) × (before_first b (ended_pieces ps ++ p ∷ []) ≡ ended_pieces (before_first b ps) ++ q ∷ [])
begun_last b [] p = (record p { bytes = b ∷ p.bytes }, refl)
begun_last b (r ∷ ps) p =
    elim r.ended as (λ t. (q : Piece) × (before_first b (cond t (r ∷ ended_pieces ps) [] ++ p ∷ [])
    ≡ cond t (record r { bytes = b ∷ r.bytes } ∷ ended_pieces ps) [] ++ q ∷ [])) [
      | true ↦ (p, refl)
      | false ↦ (record p { bytes = b ∷ p.bytes }, refl)
    ]

-- one piece more than those that an LF ended
last_piece : (bytes : List ℕ) → (p : Piece) × (pieces (bytes ++ 10 ∷ []) ≡ ended_pieces (pieces bytes) ++ p ∷ [])
last_piece [] = (record { bytes = []; ended = true }, refl)
last_piece (b ∷ bytes) = let h = last_piece bytes in
    elim (b == 10) as (λ t. (p : Piece) × (cond t (record { bytes = []; ended = true } ∷ pieces (bytes ++ 10 ∷ []))
    (before_first b (pieces (bytes ++ 10 ∷ [])))
    ≡ ended_pieces (cond t (record { bytes = []; ended = true } ∷ pieces bytes) (before_first b (pieces bytes)))
    ++ p ∷ [])) [
      | true ↦ (h.0, ap (λ (l : List Piece). record { bytes = []; ended = true } ∷ l) h.1)
      | false ↦ let k = begun_last b (pieces bytes) h.0 in (k.0, ap (before_first b) h.1 ∙ k.1)
    ]

pub whole_and_one : (bytes : List ℕ) → (x : TextLine) × (lines_of (bytes ++ 10 ∷ []) ≡ whole_lines bytes ++ x ∷ [])
whole_and_one bytes = let h = last_piece bytes in (
  as_line (text_of h.0),
  ap (map (λ piece. as_line (text_of piece))) h.1
      ∙ map-append (λ piece. as_line (text_of piece)) (ended_pieces (pieces bytes)) (h.0 ∷ []),
)

-- ---- where no LF was taken

not_first : (b : ℕ) (bytes : List ℕ) → ¬ Contains (b ∷ bytes) 10 → b == 10 ≡ false
not_first b bytes none = let other : b ≢ 10 = (λ e. none (0, omega arith, e)) in grind (arith, nat_tests)

not_behind : (b : ℕ) (bytes : List ℕ) → ¬ Contains (b ∷ bytes) 10 → ¬ Contains bytes 10
not_behind b bytes none c = none (suc c.0, omega (arith, c.1), c.2)

none_ended : (b : ℕ) (ps : List Piece) → ended_pieces ps ≡ [] → ended_pieces (before_first b ps) ≡ []
none_ended b [] = λ e. refl
none_ended b (r ∷ ps) =
    elim r.ended as (λ t. cond t (r ∷ ended_pieces ps) [] ≡ []
    → cond t (record r { bytes = b ∷ r.bytes } ∷ ended_pieces ps) [] ≡ []) [
      | true ↦ λ e. cc
      | false ↦ λ e. refl
    ]

none_whole : (bytes : List ℕ) → ¬ Contains bytes 10 → ended_pieces (pieces bytes) ≡ []
none_whole [] none = refl
none_whole (b ∷ bytes) none = rw (not_first b bytes none)
    (none_ended b (pieces bytes) (none_whole bytes (not_behind b bytes none)))

-- one line is left, where one more LF follows
pub one_left : (r : Reading) → AwaitsBytes r → (y : TextLine) × (lines_left r (10 ∷ []) ≡ y ∷ [])
one_left r awaits =
    let h = last_piece r.pending in
    let none = none_whole r.pending (λ c. awaits.none (inl c)) in
    (rest_as_line r.dropped (text_of h.0), ap (lines_behind r.dropped) (h.1 ∙ ap (λ ps. ps ++ h.0 ∷ []) none))

not_nothing : (xs : List TextLine) (x : TextLine) → xs ++ x ∷ [] ≡ [] → ⊥
not_nothing [] x e = cc
not_nothing (y ∷ xs) x e = cc

pub same_before : (xs ys : List TextLine) (x y : TextLine) → xs ++ x ∷ [] ≡ ys ++ y ∷ [] → xs ≡ ys
same_before [] [] x y e = refl
same_before [] (b ∷ ys) x y e = absurd (not_nothing ys y (let h : [] ≡ ys ++ y ∷ [] = cc in sym h))
same_before (a ∷ xs) [] x y e = absurd (not_nothing xs x cc)
same_before (a ∷ xs) (b ∷ ys) x y e =
    let head : a ≡ b = cc in
    let tail : xs ++ x ∷ [] ≡ ys ++ y ∷ [] = cc in
    rw (head, same_before xs ys x y tail) refl

-- the lines that were read, where no whole line is left
pub read-whole : {now : Option (List ℕ)} {r : Reading} {lines : List TextLine} {input : List ℕ}
    → (t : Told lines input now r) → AwaitsBytes r → whole_lines t.got ≡ lines
read-whole {r = r} {lines = lines} t awaits =
    let x = whole_and_one t.got in
    let y = one_left r awaits in
    let more : IsTrue r.ended → 10 ∷ [] ≡ [] = (λ e. absurd (false_is_not_true (rw awaits.not_ended at e))) in
    same_before (whole_lines t.got) lines x.0 y.0
    (sym x.1 ∙ (t.begin (10 ∷ []) more ∙ ap (λ (l : List TextLine). lines ++ l) y.1))
