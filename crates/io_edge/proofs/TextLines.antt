-- The lines of a text that begins with a line.
use Rattle.std.proofs.Common.{◌≡◌, ◌≢◌, ◌⊎◌, inl, inr, ℕ, ◌+◌, ◌<◌, ◌≤◌, Bool, true, false, List, [], ◌∷◌, ◌++◌, map, length, take, cond, refl, sym, ap, ◌∙◌, arith, append-nil, append_assoc, length-append}
use Rattle.std.specs.Prelude.{nat_lt, ◌==◌}
use Rattle.std.specs.List.{AllByRecursion}
use Rattle.std.proofs.lemmas.List.Elements.{recursion_from_All}
use Rattle.std.proofs.lemmas.Bool.Decides.{nat_tests}
use Rattle.io_edge.specs.declared.lines.TheConstants.{LF, CR, LONGEST_LINE}
use Rattle.io_edge.specs.Cut.{HasNoLf}
use Rattle.io_edge.specs.Lines.{TextLine, TooLong, Whole, Piece, before_first, pieces, without_cr, text_of, as_line, rest_as_line, lines_behind, lines_of}

abbrev NoLf : List ℕ → Type 0
NoLf xs = AllByRecursion (λ b. b ≢ LF) xs

by_recursion : (xs : List ℕ) → HasNoLf xs → NoLf xs
by_recursion xs h = recursion_from_All (λ b. b ≢ LF) xs h

-- bytes before pieces, as the first bytes of the first
abbrev in_front : List ℕ → List Piece → List Piece
in_front [] ps = ps
in_front (x ∷ xs) ps = before_first x (in_front xs ps)

not_lf : (x : ℕ) → x ≢ LF → x == LF ≡ false
not_lf x h = grind (arith, nat_tests)

pieces-front : (xs rest : List ℕ) → NoLf xs → pieces (xs ++ rest) ≡ in_front xs (pieces rest)
pieces-front [] rest h = refl
pieces-front (x ∷ xs) rest h = rw (not_lf x h.0) (ap (before_first x) (pieces-front xs rest h.1))

in_front-cons : (xs : List ℕ) (p : Piece) (ps : List Piece) → in_front xs (p ∷ ps) ≡ record {
  bytes = xs ++ p.bytes;
  ended = p.ended;
} ∷ ps
in_front-cons [] p ps = refl
in_front-cons (x ∷ xs) p ps = ap (before_first x) (in_front-cons xs p ps)

in_front-nil : (x : ℕ) (xs : List ℕ) → in_front (x ∷ xs) [] ≡ record { bytes = x ∷ xs; ended = false } ∷ []
in_front-nil x [] = refl
in_front-nil x (y ∷ xs) = ap (before_first x) (in_front-nil y xs)

-- ---- the first line

abbrev line_of : Piece → TextLine
line_of piece = as_line (text_of piece)

-- nothing was dropped
rest-none : (text : List ℕ) → rest_as_line 0 text ≡ as_line text
rest-none text = let none : 0 + length text ≡ length text = omega arith in
    ap (λ n. cond (nat_lt LONGEST_LINE n) (TooLong n) (Whole text)) none

pub behind-none : (bytes : List ℕ) → lines_behind 0 (pieces bytes) ≡ lines_of bytes
behind-none bytes = by (pieces bytes) where
  by : (ps : List Piece) → lines_behind 0 ps ≡ map line_of ps
  by [] = refl
  by (p ∷ ps) = ap (λ l. l ∷ map line_of ps) (rest-none (text_of p))

pub behind-line : (dropped : ℕ) (xs rest : List ℕ) → HasNoLf xs
    → lines_behind dropped (pieces (xs ++ LF ∷ rest)) ≡ rest_as_line dropped (without_cr xs) ∷ lines_of rest
behind-line dropped xs rest h =
    ap (lines_behind dropped) (pieces-front xs (LF ∷ rest) (by_recursion xs h) ∙ in_front-cons xs _ (pieces rest))
    ∙ ap (λ l. rest_as_line dropped (without_cr l) ∷ lines_of rest) (append-nil xs)

-- a last line with no LF
pub behind-last : (dropped : ℕ) (xs : List ℕ) → HasNoLf xs → 0 < length xs
    → lines_behind dropped (pieces xs) ≡ rest_as_line dropped xs ∷ []
behind-last dropped [] h some = absurd (omega arith)
behind-last dropped (x ∷ xs) h some =
    ap (λ l. lines_behind dropped (pieces l)) (sym (append-nil (x ∷ xs)))
    ∙ ap (lines_behind dropped) (pieces-front (x ∷ xs) [] (by_recursion (x ∷ xs) h) ∙ in_front-nil x xs)

-- ---- a line that is too long, whatever follows

pub length-without_cr : (xs : List ℕ) → length xs ≤ length (without_cr xs) + 1
length-without_cr [] = omega arith
length-without_cr (x ∷ []) = omega arith
length-without_cr (x ∷ y ∷ xs) = omega (arith, length-without_cr (y ∷ xs))

length-text_of : (bytes : List ℕ) (ended : Bool)
    → length bytes ≤ length (text_of (record { bytes = bytes; ended = ended })) + 1
length-text_of bytes true = length-without_cr bytes
length-text_of bytes false = omega arith

-- bytes in front of some are in front of their text
without_cr-front : (xs : List ℕ) (y : ℕ) (ys : List ℕ) → without_cr (xs ++ y ∷ ys) ≡ xs ++ without_cr (y ∷ ys)
without_cr-front [] y ys = refl
without_cr-front (x ∷ []) y ys = refl
without_cr-front (x ∷ z ∷ xs) y ys = ap (λ l. x ∷ l) (without_cr-front (z ∷ xs) y ys)

text_of-front : (xs : List ℕ) (y : ℕ) (ys : List ℕ) (ended : Bool)
    → text_of (record { bytes = xs ++ y ∷ ys; ended = ended })
    ≡ xs ++ text_of (record { bytes = y ∷ ys; ended = ended })
text_of-front xs y ys true = without_cr-front xs y ys
text_of-front xs y ys false = refl

too_long : (dropped : ℕ) (text : List ℕ) → LONGEST_LINE < dropped + length text
    → rest_as_line dropped text ≡ TooLong (dropped + length text)
too_long dropped text h = grind (arith, nat_tests)

-- the first of some pieces, as its bytes and whether an LF ended it; and the others
abbrev first_bytes : List Piece → List ℕ
first_bytes [] = []
first_bytes (p ∷ ps) = p.bytes

abbrev first_ended : List Piece → Bool
first_ended [] = false
first_ended (p ∷ ps) = p.ended

abbrev others : List Piece → List Piece
others [] = []
others (p ∷ ps) = ps

in_front-some : (xs : List ℕ) (ps : List Piece) → 0 < length xs → in_front xs ps ≡ record {
  bytes = xs ++ first_bytes ps;
  ended = first_ended ps;
} ∷ others ps
in_front-some [] ps some = absurd (omega arith)
in_front-some (x ∷ xs) [] some = in_front-nil x xs
    ∙ ap (λ l. record { bytes = l; ended = false } ∷ []) (sym (append-nil (x ∷ xs)))
in_front-some (x ∷ xs) (p ∷ ps) some = in_front-cons (x ∷ xs) p ps

pieces-some : (xs rest : List ℕ) → HasNoLf xs → 0 < length xs → pieces (xs ++ rest) ≡ record {
  bytes = xs ++ first_bytes (pieces rest);
  ended = first_ended (pieces rest);
} ∷ others (pieces rest)
pieces-some xs rest h some =
    pieces-front xs rest (by_recursion xs h) ∙ in_front-some xs (pieces rest) some

-- more of its bytes were dropped, but not the last
same_rest : (dropped : ℕ) (xs : List ℕ) (y : ℕ) (ys : List ℕ) (ended : Bool)
    → (0 < dropped → LONGEST_LINE < dropped) → (0 < dropped) ⊎ (LONGEST_LINE < length xs + length ys)
    → rest_as_line (dropped + length xs) (text_of (record { bytes = y ∷ ys; ended = ended }))
    ≡ rest_as_line dropped (text_of (record { bytes = xs ++ y ∷ ys; ended = ended }))
same_rest dropped xs y ys ended front why =
    let text = text_of (record { bytes = y ∷ ys; ended = ended }) in
    let size : length (xs ++ text) ≡ length xs + length text = length-append xs text in
    let long : LONGEST_LINE < dropped + length xs + length text = elim why [
      | inl some ↦ omega (arith, front some)
      | inr many ↦ omega (arith, many, length-text_of (y ∷ ys) ended)
    ] in
    too_long (dropped + length xs) text long
    ∙ (ap (λ n. TooLong n) (omega (arith, size))
    ∙ (sym (too_long dropped (xs ++ text) (omega (arith, long, size)))
    ∙ ap (rest_as_line dropped) (sym (text_of-front xs y ys ended))))

pub behind-front : (dropped : ℕ) (xs ys rest : List ℕ) → HasNoLf (xs ++ ys) → HasNoLf ys → 0 < length ys
    → (0 < dropped → LONGEST_LINE < dropped) → (0 < dropped) ⊎ (LONGEST_LINE + 1 < length xs + length ys)
    → lines_behind (dropped + length xs) (pieces (ys ++ rest)) ≡ lines_behind dropped (pieces ((xs ++ ys) ++ rest))
behind-front dropped xs [] rest h none some front why = absurd (omega arith)
behind-front dropped xs (y ∷ ys) rest h none some front why =
    let first = first_bytes (pieces rest) in
    let ended = first_ended (pieces rest) in
    let more = map line_of (others (pieces rest)) in
    let many : (0 < dropped) ⊎ (LONGEST_LINE < length xs + length (ys ++ first)) = elim why [
      | inl d ↦ inl d
      | inr n ↦ inr (omega (arith, n, length-append ys first))
    ] in
    ap (lines_behind (dropped + length xs)) (pieces-some (y ∷ ys) rest none some)
    ∙ (ap (λ l. l ∷ more) (same_rest dropped xs y (ys ++ first) ended front many)
    ∙ (ap (λ l. rest_as_line dropped (text_of (record { bytes = l; ended = ended })) ∷ more)
    (sym (append_assoc xs (y ∷ ys) first))
    ∙ ap (lines_behind dropped)
    (sym (pieces-some (xs ++ y ∷ ys) rest h (omega (arith, length-append xs (y ∷ ys)))))))

-- ---- the text of a line is its front

pub take-without_cr : (xs : List ℕ) → take (length (without_cr xs)) xs ≡ without_cr xs
take-without_cr [] = refl
take-without_cr (x ∷ []) =
    elim (x == CR) as (λ b. take (length (cond b [] (x ∷ []))) (x ∷ []) ≡ cond b [] (x ∷ [])) [
      | true ↦ refl
      | false ↦
          refl
    ]
take-without_cr (x ∷ y ∷ xs) = ap (λ l. x ∷ l) (take-without_cr (y ∷ xs))

pub without_cr-le : (xs : List ℕ) → length (without_cr xs) ≤ length xs
without_cr-le [] = omega arith
without_cr-le (x ∷ []) =
    elim (x == CR) as (λ b. length (cond b [] (x ∷ [])) ≤ 1) [ true ↦ omega arith | false ↦ omega arith ]
without_cr-le (x ∷ y ∷ xs) = omega (arith, without_cr-le (y ∷ xs))
