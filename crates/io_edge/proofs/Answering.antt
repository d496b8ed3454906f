-- What a reading has left to answer, before and after a step.
use Rattle.std.proofs.Common.{◌≡◌, ◌≢◌, ℕ, ◌+◌, ◌<◌, ◌≤◌, ◌⊎◌, Bool, true, false, List, [], ◌∷◌, ◌++◌, Ok, length, take, drop, get_or, cond, refl, sym, ap, ◌∙◌, subst, inl, inr, arith, append-nil, append_assoc, take-append-drop, length-append, length-take, length-drop}
use Rattle.std.proofs.lemmas.List.{drop_more, drop_all, take_all, take-take, get_or_default}
use Rattle.std.proofs.lemmas.Bool.Decides.{nat_tests}
use Rattle.std.proofs.lemmas.List.Elements.{All-drop}
use Rattle.io_edge.specs.declared.lines.Line.TheVariants.{Text, Long, End}
use Rattle.io_edge.specs.declared.lines.TheConstants.{LF, LONGEST_LINE}
use Rattle.io_edge.specs.Cut.{HasNoLf, EndsAt}
use Rattle.io_edge.specs.Lines.{TextLine, Whole, TooLong, Reading, without_cr, rest_as_line, lines_behind, lines_left, lines_of, pieces}
use Rattle.io_edge.specs.NextLine.{answered, OnText, OnNoText}
use Rattle.io_edge.specs.Steps.{IsSound, is_long, front_line, behind_line, CutsLine}
use Rattle.io_edge.proofs.TextLines.{behind-front, behind-last, behind-line, behind-none, take-without_cr, without_cr-le}

-- ---- the front of a line that is too long is dropped

pub dropped : (r : Reading) (n : ℕ) (rest : List ℕ) → IsSound r → HasNoLf r.pending → n < length r.pending
    → (0 < r.dropped) ⊎ (LONGEST_LINE + 1 < length r.pending)
    → lines_behind (r.dropped + n) (pieces (drop n r.pending ++ rest)) ≡ lines_left r rest
dropped r n rest sound none some why =
    let xs = take n r.pending in
    let ys = drop n r.pending in
    let split : xs ++ ys ≡ r.pending = take-append-drop n r.pending in
    let front : length xs ≡ n = omega (arith, some, length-take n r.pending) in
    let back : length xs + length ys ≡ length r.pending = sym (length-append xs ys) ∙ ap (λ (l : List ℕ). length l) split in
    ap (λ k. lines_behind (r.dropped + k) (pieces (ys ++ rest))) (sym front)
    ∙ (behind-front r.dropped xs ys rest (subst HasNoLf (sym split) none) (All-drop (λ b. b ≢ LF) n r.pending none)
    (omega (arith, some, front, back)) sound.front (elim why [ inl d ↦ inl d | inr k ↦ inr (omega (arith, k, back)) ])
    ∙ ap (λ l. lines_behind r.dropped (pieces (l ++ rest))) split)

-- ---- a line is cut off

as_text : (b : Bool) (size : ℕ) (text : List ℕ) (rest : List TextLine) → cond b (TooLong size) (Whole text) ∷ rest
    ≡ answered (Ok (cond b (Long size) Text)) (cond b [] text) ++ rest
as_text true size text rest = refl
as_text false size text rest = refl

-- the line that is answered is the text, or too long
line_as : (r : Reading) (n : ℕ) (text : List ℕ) (rest : List TextLine) → length text ≡ n
    → rest_as_line r.dropped text ∷ rest ≡ answered (Ok (front_line r n)) (cond (is_long r n) [] text) ++ rest
line_as r n text rest h = rw (← h) (as_text (is_long r (length text)) (r.dropped + length text) text rest)

line_not_end : (b : Bool) (size : ℕ) → cond b (Long size) Text ≢ End
line_not_end true size e = cc
line_not_end false size e = cc

few_bytes : (r : Reading) (n : ℕ) → is_long r n ≡ false → n ≤ LONGEST_LINE
few_bytes r n h = grind (arith, nat_tests)

text_fits : (b : Bool) (size : ℕ) (text : List ℕ) → (b ≡ false → length text ≤ LONGEST_LINE)
    → OnText (Ok (cond b (Long size) Text)) (length (cond b [] text) ≤ LONGEST_LINE)
text_fits true size text h = tt
text_fits false size text h = h refl

no_text : (b : Bool) (size : ℕ) (text : List ℕ) → OnNoText (Ok (cond b (Long size) Text)) (cond b [] text ≡ [])
no_text true size text = refl
no_text false size text = tt

-- up to its LF
pub cuts_lf : (r : Reading) (at n : ℕ) → IsSound r → EndsAt r.pending at → n ≡ length (without_cr (take at r.pending))
    → CutsLine (front_line r n) r (behind_line r n (at + 1))
cuts_lf r at n sound ends len =
    let xs = take at r.pending in
    let ys = drop (at + 1) r.pending in
    let lf : get_or r.pending at 0 ≡ LF = ends.ends in
    let split : r.pending ≡ xs ++ LF ∷ ys = sym (take-append-drop at r.pending)
    ∙ ap (λ l. xs ++ l) (drop_more r.pending at 0 ends.within ∙ ap (λ b. b ∷ ys) lf) in
    let short : n ≤ at = omega (arith, without_cr-le xs, length-take at r.pending) in
    let text : take n r.pending ≡ without_cr xs = sym (take-take n at r.pending short) ∙ ap (λ k. take k xs) len
    ∙ take-without_cr xs in
    record {
      whole = inl (at, ends.within, get_or_default r.pending at LF 0 ends.within ∙ lf);
      is_line = line_not_end (is_long r n) (r.dropped + n);
      lines = λ rest met.
          ap (λ l. lines_behind r.dropped (pieces l)) (ap (λ l. l ++ rest) split ∙ append_assoc xs (LF ∷ ys) rest)
          ∙ behind-line r.dropped xs (ys ++ rest) ends.before
          ∙ line_as r n (without_cr xs) (lines_of (ys ++ rest)) (sym len)
          ∙ ap (λ t. answered (Ok (front_line r n)) (cond (is_long r n) [] t) ++ lines_of (ys ++ rest)) (sym text)
          ∙ ap (λ l. answered (Ok (front_line r n)) (cond (is_long r n) [] (take n r.pending)) ++ l)
          (sym (behind-none (ys ++ rest)));
      taken = refl;
      limit = refl;
      ended = refl;
      progress = omega (arith, length-drop (at + 1) r.pending, ends.within, sound.pending);
      fits = text_fits (is_long r n) (r.dropped + n) (take n r.pending) (λ h. omega (
        arith,
        few_bytes r n h,
        length-take n r.pending,
      ));
      none = no_text (is_long r n) (r.dropped + n) (take n r.pending);
    }

-- up to the end
pub cuts_last : (r : Reading) → IsSound r → HasNoLf r.pending → r.ended ≡ true → 0 < length r.pending
    → CutsLine (front_line r (length r.pending)) r (behind_line r (length r.pending) (length r.pending))
cuts_last r sound none ended some =
    let xs = r.pending in
    let n = length r.pending in
    let text : take n xs ≡ xs = take_all n xs (omega arith) in
    let behind : drop n xs ≡ [] = drop_all n xs (omega arith) in
    record {
      whole = inr (ended, inl some);
      is_line = line_not_end (is_long r n) (r.dropped + n);
      lines = λ rest met.
          ap (λ l. lines_left r l) (met ended)
          ∙ ap (λ l. lines_behind r.dropped (pieces l)) (append-nil xs)
          ∙ behind-last r.dropped xs none some
          ∙ line_as r n xs [] refl
          ∙ ap (λ t. answered (Ok (front_line r n)) (cond (is_long r n) [] t) ++ []) (sym text)
          ∙ ap (λ l. answered (Ok (front_line r n)) (cond (is_long r n) [] (take n xs)) ++ lines_behind 0 (pieces l))
          (sym (ap (λ l. l ++ rest) behind ∙ met ended));
      taken = refl;
      limit = refl;
      ended = refl;
      progress = omega (arith, length-drop n xs, some, sound.pending);
      fits = text_fits (is_long r n) (r.dropped + n) (take n xs) (λ h. omega (arith, few_bytes r n h, length-take n xs));
      none = no_text (is_long r n) (r.dropped + n) (take n xs);
    }
