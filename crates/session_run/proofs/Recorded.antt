-- What is taken and kept of the records of an SD file.
use Rattle.std.proofs.Common.{◌≡◌, ◌∙◌, ◌≤◌, ◌<◌, ◌+◌, ◌*◌, ◌++◌, ◌⊎◌, ap, append_assoc, arith, Err, false, inl, inr, is_err, leb, length, length-append, List, [], ◌∷◌, min, None, Ok, OnErr, OnOk, Option, refl, Result, Some, subst, sym, true, ℕ}
use Rattle.std.proofs.Math.Nat.{min-eq_left, min-eq_right, min-le_right}
use Rattle.std.proofs.lemmas.Bool.Decides.{leb_tells}
use Rattle.std.specs.declared.alloc.AllocError.{AllocError}
use Rattle.std.specs.declared.alloc.Global.{Global}
use Rattle.std.specs.declared.vec.Vec.{Vec}
use Rattle.io_edge.specs.Lines.{TextLine, TooLong, Whole}
use Rattle.session_acts.specs.Records.{bytes_in, counted}
use Rattle.session_acts.specs.Requests.{has_long, molfile_text}
use Rattle.dialogue.specs.Dialogue.{IsPrefixOf}
use Rattle.session_acts.specs.declared.limits.TheConstants.{MOST_COUNTED}
use Rattle.session_run.specs.Taken.{AreKept, AreTaken, IsKept, IsPart, counted_all}
use Rattle.session_run.specs.declared.records.Kept.{Kept}
use Rattle.session_run.specs.declared.records.Part.{Part}
use Rattle.session_run.specs.declared.records.Part.TheVariants as parts
use Rattle.session_run.specs.declared.records.SdTexts.{SdTexts}

-- how many bytes are counted of a part with this text
abbrev pub bytes_of : Part → List ℕ → ℕ
bytes_of parts.Text text = length text
bytes_of (parts.Long size) text = size
bytes_of parts.Big text = MOST_COUNTED
bytes_of (parts.Lost size) text = size

-- a line more
pub long_same : (lines : List TextLine) (line : List ℕ) → has_long (lines ++ Whole line ∷ []) ≡ has_long lines
long_same [] line = refl
long_same (Whole other ∷ lines) line = long_same lines line
long_same (TooLong size ∷ lines) line = refl

long_now : (lines : List TextLine) (size : ℕ) → has_long (lines ++ TooLong size ∷ []) ≡ true
long_now [] size = refl
long_now (Whole other ∷ lines) size = long_now lines size
long_now (TooLong first ∷ lines) size = refl

-- the bytes of lines, with a line more
bytes_line : (lines : List TextLine) (line : List ℕ) → bytes_in (lines ++ Whole line ∷ []) ≡ bytes_in lines + length line + 1
bytes_line [] line = omega arith
bytes_line (Whole other ∷ lines) line = let e = bytes_line lines line in omega (arith, e)
bytes_line (TooLong first ∷ lines) line = let e = bytes_line lines line in omega (arith, e)

bytes_long : (lines : List TextLine) (size : ℕ) → bytes_in (lines ++ TooLong size ∷ []) ≡ bytes_in lines + size + 1
bytes_long [] size = omega arith
bytes_long (Whole other ∷ lines) size = let e = bytes_long lines size in omega (arith, e)
bytes_long (TooLong first ∷ lines) size = let e = bytes_long lines size in omega (arith, e)

-- where none is too long, they are those of the text
bytes_text : (lines : List TextLine) → has_long lines ≡ false → bytes_in lines ≡ length (molfile_text lines)
bytes_text [] h = refl
bytes_text (Whole line ∷ lines) h =
    omega (arith, bytes_text lines h, length-append line (10 ∷ molfile_text lines))
bytes_text (TooLong size ∷ lines) h = cc

-- a count with a line more
min_more : (a n : ℕ) → min (min a MOST_COUNTED + n + 1) MOST_COUNTED ≡ min (a + n + 1) MOST_COUNTED
min_more a n = by (leb_tells a MOST_COUNTED) where
  by : ((leb a MOST_COUNTED ≡ true) × (a ≤ MOST_COUNTED)) ⊎ ((leb a MOST_COUNTED ≡ false) × (MOST_COUNTED < a))
      → min (min a MOST_COUNTED + n + 1) MOST_COUNTED ≡ min (a + n + 1) MOST_COUNTED
  by (inl few) = ap (λ k. min (k + n + 1) MOST_COUNTED) (min-eq_left few.1)
  by (inr many) =
      ap (λ k. min (k + n + 1) MOST_COUNTED) (min-eq_right (omega (arith, many.1)))
      ∙ (min-eq_right (omega arith) ∙ sym (min-eq_right (omega (arith, many.1))))

pub text_line : (lines : List TextLine) (line : List ℕ)
    → molfile_text (lines ++ Whole line ∷ []) ≡ molfile_text lines ++ line ++ 10 ∷ []
text_line [] line = refl
text_line (Whole other ∷ lines) line =
    ap (λ t. other ++ 10 ∷ t) (text_line lines line)
    ∙ (ap (λ t. other ++ 10 ∷ t) (append_assoc (molfile_text lines) line (10 ∷ []))
    ∙ (sym (append_assoc other (10 ∷ molfile_text lines) (line ++ 10 ∷ []))
    ∙ sym (append_assoc (other ++ 10 ∷ molfile_text lines) line (10 ∷ []))))
text_line (TooLong size ∷ lines) line = text_line lines line

size_line : (lines : List TextLine) (line : List ℕ)
    → length (molfile_text (lines ++ Whole line ∷ [])) ≡ length (molfile_text lines) + length line + 1
size_line lines line =
    ap (λ (t : List ℕ). length t) (text_line lines line)
    ∙ (length-append (molfile_text lines ++ line) (10 ∷ []) ∙ ap (λ n. n + 1) (length-append (molfile_text lines) line))

-- what was taken of a record, with a line more
pub part_text : (lines : List TextLine) (line text text' : List ℕ) → IsPart parts.Text lines text
    → text' ≡ text ++ line ++ 10 ∷ [] → length text + length line + 1 < MOST_COUNTED
    → IsPart parts.Text (lines ++ Whole line ∷ []) text'
part_text lines line text text' p e lt =
    let size : length text ≡ length (molfile_text lines) = ap (λ (t : List ℕ). length t) p.1 in (
      long_same lines line ∙ p.0,
      e ∙ (ap (λ t. t ++ line ++ 10 ∷ []) p.1 ∙ sym (text_line lines line)),
      omega (arith, lt, size, size_line lines line),
    )

pub part_big : (lines : List TextLine) (line text text' : List ℕ) → IsPart parts.Text lines text
    → MOST_COUNTED ≤ length text + length line + 1 → IsPart parts.Big (lines ++ Whole line ∷ []) text'
part_big lines line text text' p le =
    let size : length text ≡ length (molfile_text lines) = ap (λ (t : List ℕ). length t) p.1 in
    (long_same lines line ∙ p.0, omega (arith, le, size, size_line lines line))

pub part_lost : (lines : List TextLine) (line text text' : List ℕ) → IsPart parts.Text lines text
    → length text + length line + 1 < MOST_COUNTED
    → IsPart (parts.Lost (length text + length line + 1)) (lines ++ Whole line ∷ []) text'
part_lost lines line text text' p lt =
    let size : length text ≡ length (molfile_text lines) = ap (λ (t : List ℕ). length t) p.1 in (
      long_same lines line ∙ p.0,
      omega (arith, size, size_line lines line),
      omega (arith, lt, size, size_line lines line),
    )

pub lost_big : (lines : List TextLine) (line text text' : List ℕ) (n : ℕ) → IsPart (parts.Lost n) lines text
    → MOST_COUNTED ≤ n + length line + 1 → IsPart parts.Big (lines ++ Whole line ∷ []) text'
lost_big lines line text text' n p le =
    (long_same lines line ∙ p.0, omega (arith, le, p.1, size_line lines line))

pub lost_more : (lines : List TextLine) (line text text' : List ℕ) (n : ℕ) → IsPart (parts.Lost n) lines text
    → n + length line + 1 < MOST_COUNTED
    → IsPart (parts.Lost (n + length line + 1)) (lines ++ Whole line ∷ []) text'
lost_more lines line text text' n p lt = (
  long_same lines line ∙ p.0,
  omega (arith, p.1, size_line lines line),
  omega (arith, lt, p.1, size_line lines line),
)

long_kept : (lines : List TextLine) (line : List ℕ) → has_long lines ≡ true
    → has_long (lines ++ Whole line ∷ []) ≡ true
long_kept lines line h = long_same lines line ∙ h

pub long_more : (lines : List TextLine) (line text text' : List ℕ) (n k : ℕ) → IsPart (parts.Long n) lines text
    → k ≡ min (n + length line + 1) MOST_COUNTED → IsPart (parts.Long k) (lines ++ Whole line ∷ []) text'
long_more lines line text text' n k p e = (
  long_kept lines line p.0,
  e ∙ (ap (λ m. min (m + length line + 1) MOST_COUNTED) p.1
      ∙ (min_more (bytes_in lines) (length line) ∙ ap (λ m. min m MOST_COUNTED) (sym (bytes_line lines line)))),
)

-- and with one that is too long
pub long_one : (lines : List TextLine) (size : ℕ) (any : List ℕ) (n k : ℕ) → n ≡ counted (Some lines)
    → k ≡ min (n + size + 1) MOST_COUNTED → IsPart (parts.Long k) (lines ++ TooLong size ∷ []) any
long_one lines size any n k e f = (
  long_now lines size,
  f ∙ (ap (λ m. min (m + size + 1) MOST_COUNTED) e
      ∙ (min_more (bytes_in lines) size ∙ ap (λ m. min m MOST_COUNTED) (sym (bytes_long lines size)))),
)

-- how many bytes are counted of what was taken
pub part_counts : (part : Part) (lines : List TextLine) (text : List ℕ) → IsPart part lines text
    → counted (Some lines) ≡ bytes_of part text
part_counts parts.Text lines text p =
    let e = bytes_text lines p.0 in
    min-eq_left (omega (arith, e, p.2)) ∙ (e ∙ sym (ap (λ (t : List ℕ). length t) p.1))
part_counts (parts.Long size) lines text p = sym p.1
part_counts parts.Big lines text p =
    let e = bytes_text lines p.0 in min-eq_right (omega (arith, e, p.1))
part_counts (parts.Lost size) lines text p =
    let e = bytes_text lines p.0 in min-eq_left (omega (arith, e, p.2)) ∙ (e ∙ sym p.1)

pub part_few : (part : Part) (lines : List TextLine) (text : List ℕ) → IsPart part lines text
    → bytes_of part text ≤ MOST_COUNTED
part_few part lines text p = subst (λ n. n ≤ MOST_COUNTED) (part_counts part lines text p) (min-le_right (bytes_in lines) MOST_COUNTED)

pub big_more : (lines : List TextLine) (line text text' : List ℕ) → IsPart parts.Big lines text
    → IsPart parts.Big (lines ++ Whole line ∷ []) text'
big_more lines line text text' p =
    (long_same lines line ∙ p.0, omega (arith, p.1, size_line lines line))

pub counted_most : (r : Option (List TextLine)) → counted r ≤ MOST_COUNTED
counted_most None = omega arith
counted_most (Some lines) = min-le_right (bytes_in lines) MOST_COUNTED

-- more records, and more texts, behind those that are in the lists
kept_behind : (sum : ℕ) (rs more : List (Option (List TextLine))) (ks : List Kept)
    (ts others : List (Vec ℕ Global)) → AreKept sum rs ks ts → AreKept sum (rs ++ more) ks (ts ++ others)
kept_behind sum rs more [] ts others h = tt
kept_behind sum [] more (k ∷ ks) ts others h = absurd h
kept_behind sum (r ∷ rs) more (k ∷ ks) [] others h = absurd h
kept_behind sum (r ∷ rs) more (k ∷ ks) (t ∷ ts) others h =
    (h.0, kept_behind (sum + counted r) rs more ks ts others h.1)

-- a record more in the lists
kept_last : (sum : ℕ) (rs : List (Option (List TextLine))) (r : Option (List TextLine)) (ks : List Kept) (k : Kept)
    (ts : List (Vec ℕ Global)) (t : Vec ℕ Global) → AreKept sum rs ks ts → length ks ≡ length rs
    → length ts ≤ length rs → IsKept (sum + counted_all rs + counted r) r k t.items
    → AreKept sum (rs ++ r ∷ []) (ks ++ k ∷ []) (ts ++ t ∷ [])
kept_last sum [] r [] k [] t h e few is = (subst (λ n. IsKept n r k t.items) (omega arith) is, tt)
kept_last sum [] r [] k (u ∷ ts) t h e few is = absurd (omega (arith, few))
kept_last sum [] r (j ∷ ks) k ts t h e few is = absurd h
kept_last sum (q ∷ rs) r [] k ts t h e few is = absurd (omega (arith, e))
kept_last sum (q ∷ rs) r (j ∷ ks) k [] t h e few is = absurd h
kept_last sum (q ∷ rs) r (j ∷ ks) k (u ∷ ts) t h e few is = (
  h.0,
  kept_last (sum + counted q) rs r ks k ts t h.1 (omega (arith, e)) (omega (arith, few))
      (subst (λ n. IsKept n r k t.items) (omega arith) is),
)

counted-last : (rs : List (Option (List TextLine))) (r : Option (List TextLine))
    → counted_all (rs ++ r ∷ []) ≡ counted_all rs + counted r
counted-last [] r = omega arith
counted-last (q ∷ rs) r = let e = counted-last rs r in omega (arith, e)

pub counted_few : (rs : List (Option (List TextLine))) → counted_all rs ≤ length rs * 262145
counted_few [] = omega arith
counted_few (r ∷ rs) =
    let e = counted_few rs in
    let most : counted r ≤ 262145 = counted_most r in
    omega (arith, e, most)

-- a record more, which is in the lists, or for which they have no room
taken_last : (old new : SdTexts) (rs : List (Option (List TextLine))) (r : Option (List TextLine)) (k : Kept)
    (t : Vec ℕ Global) → AreTaken rs old → old.full ≡ false → new.total ≡ old.total + counted r
    → new.kept.items ≡ old.kept.items ++ k ∷ [] → new.texts.items ≡ old.texts.items ++ t ∷ []
    → IsKept new.total r k t.items → AreTaken (rs ++ r ∷ []) new
taken_last old new rs r k t h room total kept texts is =
    let sum : new.total ≡ 0 + counted_all rs + counted r = omega (arith, total, h.total) in
    record {
      are = rw (kept, texts) (kept_last 0 rs r old.kept.items k old.texts.items t h.are (h.all room) h.few
          (subst (λ n. IsKept n r k t.items) sum is));
      total = omega (arith, total, h.total, counted-last rs r);
      few = omega (
        arith,
        h.few,
        ap (λ (l : List (Vec ℕ Global)). length l) texts,
        length-append old.texts.items (t ∷ []),
        length-append rs (r ∷ []),
      );
      all = λ e. omega (
        arith,
        h.all room,
        ap (λ (l : List Kept). length l) kept,
        length-append old.kept.items (k ∷ []),
        length-append rs (r ∷ []),
      );
    }

pub taken_past : (old new : SdTexts) (rs : List (Option (List TextLine))) (r : Option (List TextLine))
    (others : List (Vec ℕ Global)) → AreTaken rs old → new.full ≡ true → new.total ≡ old.total + counted r
    → new.kept.items ≡ old.kept.items → old.texts.items ++ others ≡ new.texts.items
    → length new.texts.items ≤ length old.texts.items + 1 → AreTaken (rs ++ r ∷ []) new
taken_past old new rs r others h full total kept texts few = record {
  are = subst (λ (ts : List (Vec ℕ Global)). AreKept 0 (rs ++ r ∷ []) new.kept.items ts) texts
      (subst (λ (ks : List Kept). AreKept 0 (rs ++ r ∷ []) ks (old.texts.items ++ others)) (sym kept)
      (kept_behind 0 rs (r ∷ []) old.kept.items old.texts.items others h.are));
  total = omega (arith, total, h.total, counted-last rs r);
  few = omega (arith, h.few, few, length-append rs (r ∷ []));
  all = λ e. absurd (other (sym full ∙ e));
} where
  other : true ≡ false → ⊥
  other e = cc

pub taken_more : (old new : SdTexts) (rs : List (Option (List TextLine))) (r : Option (List TextLine)) (k : Kept)
    (t : Vec ℕ Global) (result : Result (Unit {0}) AllocError) → AreTaken rs old → old.full ≡ false
    → new.total ≡ old.total + counted r → IsKept new.total r k t.items
    → OnOk result ((new.kept.items ≡ old.kept.items ++ k ∷ []) × (new.texts.items ≡ old.texts.items ++ t ∷ []))
    → OnErr result (new.kept.items ≡ old.kept.items) → IsPrefixOf old.texts.items new.texts.items
    → length new.texts.items ≤ length old.texts.items + 1 → new.full ≡ is_err result → AreTaken (rs ++ r ∷ []) new
taken_more old new rs r k t (Ok u) h room total is ok err first few full =
    taken_last old new rs r k t h room total ok.0 ok.1 is
taken_more old new rs r k t (Err e) h room total is ok err first few full =
    taken_past old new rs r first.0 h full total err first.1 few
