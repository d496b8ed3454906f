-- How a source's lines are read on, whatever its input is.
use Rattle.std.proofs.Common.{◌≡◌, ◌∙◌, ℕ, IsTrue, false, Option, None, Some, Result, List, [], ◌∷◌, ◌++◌, refl, sym, ap, arith, append_assoc, append-nil, length-append}
use Rattle.std.specs.Io.KnownBytes.{Consumes}
use Rattle.io_edge.specs.Source.{Leaves}
use Rattle.io_edge.specs.Lines.{IsFinished, Reading, TextLine, lines_left, lines_of}
use Rattle.io_edge.specs.NextLine.{Answers, Counts, answered}
use Rattle.io_edge.specs.declared.lines.Line.{Line}
use Rattle.io_edge.specs.declared.lines.LineFault.{LineFault}
use Rattle.io_edge.proofs.TextLines.{behind-none}
use Rattle.dialogue.specs.Reads.{HasRead, IsFresh, Told}

pub some_one : (x y : List ℕ) → Some x ≡ Some y → x ≡ y
some_one x y e = cc

-- what is left after these bytes were taken, where it is told
pub leaves : (l got : List ℕ) (now next : Option (List ℕ)) → now ≡ Some l → Consumes now next got → (l' : List ℕ)
    × (next ≡ Some l') × (l ≡ got ++ l')
leaves l got None next p h = cc
leaves l got (Some m) None p h = absurd h
leaves l got (Some m) (Some l') p h = (l', refl, rw (sym (some_one m l p)) h)

-- no bytes are left of bytes that were none
pub none_more : (xs ys rest : List ℕ) → xs ++ ys ≡ [] → rest ≡ [] → xs ++ rest ≡ []
none_more [] ys rest e none = none
none_more (x ∷ xs) ys rest e none = cc

pub false_is_not_true : IsTrue false → ⊥
false_is_not_true h = cc

-- nothing was read
pub read-start : (before : Option (List ℕ)) (r : Reading) → IsFresh r → HasRead r.limit before before r []
read-start before r fresh = record {
  told = λ input p. record {
    got = [];
    left = input;
    left_is = p;
    split = refl;
    number = sym fresh.untaken;
    begin = λ rest met. left rest;
    ended = λ e. absurd (false_is_not_true (rw fresh.unended at e));
  };
  limit_is = refl;
  within = omega (arith, fresh.untaken);
} where
  left : (input : List ℕ) → lines_of input ≡ lines_left r input
  left input = rw (fresh.none, fresh.short) (sym (behind-none input))

-- a call for the next line was made
pub read-line : {limit : ℕ} {before now : Option (List ℕ)} {r : Reading} {lines : List TextLine}
    → HasRead limit before now r lines → (answer : Result Line LineFault) (next : Option (List ℕ)) (r' : Reading)
    (got : List ℕ) → Leaves now got next → Counts r got r' → Answers answer r got r'
    → ((l l' : List ℕ) → now ≡ Some l → next ≡ Some l' → (IsTrue r.ended → l ≡ []) → IsTrue r'.ended → l' ≡ [])
    → (IsTrue r.ended → IsTrue r'.ended) → HasRead limit before next r' (lines ++ answered answer r'.text)
read-line {now = now} {r = r} {lines = lines} u answer next r' got took counts is met ended = record {
  told = λ input p.
      let t = u.told input p in
      let k = leaves t.left got now next t.left_is took in record {
        got = t.got ++ got;
        left = k.0;
        left_is = k.1;
        split = t.split ∙ (ap (λ (x : List ℕ). t.got ++ x) k.2 ∙ sym (append_assoc t.got got k.0));
        number = omega (arith, length-append t.got got, t.number, counts.taken);
        begin = λ rest none.
            let before : IsTrue r.ended → got ++ rest ≡ [] =
            (λ e. none_more got k.0 rest (sym k.2 ∙ t.ended e) (none (ended e))) in
            ap lines_of (append_assoc t.got got rest) ∙ (t.begin (got ++ rest) before
            ∙ (ap (λ (x : List TextLine). lines ++ x) (is rest none)
            ∙ sym (append_assoc lines (answered answer r'.text) (lines_left r' rest))));
        ended = met t.left k.0 t.left_is k.1 t.ended;
      };
  limit_is = counts.limit ∙ u.limit_is;
  within = counts.within;
}

-- these are the first lines of the input
pub read-some : {now : Option (List ℕ)} {r : Reading} {lines : List TextLine} {input : List ℕ}
    → (t : Told lines input now r) → lines_of input ≡ lines ++ lines_left r t.left
read-some t = ap lines_of t.split ∙ t.begin t.left t.ended

-- where the input's end was met none is left
pub last_left : {now : Option (List ℕ)} {r : Reading} {lines : List TextLine} {input : List ℕ}
    → (t : Told lines input now r) → IsFinished r → lines_left r t.left ≡ []
last_left {r = r} t f = none t.left (t.ended f.ended) where
  none : (rest : List ℕ) → rest ≡ [] → lines_left r rest ≡ []
  none rest e = rw (e, f.none) refl

-- and these are all
pub read-all : {now : Option (List ℕ)} {r : Reading} {lines : List TextLine} {input : List ℕ}
    → (t : Told lines input now r) → IsFinished r → lines_of input ≡ lines
read-all {lines = lines} t f =
    read-some t ∙ (ap (λ (x : List TextLine). lines ++ x) (last_left t f) ∙ append-nil lines)
