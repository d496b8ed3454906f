-- The place of a symbol among the elements.
use Rattle.std.proofs.Common.{◌≡◌, ◌≢◌, ℕ, zero, suc, ◌+◌, ◌<◌, Bool, true, false, cond, ◌==◌, ◌&&◌, List, [], ◌∷◌, length, get_or, Option, Some, None, refl, sym, ◌∙◌, ap, arith}
use Rattle.std.proofs.lemmas.Bool.{eqb-true}
use Rattle.std.proofs.lemmas.Option.{get_or_from_slice_get, slice_get_within}
use Rattle.std.specs.Prelude.{slice_get}
use Rattle.std.specs.List.{position_from}
use Rattle.std.specs.Str.{bytes_eq}
use Rattle.std.specs.Cmp.Lexicographic.{same_text}
use Rattle.chem_core.specs.Element.{symbols}

-- the first place of a text among these
abbrev pub place_among : List (List ℕ) → List ℕ → Option ℕ
place_among xs text = position_from (λ s. bytes_eq s text) 0 xs

abbrev is_at : Option ℕ → ℕ → Bool
is_at None i = false
is_at (Some k) i = k == i

-- each of the texts is first found where it stands
abbrev placed : List (List ℕ) → List (List ℕ) → ℕ → Bool
placed table [] i = true
placed table (x ∷ xs) i = is_at (place_among table x) i && placed table xs (i + 1)

both : (a b : Bool) → (a && b) ≡ true → (a ≡ true) × (b ≡ true)
both true b e = (refl, e)
both false b e = absurd (cc)

at_is : (o : Option ℕ) (i : ℕ) → is_at o i ≡ true → o ≡ Some i
at_is None i e = absurd (cc)
at_is (Some k) i e = ap (λ n. Some n) (eqb-true k i e)

placed_at : (table xs : List (List ℕ)) (i k : ℕ) → placed table xs i ≡ true → k < length xs
    → place_among table (get_or xs k []) ≡ Some (i + k)
placed_at table [] i k h lt = absurd (omega arith)
placed_at table (x ∷ xs) i zero h lt =
    at_is (place_among table x) i (both (is_at (place_among table x) i) (placed table xs (i + 1)) h).0
    ∙ ap (λ n. Some n) (let e : i ≡ i + 0 = omega arith in e)
placed_at table (x ∷ xs) i (suc k) h lt =
    placed_at table xs (i + 1) k (both (is_at (place_among table x) i) (placed table xs (i + 1)) h).1 (omega arith)
    ∙ ap (λ n. Some n) (let e : i + 1 + k ≡ i + suc k = omega arith in e)

all_placed : placed symbols symbols 0 ≡ true
unfolding symbols
all_placed = refl

-- a symbol's text is found at its number
pub place-found : (text : List ℕ) (n : ℕ) → slice_get symbols n ≡ Some text → place_among symbols text ≡ Some n
place-found text n h =
    let e : get_or symbols n [] ≡ text = get_or_from_slice_get symbols n text [] h in
    ap (place_among symbols) (sym e) ∙ placed_at symbols symbols 0 n all_placed (slice_get_within symbols n text h)
    ∙ ap (λ k. Some k) (let z : 0 + n ≡ n = omega arith in z)

none_by : (b : Bool) (i : ℕ) (rest : Option ℕ) → b ≡ false → rest ≡ None → cond b (Some i) rest ≡ None
none_by true i rest e f = absurd (cc)
none_by false i rest e f = f

differs : (x text : List ℕ) (b : Bool) → b ≡ bytes_eq x text → x ≢ text → b ≡ false
differs x text true e h = absurd (h (same_text x text e))
differs x text false e h = refl

pub place-none : (xs : List (List ℕ)) (text : List ℕ) (i : ℕ) → ((n : ℕ) → slice_get xs n ≢ Some text)
    → position_from (λ s. bytes_eq s text) i xs ≡ None
place-none [] text i h = refl
place-none (x ∷ xs) text i h =
    none_by (bytes_eq x text) i (position_from (λ s. bytes_eq s text) (i + 1) xs)
    (differs x text (bytes_eq x text) refl (λ e. h 0 (ap (λ w. Some w) e)))
    (place-none xs text (i + 1) (λ n. h (suc n)))
