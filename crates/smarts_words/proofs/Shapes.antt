-- The texts of primitives that a letter or `*` begins: one byte, the two bytes of a symbol, or a letter and digits.
use Rattle.std.proofs.Common.{◌≡◌, ◌≢◌, ℕ, zero, suc, ◌<◌, ◌≤◌, Bool, true, false, not, cond, ◌==◌, ◌&&◌, List, [], ◌∷◌, length, get_or, slice_get, Some, ◌⊎◌, inl, inr, refl, sym, ◌∙◌, ap, subst, arith}
use Rattle.std.proofs.lemmas.Bool.{false≢true}
use Rattle.std.proofs.lemmas.Option.{slice_get-get_or, slice_get_within, get_or_from_slice_get}
use Rattle.std.proofs.lemmas.Bool.Decides.{nat_tests}
use Rattle.std.specs.List.{list_all}
use Rattle.chem_core.specs.Element.{symbols}
use Rattle.smiles_words.specs.Atom.{Lower, lower_b, lower_c, lower_n, lower_o, lower_p, lower_s, lower_se, lower_as, lower_bytes}
use Rattle.smiles_words.proofs.Symbols.{two_is_lower}
use Rattle.smarts_words.specs.declared.word.Letter.{Letter}
use Rattle.smarts_words.specs.declared.word.Letter.TheVariants as letters
use Rattle.smarts_words.specs.Prims.{Prim, any, aromatic, aliphatic, element, lower, counted, prim_text, IsPrim, letter_byte, AreSymbol, StandsAlone, IsWhole, FollowsPrim}
use Rattle.smarts_words.specs.Follow.{IsBare, IsLettered}
use Rattle.smarts_words.proofs.Letters.{length-symbols, none_hydrogen}

both : (u v : Bool) → (u && v) ≡ true → (u ≡ true) × (v ≡ true)
both true v h = (refl, h)
both false v h = absurd (false≢true h)

pub passes_at : (test : List ℕ → Bool) (xs : List (List ℕ)) (k : ℕ) → list_all test xs ≡ true → k < length xs
    → test (get_or xs k []) ≡ true
passes_at test [] k h l = absurd (omega arith)
passes_at test (x ∷ xs) zero h l = (both (test x) (list_all test xs) h).0
passes_at test (x ∷ xs) (suc k) h l = passes_at test xs k (both (test x) (list_all test xs) h).1 (omega arith)

short_test : List ℕ → Bool
short_test (x ∷ []) = true
short_test (x ∷ y ∷ []) = true
short_test _ = false

all_short : list_all short_test symbols ≡ true
unfolding symbols short_test
all_short = refl

-- a text of one byte, of the two of a symbol, or of a letter and digits
pub data Shape (x : Prim) : Type 0 where
  one : (a : ℕ) → IsBare x → prim_text x ≡ a ∷ [] → Shape x
  two : (a b : ℕ) → IsBare x → prim_text x ≡ a ∷ b ∷ [] → AreSymbol a b → Shape x
  letter : (l : Letter) (ds : List ℕ) → x ≡ counted l ds → Shape x

element_by : (n : ℕ) (text : List ℕ) → slice_get symbols n ≡ Some text → get_or symbols n [] ≡ text → short_test text
    ≡ true → Shape (element n)
unfolding short_test
element_by n [] at e h = absurd (false≢true h)
element_by n (a ∷ []) at e h = one a tt e
element_by n (a ∷ b ∷ []) at e h = two a b tt e (inl (n, at))
element_by n (a ∷ b ∷ c ∷ cs) at e h = absurd (false≢true h)

lower_shape : (l : Lower) → Shape (lower l)
lower_shape lower_b = one 98 tt refl
lower_shape lower_c = one 99 tt refl
lower_shape lower_n = one 110 tt refl
lower_shape lower_o = one 111 tt refl
lower_shape lower_p = one 112 tt refl
lower_shape lower_s = one 115 tt refl
lower_shape lower_se = two 115 101 tt refl (inr (lower_se, refl))
lower_shape lower_as = two 97 115 tt refl (inr (lower_as, refl))

pub shape_of : (x : Prim) → IsPrim x → IsLettered x → Shape x
shape_of any is lettered = one 42 tt refl
shape_of aromatic is lettered = one 97 tt refl
shape_of aliphatic is lettered = one 65 tt refl
shape_of (element n) is lettered =
    let l = length-symbols in
    let high = is.1 in
    element_by n (get_or symbols n []) (slice_get-get_or symbols n [] (omega arith)) refl
    (passes_at short_test symbols n all_short (omega arith))
shape_of (lower l) is lettered = lower_shape l
shape_of (counted l ds) is lettered = letter l ds refl
shape_of _ is lettered = absurd lettered

-- what may follow primitives of one and of two bytes
pub one_follows : (x : Prim) (a : ℕ) (rest : List ℕ) → IsBare x → prim_text x ≡ a ∷ [] → StandsAlone a rest
    → FollowsPrim x rest
one_follows any a rest bare e alone = tt
one_follows aromatic a rest bare e alone = let k : a ≡ 97 = cc in subst (λ (v : ℕ). StandsAlone v rest) k alone
one_follows aliphatic a rest bare e alone = let k : a ≡ 65 = cc in subst (λ (v : ℕ). StandsAlone v rest) k alone
one_follows (element n) a rest bare e alone = subst (λ (v : List ℕ). IsWhole v rest) (sym e) alone
one_follows (lower l) a rest bare e alone = subst (λ (v : List ℕ). IsWhole v rest) (sym e) alone
one_follows _ a rest bare e alone = absurd bare

two_heads : (a b c : ℕ) (xs : List ℕ) → a ∷ [] ≡ b ∷ c ∷ xs → ⊥
two_heads a b c xs e = cc

pub two_follows : (x : Prim) (a b : ℕ) (rest : List ℕ) → IsBare x → prim_text x ≡ a ∷ b ∷ [] → FollowsPrim x rest
two_follows any a b rest bare e = tt
two_follows aromatic a b rest bare e = absurd (two_heads 97 a b [] e)
two_follows aliphatic a b rest bare e = absurd (two_heads 65 a b [] e)
two_follows (element n) a b rest bare e = subst (λ (v : List ℕ). IsWhole v rest) (sym e) tt
two_follows (lower l) a b rest bare e = subst (λ (v : List ℕ). IsWhole v rest) (sym e) tt
two_follows _ a b rest bare e = absurd bare

-- what a primitive of one byte asks of what follows: but for `*` its byte stands alone
pub one_alone : (x : Prim) (a : ℕ) (rest : List ℕ) → IsBare x → prim_text x ≡ a ∷ [] → FollowsPrim x rest → (a ≡ 42)
    ⊎ StandsAlone a rest
one_alone any a rest bare e follows = inl (cc)
one_alone aromatic a rest bare e follows = let k : 97 ≡ a = cc in inr (subst (λ (v : ℕ). StandsAlone v rest) k follows)
one_alone aliphatic a rest bare e follows = let k : 65 ≡ a = cc in inr (subst (λ (v : ℕ). StandsAlone v rest) k follows)
one_alone (element n) a rest bare e follows = inr (subst (λ (v : List ℕ). IsWhole v rest) e follows)
one_alone (lower l) a rest bare e follows = inr (subst (λ (v : List ℕ). IsWhole v rest) e follows)
one_alone _ a rest bare e follows = absurd bare

pub bare_is_lettered : (x : Prim) → IsBare x → IsLettered x
bare_is_lettered any bare = tt
bare_is_lettered aromatic bare = tt
bare_is_lettered aliphatic bare = tt
bare_is_lettered (element n) bare = tt
bare_is_lettered (lower l) bare = tt
bare_is_lettered _ bare = absurd bare

-- the second byte of a symbol is in lower case

lower_second : (l : Lower) (a b : ℕ) → lower_bytes l ≡ a ∷ b ∷ [] → (97 ≤ a) × (97 ≤ b)
lower_second lower_b a b e = absurd (two_heads 98 a b [] e)
lower_second lower_c a b e = absurd (two_heads 99 a b [] e)
lower_second lower_n a b e = absurd (two_heads 110 a b [] e)
lower_second lower_o a b e = absurd (two_heads 111 a b [] e)
lower_second lower_p a b e = absurd (two_heads 112 a b [] e)
lower_second lower_s a b e = absurd (two_heads 115 a b [] e)
lower_second lower_se a b e = let k : 115 ≡ a = cc in let j : 101 ≡ b = cc in (omega arith, omega arith)
lower_second lower_as a b e = let k : 97 ≡ a = cc in let j : 115 ≡ b = cc in (omega arith, omega arith)

pub symbol_second : (a b : ℕ) → AreSymbol a b → 97 ≤ b
symbol_second a b (inl e) = two_is_lower e.0 a b e.1
symbol_second a b (inr l) = (lower_second l.0 a b l.1).1

star_test : List ℕ → Bool
star_test (x ∷ y ∷ ys) = not (x == 42)
star_test _ = true

no_star : list_all star_test symbols ≡ true
unfolding symbols star_test
no_star = refl

star_passes : (text : List ℕ) (a b : ℕ) → text ≡ a ∷ b ∷ [] → star_test text ≡ true → a ≢ 42
unfolding star_test
star_passes [] a b e h k = absurd (cc)
star_passes (x ∷ []) a b e h k = absurd (two_heads x a b [] e)
star_passes (x ∷ y ∷ ys) a b e h k = let j : x ≡ 42 = cc in grind (arith, nat_tests)

-- no symbol of two bytes begins with `*`
pub symbol_first : (a b : ℕ) → AreSymbol a b → a ≢ 42
symbol_first a b (inl e) =
    let l = length-symbols in
    let within = slice_get_within symbols e.0 (a ∷ b ∷ []) e.1 in
    star_passes (get_or symbols e.0 []) a b (get_or_from_slice_get symbols e.0 (a ∷ b ∷ []) [] e.1)
    (passes_at star_test symbols e.0 no_star within)
symbol_first a b (inr l) = let low = (lower_second l.0 a b l.1).0 in λ e. omega arith

-- a byte that is no letter of a count
letter_test : List ℕ → Bool
letter_test (x ∷ []) =
    not (x == 68) && (not (x == 104)
    && (not (x == 82) && (not (x == 114) && (not (x == 118) && (not (x == 88) && not (x == 120))))))
letter_test _ = true

no_letter : list_all letter_test symbols ≡ true
unfolding symbols letter_test
no_letter = refl

letter_passes : (text : List ℕ) (l : Letter) → text ≡ letter_byte l ∷ [] → letter_test text ≡ true → letter_byte l ≡ 72
unfolding letter_test
letter_passes text letters.Degree e h = absurd (let k = subst (λ (v : List ℕ). letter_test v ≡ true) e h in
    false≢true k)
letter_passes text letters.TotalH e h = refl
letter_passes text letters.ImplicitH e h = absurd (let k = subst (λ (v : List ℕ). letter_test v ≡ true) e h in
    false≢true k)
letter_passes text letters.Rings e h = absurd (let k = subst (λ (v : List ℕ). letter_test v ≡ true) e h in false≢true k)
letter_passes text letters.RingSize e h = absurd (let k = subst (λ (v : List ℕ). letter_test v ≡ true) e h in
    false≢true k)
letter_passes text letters.Valence e h = absurd (let k = subst (λ (v : List ℕ). letter_test v ≡ true) e h in
    false≢true k)
letter_passes text letters.Connect e h = absurd (let k = subst (λ (v : List ℕ). letter_test v ≡ true) e h in
    false≢true k)
letter_passes text letters.RingBonds e h = absurd (let k = subst (λ (v : List ℕ). letter_test v ≡ true) e h in
    false≢true k)

head_of : (a b : ℕ) → a ∷ [] ≡ b ∷ [] → a ≡ b
head_of a b e = cc

low_letter : (l : Letter) → (letter_byte l ≢ 42) × (letter_byte l ≢ 97) × (letter_byte l ≢ 65)
low_letter letters.Degree = (λ e. omega arith, λ e. omega arith, λ e. omega arith)
low_letter letters.TotalH = (λ e. omega arith, λ e. omega arith, λ e. omega arith)
low_letter letters.ImplicitH = (λ e. omega arith, λ e. omega arith, λ e. omega arith)
low_letter letters.Rings = (λ e. omega arith, λ e. omega arith, λ e. omega arith)
low_letter letters.RingSize = (λ e. omega arith, λ e. omega arith, λ e. omega arith)
low_letter letters.Valence = (λ e. omega arith, λ e. omega arith, λ e. omega arith)
low_letter letters.Connect = (λ e. omega arith, λ e. omega arith, λ e. omega arith)
low_letter letters.RingBonds = (λ e. omega arith, λ e. omega arith, λ e. omega arith)

-- the letters of symbols in lower case, and those of counts
abbrev is_lower_letter : ℕ → Type 0
is_lower_letter a = (a ≡ 98) ⊎ (a ≡ 99) ⊎ (a ≡ 110) ⊎ (a ≡ 111) ⊎ (a ≡ 112) ⊎ (a ≡ 115)

lower_letter : (l : Lower) (a : ℕ) → lower_bytes l ≡ a ∷ [] → is_lower_letter a
lower_letter lower_b a e = inl (sym (head_of 98 a e))
lower_letter lower_c a e = inr (inl (sym (head_of 99 a e)))
lower_letter lower_n a e = inr (inr (inl (sym (head_of 110 a e))))
lower_letter lower_o a e = inr (inr (inr (inl (sym (head_of 111 a e)))))
lower_letter lower_p a e = inr (inr (inr (inr (inl (sym (head_of 112 a e))))))
lower_letter lower_s a e = inr (inr (inr (inr (inr (sym (head_of 115 a e))))))
lower_letter lower_se a e = absurd (two_heads a 115 101 [] (sym e))
lower_letter lower_as a e = absurd (two_heads a 97 115 [] (sym e))

count_letter : (l : Letter) → is_lower_letter (letter_byte l) → ⊥
count_letter letters.Degree h = grind arith
count_letter letters.TotalH h = grind arith
count_letter letters.ImplicitH h = grind arith
count_letter letters.Rings h = grind arith
count_letter letters.RingSize h = grind arith
count_letter letters.Valence h = grind arith
count_letter letters.Connect h = grind arith
count_letter letters.RingBonds h = grind arith

-- no primitive of letters alone is the letter of a count
pub bare_no_letter : (x : Prim) (l : Letter) → IsPrim x → IsBare x → prim_text x ≡ letter_byte l ∷ [] → ⊥
bare_no_letter any l is bare e = (low_letter l).0 (sym (head_of 42 _ e))
bare_no_letter aromatic l is bare e = (low_letter l).1 (sym (head_of 97 _ e))
bare_no_letter aliphatic l is bare e = (low_letter l).2 (sym (head_of 65 _ e))
bare_no_letter (element n) l is bare e =
    let k = length-symbols in
    let high = is.1 in
    none_hydrogen (element n) is tt (letter_byte l) e (letter_passes (get_or symbols n []) l e
    (passes_at letter_test symbols n no_letter (omega arith)))
bare_no_letter (lower m) l is bare e = count_letter l (lower_letter m (letter_byte l) e)
bare_no_letter _ l is bare e = absurd bare

letter_from : ℕ → Letter
letter_from a = cond (a == 68) letters.Degree
    (cond (a == 72) letters.TotalH
    (cond (a == 104) letters.ImplicitH
    (cond (a == 82) letters.Rings (cond (a == 114) letters.RingSize
    (cond (a == 118) letters.Valence (cond (a == 88) letters.Connect letters.RingBonds))))))

letter_back : (l : Letter) → letter_from (letter_byte l) ≡ l
unfolding letter_from
letter_back letters.Degree = refl
letter_back letters.TotalH = refl
letter_back letters.ImplicitH = refl
letter_back letters.Rings = refl
letter_back letters.RingSize = refl
letter_back letters.Valence = refl
letter_back letters.Connect = refl
letter_back letters.RingBonds = refl

pub one_letter_byte : (l m : Letter) → letter_byte l ≡ letter_byte m → l ≡ m
one_letter_byte l m e = sym (letter_back l) ∙ ap letter_from e ∙ letter_back m
