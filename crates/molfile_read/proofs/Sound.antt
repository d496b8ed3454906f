-- What is read is sound: this follows from what a reading is.
use Rattle.std.proofs.Common.{◌≡◌, ℕ, zero, suc, ◌+◌, ◌-◌, ◌<◌, ◌≤◌, ◌==◌, Bool, true, false, List, [], ◌∷◌, ◌++◌, length, drop, take, Option, Some, None, Result, Ok, Err, refl, arith}
use Rattle.std.proofs.lemmas.Bool.{leb-true, ltb-true}
use Rattle.std.proofs.lemmas.Bool.Decides.{nat_tests}
use Rattle.std.proofs.lemmas.Int.{ints}
use Rattle.std.proofs.lemmas.List.{length-append, length-drop, length-take}
use Rattle.std.proofs.lemmas.Result.{IfOk-at_ok}
use Rattle.std.specs.Option.{IfSome, ok_or}
use Rattle.std.specs.Result.{IfOk}
use Rattle.std.specs.List.{All, AllByRecursion, position_from}
use Rattle.std.specs.Str.{all_ascii_digits, bytes_eq}
use Rattle.std.specs.Prelude.{if◌then◌else◌, ◌||◌, ◌&&◌, not, nat_lt, nat_le, option_map, option_and_then, ℤ, pos, neg_ℤ, ◌≤ℤ◌}
use Rattle.chem_core.specs.declared.sketch.SketchBond.{SketchBond}
use Rattle.chem_core.specs.declared.sketch.SketchKind.{SketchKind}
use Rattle.chem_core.specs.Element.{symbols}
use Rattle.chem_core.specs.Sketch.{SketchTerm}
use Rattle.chem_core.specs.Sound.{IsSound}
use Rattle.molfile_read.specs.declared.fault.MolfileFault.{MolfileFault}
use Rattle.molfile_read.specs.declared.fault.MolfileFault.TheVariants.{Columns, Bond, Query, Cut, Header}
use Rattle.molfile_read.specs.declared.counts.Counts.{Counts}
use Rattle.molfile_read.specs.declared.atom.AtomLine.{AtomLine}
use Rattle.molfile_read.specs.declared.setting.Value.TheVariants.{Charge, Radical, Isotope}
use Rattle.molfile_read.specs.declared.setting.Setting.{Setting}
use Rattle.molfile_read.specs.declared.setting.Tag.{Tag}
use Rattle.molfile_read.specs.declared.setting.Tag.TheVariants as tags
use Rattle.molfile_read.specs.Text.{Line, numbered_lines}
use Rattle.molfile_read.specs.Steps.{◌>>=◌, each}
use Rattle.molfile_read.specs.Field.{columns, trimmed, value_after, decimal_in, signed_in, number_of_trimmed, number_in, signed_number_in}
use Rattle.molfile_read.specs.Symbol.{hydrogen_isotope, element_or, element_of}
use Rattle.molfile_read.specs.Counts.{is_zero, is_version_read, counts_read, first_counts}
use Rattle.molfile_read.specs.Atoms.{given, symbol_in, is_query_atom, atom_read}
use Rattle.molfile_read.specs.Bonds.{is_query_bond, kind_of_type, is_atom, are_joined, bond_line, bond_read, bonds_read}
use Rattle.molfile_read.specs.Properties.{words, electrons_of, value_in, place_of, place_in, setting_in, setting_at, nothing_in, pairs_in, count_at, counted_pairs, is_query_line, is_passed_over, tag_of, tagged, property_read, property_lines, is_ended, settings_read}
use Rattle.molfile_read.specs.Reading.{masses_read, sketch_atoms, drawn, HasNoAromaticMark, IsReading}
use Rattle.molfile_read.specs.Parts.{IsAtomLine, IsKind, JoinsTwo, AreBondsAmong, IsValue, IsSetting, AreAtoms}
use Rattle.molfile_read.proofs.Drawn.{atoms_of, bonds_of, end_of}
use Rattle.molfile_read.proofs.Joined.{once_push, sound_sketch, no_colons}
use Rattle.molfile_read.proofs.Made.{are_atoms, length-sketch_atoms}
use Rattle.molfile_read.proofs.Steps.{all_push, all_append}

-- what is read holds what is wanted of it
record Gives (A : Type 0) (P : A → Type 0) (r : Result A MolfileFault) : Type 0 where
  gives : IfOk r P

bind : {A B : Type 0} → (P : A → Type 0) (Q : B → Type 0) (r : Result A MolfileFault) (f : A → Result B MolfileFault)
    → Gives A P r → ((x : A) → P x → Gives B Q (f x)) → Gives B Q (r >>= f)
bind P Q (Ok x) f h k = k x h.gives
bind P Q (Err fault) f h k = record { gives = tt }

branch : {A : Type 0} → (P : A → Type 0) (b : Bool) (x y : Result A MolfileFault) → (b ≡ true → Gives A P x)
    → (b ≡ false → Gives A P y) → Gives A P (if b then x else y)
branch P true x y h k = h refl
branch P false x y h k = k refl

found : {A : Type 0} → (P : A → Type 0) (o : Option A) (fault : MolfileFault) → IfSome o P → Gives A P (ok_or o fault)
found P None fault h = record { gives = tt }
found P (Some x) fault h = record { gives = h }

fine : {A : Type 0} → (P : A → Type 0) (x : A) → P x → Gives A P (Ok x)
fine P x h = record { gives = h }

refused : (A : Type 0) (P : A → Type 0) (fault : MolfileFault) → Gives A P (Err fault)
refused A P fault = record { gives = tt }

map_gives : {A B : Type 0} → (P : A → Type 0) (Q : B → Type 0) (f : A → B) (o : Option A) → IfSome o P
    → ((x : A) → P x → Q (f x)) → IfSome (option_map f o) Q
map_gives P Q f None h k = tt
map_gives P Q f (Some x) h k = k x h

then_gives : {A B : Type 0} → (P : A → Type 0) (Q : B → Type 0) (f : A → Option B) (o : Option A) → IfSome o P
    → ((x : A) → P x → IfSome (f x) Q) → IfSome (option_and_then f o) Q
then_gives P Q f None h k = tt
then_gives P Q f (Some x) h k = k x h

some_if : {A : Type 0} → (P : A → Type 0) (b : Bool) (x y : Option A) → (b ≡ true → IfSome x P)
    → (b ≡ false → IfSome y P) → IfSome (if b then x else y) P
some_if P true x y h k = h refl
some_if P false x y h k = k refl

both : (a b : Bool) → (a && b) ≡ true → (a ≡ true) × (b ≡ true)
both true b e = (refl, e)
both false b e = absurd (cc)

-- numbers
decimal-most : (most : ℕ) (bytes : List ℕ) → IfSome (decimal_in most bytes) (λ n. n ≤ most)
decimal-most most [] = tt
decimal-most most (b ∷ bs) =
    let v = value_after 0 (b ∷ bs) in
    let digits = all_ascii_digits (b ∷ bs) in
    some_if (λ n. n ≤ most) (digits && nat_le v most) (Some v) None
    (λ e. leb-true v most (both digits (nat_le v most) e).1) (λ _. tt)

trimmed-most : (most : ℕ) (bytes : List ℕ) → IfSome (number_of_trimmed most bytes) (λ n. n ≤ most)
trimmed-most most [] = omega arith
trimmed-most most (b ∷ bs) = decimal-most most (b ∷ bs)

number-most : (most : ℕ) (field : List ℕ) → IfSome (number_in most field) (λ n. n ≤ most)
number-most most field = trimmed-most most (trimmed field)

any_some : {A : Type 0} → (o : Option A) → IfSome o (λ _. Unit {0})
any_some None = tt
any_some (Some x) = tt

abbrev IsCharge : ℤ → Type 0
IsCharge z = (neg_ℤ (pos 15) ≤ℤ z) × (z ≤ℤ pos 15)

signed-most : (bytes : List ℕ) → IfSome (signed_in 15 bytes) IsCharge
signed-most [] = tt
signed-most (b ∷ bs) =
    some_if IsCharge (b == 45) (option_map (λ n. neg_ℤ (pos n)) (decimal_in 15 bs))
    (option_map (λ n. pos n) (decimal_in 15 (b ∷ bs)))
    (λ _. map_gives (λ n. n ≤ 15) IsCharge (λ n. neg_ℤ (pos n)) (decimal_in 15 bs) (decimal-most 15 bs) (λ n h.
    (omega (arith, ints), omega (arith, ints))))
    (λ _. map_gives (λ n. n ≤ 15) IsCharge (λ n. pos n) (decimal_in 15 (b ∷ bs)) (decimal-most 15 (b ∷ bs)) (λ n h.
    (omega (arith, ints), omega (arith, ints))))

-- elements
later : (i n : ℕ) (o : Option ℕ) → IfSome o (λ k. k < (i + 1) + n) → IfSome o (λ k. k < i + suc n)
later i n None h = tt
later i n (Some k) h = omega arith

place-within : (test : List ℕ → Bool) (i : ℕ) (xs : List (List ℕ))
    → IfSome (position_from test i xs) (λ k. k < i + length xs)
place-within test i [] = tt
place-within test i (x ∷ xs) =
    some_if (λ k. k < i + length (x ∷ xs)) (test x) (Some i) (position_from test (i + 1) xs) (λ _. omega arith)
    (λ _. later i (length xs) (position_from test (i + 1) xs) (place-within test (i + 1) xs))

many_symbols : length symbols ≡ 104
unfolding symbols
many_symbols = refl

abbrev IsElement : ℕ × ℕ → Type 0
IsElement r = (r.0 ≤ 103) × (r.1 ≤ 3)

hydrogen-element : (symbol : List ℕ) → IfSome (hydrogen_isotope symbol) IsElement
hydrogen-element symbol =
    some_if IsElement (bytes_eq symbol (68 ∷ [])) (Some (1, 2))
    (if bytes_eq symbol (84 ∷ []) then Some (1, 3) else None) (λ _. (omega arith, omega arith)) (λ _.
    some_if IsElement (bytes_eq symbol (84 ∷ [])) (Some (1, 3)) None (λ _. (omega arith, omega arith)) (λ _. tt))

either-element : (other : Option (ℕ × ℕ)) (place : Option ℕ) → IfSome other IsElement
    → IfSome place (λ k. k < 0 + length symbols) → IfSome (element_or other place) IsElement
either-element other None h k = h
either-element other (Some n) h k = let m = many_symbols in (omega arith, omega arith)

element-is : (symbol : List ℕ) → IfSome (element_of symbol) IsElement
element-is symbol = either-element (hydrogen_isotope symbol) (position_from (λ s. bytes_eq s symbol) 0 symbols)
    (hydrogen-element symbol) (place-within (λ s. bytes_eq s symbol) 0 symbols)

-- counts
abbrev AreCounts : Counts → Type 0
AreCounts c = (c.atoms ≤ 999) × (c.bonds ≤ 999)

counts-are : (line : List ℕ) → Gives Counts AreCounts (counts_read line)
unfolding counts_read
counts-are line =
    let few : ℕ → Type 0 = λ n. n ≤ 999 in
    bind few AreCounts _ _ (found few (number_in 999 (columns 1 3 line)) Header (number-most 999 (columns 1 3 line)))
    (λ a ha. bind few AreCounts _ _ (found few (number_in 999 (columns 4 6 line)) Header
    (number-most 999 (columns 4 6 line))) (λ b hb.
    branch AreCounts
    ((a == 0) || (not (is_zero (number_in 999 (columns 16 18 line))) || not (is_version_read line))) (Err Header) _
    (λ _. refused Counts AreCounts Header)
    (λ _. branch AreCounts (not (is_zero (number_in 999 (columns 7 9 line)))) (Err (Query 4)) _
    (λ _. refused Counts AreCounts (Query 4)) (λ _. fine AreCounts _ (ha, hb)))))

first-counts : (lines : List Line) → Gives Counts AreCounts (first_counts lines)
first-counts [] = refused Counts AreCounts Cut
first-counts (l ∷ ls) = counts-are l.1

-- atom lines
given-is : {A : Type 0} → (P : A → Type 0) (at : ℕ) (o : Option A) → IfSome o P → Gives A P (given at o)
given-is P at o h = found P o (Columns at) h

any_given : {A : Type 0} → (at : ℕ) (o : Option A) → Gives A (λ _. Unit {0}) (given at o)
any_given at o = given-is (λ _. Unit {0}) at o (any_some o)

atom-is : (l : Line) → Gives AtomLine IsAtomLine (atom_read l)
unfolding atom_read
atom-is l =
    branch IsAtomLine (is_query_atom l.1) (Err (Query l.0)) _ (λ _. refused AtomLine IsAtomLine (Query l.0)) (λ _.
    bind IsElement IsAtomLine _ _ (given-is IsElement l.0 (element_of (symbol_in l.1)) (element-is (symbol_in l.1)))
    (λ e he. bind (λ _. Unit {0}) IsAtomLine _ _ (any_given l.0 (signed_number_in 99 (columns 35 36 l.1)))
    (λ m hm. bind (λ n. n ≤ 7) IsAtomLine _ _ (given-is (λ n. n ≤ 7) l.0 (number_in 7 (columns 37 39 l.1))
    (number-most 7 (columns 37 39 l.1)))
    (λ c hc. bind (λ _. Unit {0}) IsAtomLine _ _ (any_given l.0 (number_in 999 (columns 43 45 l.1)))
    (λ h hh. bind (λ n. n ≤ 15) IsAtomLine _ _ (given-is (λ n. n ≤ 15) l.0 (number_in 15 (columns 49 51 l.1))
    (number-most 15 (columns 49 51 l.1)))
    (λ v hv. fine IsAtomLine _ (record { number = he.0; isotope = he.1; charge = hc; valence = hv })))))))

-- what each line gives
abbrev AllOf : {A : Type 0} → (A → Type 0) → ℕ → List A → Type 0
AllOf P n xs = AllByRecursion P xs × (length xs ≡ n)

each-is : {A : Type 0} → (P : A → Type 0) (read : Line → Result A MolfileFault)
    → ((l : Line) → Gives A P (read l)) → (lines : List Line)
    → Gives (List A) (AllOf P (length lines)) (each read lines)
each-is P read h [] = fine (AllOf P 0) [] (tt, refl)
each-is P read h (l ∷ ls) =
    bind P (AllOf P (length (l ∷ ls))) (read l) (λ x. each read ls >>= λ xs. Ok (x ∷ xs)) (h l) (λ x hx.
    bind (AllOf P (length ls)) (AllOf P (length (l ∷ ls))) (each read ls) (λ xs. Ok (x ∷ xs)) (each-is P read h ls)
    (λ xs hs. fine (AllOf P (length (l ∷ ls))) (x ∷ xs) ((hx, hs.0), (let e = hs.1 in omega arith))))

-- bond lines
is_atom-parts : (atoms n : ℕ) → is_atom atoms n ≡ true → (0 < n) × (n ≤ atoms)
is_atom-parts atoms n e = let p = both (nat_lt 0 n) (nat_le n atoms) e in (ltb-true 0 n p.0, leb-true n atoms p.1)

differ-parts : (a b : ℕ) → not (a == b) ≡ true → a ≡ b → ⊥
differ-parts a b e f = grind (arith, nat_tests)

kind-is : (n : ℕ) → IfSome (kind_of_type n) IsKind
kind-is n = grind (arith, nat_tests)

some_kind : (o : Option ℕ) → IfSome (option_and_then kind_of_type o) IsKind
some_kind o = then_gives (λ _. Unit {0}) IsKind kind_of_type o (any_some o) (λ n _. kind-is n)

joins-two : (atoms a b : ℕ) (kind : SketchKind) → IsKind kind
    → (is_atom atoms a && (is_atom atoms b && not (a == b))) ≡ true
    → JoinsTwo atoms (record { a = a - 1; b = b - 1; kind = kind })
joins-two atoms a b kind k e =
    let p = both (is_atom atoms a) (is_atom atoms b && not (a == b)) e in
    let q = both (is_atom atoms b) (not (a == b)) p.1 in
    let x = is_atom-parts atoms a p.0 in
    let y = is_atom-parts atoms b q.0 in
    let d = differ-parts a b q.1 in
    (omega arith, omega arith, (λ f. d (omega arith)), k)

bond_line-is : (atoms : ℕ) (l : Line) → Gives SketchBond (JoinsTwo atoms) (bond_line atoms l)
unfolding bond_line
bond_line-is atoms l =
    let P = JoinsTwo atoms in
    branch P (is_query_bond l.1) (Err (Query l.0)) _ (λ _. refused SketchBond P (Query l.0)) (λ _.
    bind (λ _. Unit {0}) P _ _ (any_given l.0 (number_in 999 (columns 1 3 l.1)))
    (λ a _. bind (λ _. Unit {0}) P _ _ (any_given l.0 (number_in 999 (columns 4 6 l.1)))
    (λ b _. bind IsKind P _ _ (given-is IsKind l.0 (option_and_then kind_of_type (number_in 999 (columns 7 9 l.1)))
    (some_kind (number_in 999 (columns 7 9 l.1))))
    (λ k hk. bind (λ _. Unit {0}) P _ _ (any_given l.0 (number_in 999 (columns 16 18 l.1)))
    (λ t _. branch P (is_atom atoms a && (is_atom atoms b && not (a == b)))
    (Ok (record { a = a - 1; b = b - 1; kind = k })) (Err (Bond l.0))
    (λ e. fine P _ (joins-two atoms a b k hk e)) (λ _. refused SketchBond P (Bond l.0)))))))

abbrev IsNew : ℕ → List SketchBond → SketchBond → Type 0
IsNew atoms before b = JoinsTwo atoms b × (are_joined before b.a b.b ≡ false)

bond-is : (atoms : ℕ) (before : List SketchBond) (l : Line)
    → Gives SketchBond (IsNew atoms before) (bond_read atoms before l)
bond-is atoms before l =
    bind (JoinsTwo atoms) (IsNew atoms before) (bond_line atoms l) _ (bond_line-is atoms l) (λ b hb.
    branch (IsNew atoms before) (are_joined before b.a b.b) (Err (Bond l.0)) (Ok b)
    (λ _. refused SketchBond (IsNew atoms before) (Bond l.0)) (λ e. fine (IsNew atoms before) b (hb, e)))

abbrev AreBonds : ℕ → ℕ → List SketchBond → Type 0
AreBonds atoms most bonds = AreBondsAmong atoms bonds × (length bonds ≤ most)

bonds-are : (atoms most : ℕ) (before : List SketchBond) (lines : List Line) → AreBondsAmong atoms before
    → length before + length lines ≤ most → Gives (List SketchBond) (AreBonds atoms most) (bonds_read atoms before lines)
bonds-are atoms most before [] h le = fine (AreBonds atoms most) before (h, omega arith)
bonds-are atoms most before (l ∷ ls) h le =
    bind (IsNew atoms before) (AreBonds atoms most) (bond_read atoms before l)
    (λ b. bonds_read atoms (before ++ b ∷ []) ls) (bond-is atoms before l) (λ b hb.
    bonds-are atoms most (before ++ b ∷ []) ls
    (all_push (JoinsTwo atoms) before b h.0 hb.0, once_push before b h.1 hb.1)
    (let e = length-append before (b ∷ []) in omega arith))

-- property lines
value-is : (tag : Tag) (word : List ℕ) → IfSome (value_in tag word) IsValue
value-is tags.Charge word = map_gives IsCharge IsValue (λ n. Charge n) (signed_in 15 word) (signed-most word) (λ n h. h)
value-is tags.Radical word =
    map_gives (λ _. Unit {0}) IsValue (λ n. Radical (electrons_of n)) (decimal_in 3 word) (any_some (decimal_in 3 word))
    (λ n _. few n)
  where
    few : (n : ℕ) → electrons_of n ≤ 2
    few n = grind (arith, nat_tests)
value-is tags.Isotope word =
    map_gives (λ n. n ≤ 999) IsValue (λ n. Isotope n) (decimal_in 999 word) (decimal-most 999 word) (λ n h. h)

place-is : (atoms : ℕ) (word : List ℕ) → IfSome (place_in atoms word) (λ a. a < atoms)
place-is atoms word =
    then_gives (λ _. Unit {0}) (λ a. a < atoms) (place_of atoms) (decimal_in 999 word)
    (any_some (decimal_in 999 word)) (λ n _. some_if (λ a. a < atoms) (is_atom atoms n) (Some (n - 1)) None
    (λ e. let p = is_atom-parts atoms n e in omega arith) (λ _. tt))

setting-is : (tag : Tag) (atoms : ℕ) (atom value : List ℕ) → IfSome (setting_in tag atoms atom value) (IsSetting atoms)
setting-is tag atoms atom value =
    then_gives (λ a. a < atoms) (IsSetting atoms)
    (λ a. option_map (λ v. (let s : Setting = record { atom = a; value = v } in s)) (value_in tag value))
    (place_in atoms atom) (place-is atoms atom) (λ a ha.
    map_gives IsValue (IsSetting atoms) (λ v. (let s : Setting = record { atom = a; value = v } in s))
    (value_in tag value) (value-is tag value) (λ v hv. (ha, hv)))

abbrev FirstIs : ℕ → Setting × List (List ℕ) → Type 0
FirstIs atoms p = IsSetting atoms p.0

at-is : (tag : Tag) (atoms : ℕ) (ws : List (List ℕ)) → IfSome (setting_at tag atoms ws) (FirstIs atoms)
at-is tag atoms [] = tt
at-is tag atoms (w ∷ []) = tt
at-is tag atoms (w ∷ v ∷ ws) =
    map_gives (IsSetting atoms) (FirstIs atoms) (λ s. (s, ws)) (setting_in tag atoms w v) (setting-is tag atoms w v)
    (λ s h. h)

abbrev AreSettings : ℕ → List Setting → Type 0
AreSettings atoms settings = AllByRecursion (IsSetting atoms) settings

nothing-is : (atoms : ℕ) (ws : List (List ℕ)) → IfSome (nothing_in ws) (AreSettings atoms)
nothing-is atoms [] = tt
nothing-is atoms (w ∷ ws) = tt

pairs-are : (tag : Tag) (atoms n : ℕ) (ws : List (List ℕ)) → IfSome (pairs_in tag atoms n ws) (AreSettings atoms)
pairs-are tag atoms zero ws = nothing-is atoms ws
pairs-are tag atoms (suc n) ws =
    then_gives (FirstIs atoms) (AreSettings atoms)
    (λ p. option_map (λ others. p.0 ∷ others) (pairs_in tag atoms n p.1)) (setting_at tag atoms ws) (at-is tag atoms ws)
    (λ p hp. map_gives (AreSettings atoms) (AreSettings atoms) (λ others. p.0 ∷ others) (pairs_in tag atoms n p.1)
    (pairs-are tag atoms n p.1) (λ others h. (hp, h)))

tagged-are : (atoms : ℕ) (l : Line) (tag : Option Tag) → Gives (List Setting) (AreSettings atoms) (tagged atoms l tag)
tagged-are atoms l None =
    let P = AreSettings atoms in
    branch P (is_query_line l.1) (Err (Query l.0)) _ (λ _. refused (List Setting) P (Query l.0)) (λ _.
    branch P (is_passed_over l.1) (Ok []) (Err (Columns l.0)) (λ _. fine P [] tt)
    (λ _. refused (List Setting) P (Columns l.0)))
tagged-are atoms l (Some tag) =
    let ws = words (drop 6 l.1) in
    given-is (AreSettings atoms) l.0 (counted_pairs tag atoms ws)
    (then_gives (λ _. Unit {0}) (AreSettings atoms) (λ c. pairs_in tag atoms c.0 c.1) (count_at ws)
    (any_some (count_at ws)) (λ c _. pairs-are tag atoms c.0 c.1))

settings-are : (atoms : ℕ) (lines : List Line) → Gives (List Setting) (AreSettings atoms) (settings_read atoms lines)
settings-are atoms [] = fine (AreSettings atoms) [] tt
settings-are atoms (l ∷ ls) =
    let P = AreSettings atoms in
    bind P P (property_read atoms l) (λ xs. settings_read atoms ls >>= λ ys. Ok (xs ++ ys))
    (tagged-are atoms l (tag_of l.1)) (λ xs hx.
    bind P P (settings_read atoms ls) (λ ys. Ok (xs ++ ys)) (settings-are atoms ls) (λ ys hy.
    fine P (xs ++ ys) (all_append (IsSetting atoms) xs ys hx hy)))

-- the whole
abbrev IsDrawing : SketchTerm → Type 0
IsDrawing s = AreAtoms s.atoms × AreBondsAmong (length s.atoms) s.bonds × (length s.bonds ≤ 999)

end-there : (lines : List Line) → is_ended false lines ≡ true → 0 < length lines
end-there [] e = absurd (cc)
end-there (l ∷ ls) e = omega arith

end-is : (counts : Counts) (atoms : List AtomLine) (bonds : List SketchBond) (on : List Line) → AreCounts counts
    → AllByRecursion IsAtomLine atoms → AreBonds counts.atoms 999 bonds → (0 < length on → length atoms ≡ counts.atoms)
    → Gives SketchTerm IsDrawing (end_of counts atoms bonds on)
end-is counts atoms bonds on few lines among long =
    bind (AreSettings counts.atoms) IsDrawing (settings_read counts.atoms (property_lines false on)) _
    (settings-are counts.atoms (property_lines false on)) (λ settings within.
    branch IsDrawing (not (is_ended false on)) (Err Cut) _ (λ _. refused SketchTerm IsDrawing Cut) (λ e.
    bind (λ _. Unit {0}) IsDrawing (masses_read atoms settings) _ (any_result (masses_read atoms settings)) (λ u _.
    fine IsDrawing (record { atoms = sketch_atoms settings atoms; bonds = bonds })
    (let n = long (end-there on (ended (is_ended false on) e)) in
    let le = few.0 in
    let same = length-sketch_atoms settings atoms in (
      are_atoms counts.atoms settings atoms within lines (omega arith),
      (
        moved counts.atoms (length (sketch_atoms settings atoms)) bonds (omega arith) among.0.0,
        among.0.1,
      ),
      among.1,
    )))))
  where
    any_result : {A : Type 0} → (r : Result A MolfileFault) → Gives A (λ _. Unit {0}) r
    any_result (Ok x) = record { gives = tt }
    any_result (Err e) = record { gives = tt }

    ended : (b : Bool) → not b ≡ false → b ≡ true
    ended true e = refl
    ended false e = absurd (cc)

    moved : (n m : ℕ) (bs : List SketchBond) → n ≡ m → AllByRecursion (JoinsTwo n) bs → AllByRecursion (JoinsTwo m) bs
    moved n m [] e h = tt
    moved n m (b ∷ bs) e h =
        let p = h.0.0 in
        let q = h.0.1 in
        ((omega arith, omega arith, h.0.2, h.0.3), moved n m bs e h.1)

drawn-is : (lines : List Line) → Gives SketchTerm IsDrawing (drawn lines)
unfolding drawn
drawn-is lines =
    bind AreCounts IsDrawing (first_counts (drop 3 lines)) (λ counts. atoms_of counts (drop 4 lines))
    (first-counts (drop 3 lines)) (λ counts few.
    let block = drop 4 lines in
    let bonds_on = drop counts.atoms block in
    let on = drop counts.bonds bonds_on in
    bind (AllOf IsAtomLine (length (take counts.atoms block))) IsDrawing (each atom_read (take counts.atoms block))
    (λ atoms. bonds_of counts atoms bonds_on) (each-is IsAtomLine atom_read atom-is (take counts.atoms block))
    (λ atoms ha.
    bind (AreBonds counts.atoms 999) IsDrawing (bonds_read counts.atoms [] (take counts.bonds bonds_on))
    (λ bonds. end_of counts atoms bonds on)
    (bonds-are counts.atoms 999 [] (take counts.bonds bonds_on) (tt, tt)
    (let l = length-take counts.bonds bonds_on in let k = few.1 in omega arith)) (λ bonds hb.
    end-is counts atoms bonds on few ha.0 hb (λ some.
    let a = length-drop counts.atoms block in
    let b = length-drop counts.bonds bonds_on in
    let t = length-take counts.atoms block in
    let e = ha.1 in omega arith))))

drawing : (text : List ℕ) (s : SketchTerm) → IsReading text (Ok s) → IsDrawing s
drawing text s h = IfOk-at_ok IsDrawing h.1 (drawn-is (numbered_lines text)).gives

pub sound : (text : List ℕ) (s : SketchTerm) → IsReading text (Ok s) → IsSound s
sound text s h =
    let d = drawing text s h in
    sound_sketch s.atoms s.bonds d.1 d.0.0 d.0.2 d.2 h.2

pub few_hydrogens : (text : List ℕ) (s : SketchTerm) → IsReading text (Ok s) → All (λ a. a.hydrogens ≤ 9) s.atoms
few_hydrogens text s h = (drawing text s h).0.1

pub no_aromatic_mark : (text : List ℕ) (s : SketchTerm) → IsReading text (Ok s) → HasNoAromaticMark s
no_aromatic_mark text s h =
    let d = drawing text s h in
    record { atoms = d.0.3; bonds = no_colons (length s.atoms) s.bonds d.1.0 }
