-- Those of some records that a pattern matches, with more records behind them.
use Rattle.std.proofs.Common.{◌≡◌, ◌↔◌, ◌+◌, ◌++◌, ◌<◌, ◌≤◌, ◌∙◌, ap, append-nil, append_assoc, arith, Bool, false, get_or, inl, inr, length, List, [], ◌∷◌, map, refl, subst, sym, take, true, ℕ}
use Rattle.std.proofs.lemmas.List.{map_more}
use Rattle.std.specs.Arc.{arc_value}
use Rattle.chem_core.specs.Molecule.{Molecule}
use Rattle.mol_finish.specs.Structure.{HasMolecule}
use Rattle.mol_finish.specs.declared.fault.Format.{Format}
use Rattle.smarts_parse.specs.Embedding.{Matches}
use Rattle.smarts_parse.specs.Pattern.{PatternTerm}
use Rattle.store_machine.specs.Answers.{AreMatched}
use Rattle.store_machine.specs.Structures.{IsMatched}
use Rattle.store_machine.specs.declared.machine.Found.{Found}
use Rattle.store_core.specs.Records.{IsRecord, RecordTerm, Shared, found_of, founds}
use Rattle.par_search.specs.Flags.{AreFlags}
use Rattle.par_search.proofs.Flagged.{flag-at}

-- a text has one structure
abbrev pub OneStructure : Type 0
OneStructure = (format : Format) (text : List ℕ) (m n : Molecule) → HasMolecule format text m
    → HasMolecule format text n → m ≡ n

pub matched-append : (p : PatternTerm) (xs ys : List Found) (hits more : List ℕ)
    → AreMatched p xs hits → AreMatched p ys more → AreMatched p (xs ++ ys) (hits ++ more)
matched-append p [] ys hits more m n = subst (λ (l : List ℕ). AreMatched p ys (l ++ more)) (sym m) n
matched-append p (x ∷ xs) ys hits more (inl m) n =
    inl (m.0, m.1 ++ more, ap (λ l. l ++ more) m.2, matched-append p xs ys m.1 more m.3 n)
matched-append p (x ∷ xs) ys hits more (inr m) n = inr (m.0, matched-append p xs ys hits more m.1 n)

-- no more are matched than there are
pub matched_few : (p : PatternTerm) (records : List Found) (hits : List ℕ) → AreMatched p records hits
    → length hits ≤ length records
matched_few p [] hits m = omega (arith, ap length m)
matched_few p (r ∷ rs) hits (inl m) = let k = matched_few p rs m.1 m.3 in omega (arith, k, ap length m.2)
matched_few p (r ∷ rs) hits (inr m) = let k = matched_few p rs hits m.1 in omega (arith, k)

-- one record more, which is matched
pub put-on : OneStructure → (p : PatternTerm) (xs : List Found) (r : RecordTerm) (hits : List ℕ) (flag : Bool)
    → IsRecord r → ((flag ≡ true) ↔ Matches p r.mol) → flag ≡ true → AreMatched p xs hits
    → AreMatched p (xs ++ found_of r ∷ []) (hits ++ r.id ∷ [])
put-on one p xs r hits flag sound is set m =
    matched-append p xs (found_of r ∷ []) hits (r.id ∷ []) m (inl ((r.mol, sound.structure, is.0 set), [], refl, refl))

-- or which is not
pub passed-by : OneStructure → (p : PatternTerm) (xs : List Found) (r : RecordTerm) (hits : List ℕ) (flag : Bool)
    → IsRecord r → ((flag ≡ true) ↔ Matches p r.mol) → flag ≡ false → AreMatched p xs hits
    → AreMatched p (xs ++ found_of r ∷ []) hits
passed-by one p xs r hits flag sound is set m =
    let none : IsMatched p r.format r.text → ⊥ = λ other.
    let same : other.0 ≡ r.mol = one r.format r.text other.0 r.mol other.1 sound.structure in
    let yes : flag ≡ true = is.1 (subst (Matches p) same other.2) in
    cc in
    subst (λ l. AreMatched p (xs ++ found_of r ∷ []) l) (append-nil hits)
    (matched-append p xs (found_of r ∷ []) hits [] m (inr (none, refl)))

-- one record more of a piece
founds-more : (before : List Found) (piece : List Shared) (i : ℕ) (r : Shared) → i < length piece → r ≡ get_or piece i r
    → (before ++ founds (take i piece)) ++ found_of (arc_value r) ∷ [] ≡ before ++ founds (take (i + 1) piece)
founds-more before piece i r less is =
    let f : Shared → Found = λ x. found_of (arc_value x) in
    let more : founds (take (i + 1) piece) ≡ founds (take i piece) ++ f r ∷ [] =
    map_more f piece i r less ∙ ap (λ x. map f (take i piece) ++ f x ∷ []) (sym is) in
    append_assoc before (founds (take i piece)) (f r ∷ []) ∙ ap (λ l. before ++ l) (sym more)

flag-of : (p : PatternTerm) (piece : List Shared) (flags : List Bool) (i : ℕ) (r : Shared) (flag : Bool)
    → i < length piece → r ≡ get_or piece i r → AreFlags p piece flags → flag ≡ get_or flags i false
    → (flag ≡ true) ↔ Matches p (arc_value r).mol
flag-of p piece flags i r flag less is all f =
    let here : (get_or flags i false ≡ true) ↔ Matches p (arc_value r).mol =
    subst (λ (x : Shared). (get_or flags i false ≡ true) ↔ Matches p (arc_value x).mol) (sym is)
    (flag-at p piece flags i r all less) in
    subst (λ b. (b ≡ true) ↔ Matches p (arc_value r).mol) (sym f) here

pub hit-by : OneStructure
    → (p : PatternTerm) (before : List Found) (piece : List Shared) (i : ℕ) (r : Shared) (flag : Bool) (id : ℕ)
    (hits new : List ℕ)
    → i < length piece → r ≡ get_or piece i r → ((flag ≡ true) ↔ Matches p (arc_value r).mol) → flag ≡ true
    → IsRecord (arc_value r) → id ≡ (arc_value r).id
    → new ≡ hits ++ id ∷ [] → AreMatched p (before ++ founds (take i piece)) hits
    → AreMatched p (before ++ founds (take (i + 1) piece)) new
hit-by one p before piece i r flag id hits new less is right set sound same e m =
    let put : AreMatched p ((before ++ founds (take i piece)) ++ found_of (arc_value r) ∷ [])
    (hits ++ (arc_value r).id ∷ []) =
    put-on one p (before ++ founds (take i piece)) (arc_value r) hits flag sound right set m in
    let here : AreMatched p (before ++ founds (take (i + 1) piece)) (hits ++ (arc_value r).id ∷ []) =
    subst (λ l. AreMatched p l (hits ++ (arc_value r).id ∷ [])) (founds-more before piece i r less is) put in
    subst (λ l. AreMatched p (before ++ founds (take (i + 1) piece)) l) (sym (e ∙ ap (λ n. hits ++ n ∷ []) same)) here

pub no-hit-by : OneStructure
    → (p : PatternTerm) (before : List Found) (piece : List Shared) (i : ℕ) (r : Shared) (flag : Bool) (hits : List ℕ)
    → i < length piece → r ≡ get_or piece i r → ((flag ≡ true) ↔ Matches p (arc_value r).mol) → flag ≡ false
    → IsRecord (arc_value r)
    → AreMatched p (before ++ founds (take i piece)) hits → AreMatched p (before ++ founds (take (i + 1) piece)) hits
no-hit-by one p before piece i r flag hits less is right unset sound m =
    subst (λ l. AreMatched p l hits) (founds-more before piece i r less is)
    (passed-by one p (before ++ founds (take i piece)) (arc_value r) hits flag sound right unset m)

pub hit : OneStructure
    → (p : PatternTerm) (before : List Found) (piece : List Shared) (flags : List Bool) (i : ℕ) (r : Shared)
    (flag : Bool) (id : ℕ) (hits new : List ℕ)
    → i < length piece → r ≡ get_or piece i r → AreFlags p piece flags → flag ≡ get_or flags i false → flag ≡ true
    → IsRecord (arc_value r) → id ≡ (arc_value r).id
    → new ≡ hits ++ id ∷ [] → AreMatched p (before ++ founds (take i piece)) hits
    → AreMatched p (before ++ founds (take (i + 1) piece)) new
hit one p before piece flags i r flag id hits new less is all f set sound same e m =
    hit-by one p before piece i r flag id hits new less is (flag-of p piece flags i r flag less is all f) set sound same
    e m

pub no-hit : OneStructure
    → (p : PatternTerm) (before : List Found) (piece : List Shared) (flags : List Bool) (i : ℕ) (r : Shared)
    (flag : Bool) (hits : List ℕ)
    → i < length piece → r ≡ get_or piece i r → AreFlags p piece flags → flag ≡ get_or flags i false → flag ≡ false
    → IsRecord (arc_value r)
    → AreMatched p (before ++ founds (take i piece)) hits → AreMatched p (before ++ founds (take (i + 1) piece)) hits
no-hit one p before piece flags i r flag hits less is all f unset sound m =
    no-hit-by one p before piece i r flag hits less is (flag-of p piece flags i r flag less is all f) unset sound m
