-- What holds of all recursive parts, by the trees after which their parentheses close.
use Rattle.std.proofs.Common.{◌≡◌, ℕ, ◌+◌, ◌≤◌, Bool, true, false, ◌||◌, List, [], ◌∷◌, ◌++◌, length, reverse, refl, sym, ◌∙◌, ap, subst, arith}
use Rattle.std.proofs.Math.Bool.{or-false}
use Rattle.std.proofs.lemmas.List.{length-append, reverse-append}
use Rattle.std.proofs.lemmas.List.Folds.{list_any-append}
use Rattle.std.specs.List.{list_any, AllByRecursion}
use Rattle.line_walk.specs.Places.{placed_nodes}
use Rattle.smarts_words.specs.Bracket.{AtomValue}
use Rattle.smarts_parse.specs.Whole.{Tree, Parts, none, part, tree_atoms, parts_atoms, count_of}
use Rattle.smarts_parse.specs.Reading.{is_stereo, DoPair, DoPartsPair}
use Rattle.smarts_parse.specs.Draft.{Read, join, Close, AreRead}
use Rattle.smarts_parse.specs.Build.{AreFit}
use Rattle.smarts_parse.proofs.Parts.{count-join, atoms-join, pair-join}
use Rattle.smarts_parse.proofs.Joined.{pair_both}

-- a part and then others
or_moved : (q t r : Bool) → (q || (t || (r || false))) ≡ (t || (q || r))
or_moved true true r = refl
or_moved true false r = refl
or_moved false true r = refl
or_moved false false true = refl
or_moved false false false = refl

any_moved : (P : AtomValue → Bool) (q r : Parts) (tree : Tree)
    → list_any P (parts_atoms (join q (part tree r none)))
    ≡ (list_any P (tree_atoms tree) || list_any P (parts_atoms (join q r)))
any_moved P q r tree =
    let one = parts_atoms (part tree r none) in
    let e : list_any P (parts_atoms (join q (part tree r none)))
    ≡ (list_any P (parts_atoms q) || (list_any P (tree_atoms tree) || (list_any P (parts_atoms r) || false))) =
    ap (list_any P) (atoms-join q (part tree r none)) ∙ list_any-append P (parts_atoms q) one
    ∙ ap (λ v. list_any P (parts_atoms q) || v) (list_any-append P (tree_atoms tree) (parts_atoms r ++ [])
    ∙ ap (λ v. list_any P (tree_atoms tree) || v) (list_any-append P (parts_atoms r) [])) in
    let f : list_any P (parts_atoms (join q r)) ≡ (list_any P (parts_atoms q) || list_any P (parts_atoms r)) = ap
    (list_any P) (atoms-join q r) ∙ list_any-append P (parts_atoms q) (parts_atoms r) in
    e ∙ or_moved (list_any P (parts_atoms q)) (list_any P (tree_atoms tree)) (list_any P (parts_atoms r))
    ∙ ap (λ v. list_any P (tree_atoms tree) || v) (sym f)

or_swap : (t j a : Bool) → ((t || j) || a) ≡ (j || (t || a))
or_swap true true a = refl
or_swap true false a = refl
or_swap false true a = refl
or_swap false false a = refl

pub any_closed : (P : AtomValue → Bool) (p : Parts) (trees : List Tree) (all : Parts) → Close p trees all
    → list_any P (parts_atoms all) ≡ (list_any P (parts_atoms p) || list_any (λ t. list_any P (tree_atoms t)) trees)
any_closed P p [] all e = ap (λ v. list_any P (parts_atoms v)) (sym e) ∙ sym (or-false (list_any P (parts_atoms p)))
any_closed P p (tree ∷ trees) all c =
    let q = c.0 in
    let r = c.1 in
    let others = list_any (λ t. list_any P (tree_atoms t)) trees in
    let mine = list_any P (tree_atoms tree) in
    any_closed P (join q (part tree r none)) trees all c.4
    ∙ ap (λ v. v || others) (any_moved P q r tree)
    ∙ or_swap mine (list_any P (parts_atoms (join q r))) others
    ∙ ap (λ v. list_any P (parts_atoms v) || (mine || others)) (sym c.2)

pub count_closed : (p : Parts) (trees : List Tree) (all : Parts) → Close p trees all
    → count_of p + length trees ≡ count_of all
count_closed p [] all e = let k = ap count_of e in omega arith
count_closed p (tree ∷ trees) all c =
    let k = ap count_of c.2 in
    let h = count_closed (join c.0 (part tree c.1 none)) trees all c.4 in
    omega (arith, count-join c.0 c.1, count-join c.0 (part tree c.1 none))

few_closed : (p : Parts) (trees : List Tree) (all : Parts) → Close p trees all
    → (length (parts_atoms p) ≤ length (parts_atoms all))
    × AllByRecursion (λ t. length (tree_atoms t) ≤ length (parts_atoms all)) trees
few_closed p [] all e = let k = ap (λ v. length (parts_atoms v)) e in (omega arith, tt)
few_closed p (tree ∷ trees) all c =
    let q = c.0 in
    let r = c.1 in
    let h = few_closed (join q (part tree r none)) trees all c.4 in
    let few = h.0 in
    let k = ap (λ v. length (parts_atoms v)) c.2 in
    let a = ap length (atoms-join q r) ∙ length-append (parts_atoms q) (parts_atoms r) in
    let b = ap length (atoms-join q (part tree r none)) ∙ length-append (parts_atoms q) (parts_atoms (part tree r none))
    in
    let d = length-append (tree_atoms tree) (parts_atoms r ++ []) in
    let e = length-append (parts_atoms r) [] in
    (omega arith, (omega arith, h.1))

-- each tree is fit where all parts are
pub neither : (a b : Bool) → (a || b) ≡ false → (a ≡ false) × (b ≡ false)
neither true b h = absurd (cc)
neither false b h = (refl, h)

all_fit : (n : ℕ) → n ≤ 256 → (trees : List Tree)
    → list_any (λ t. list_any (λ a. list_any is_stereo a.steps) (tree_atoms t)) trees ≡ false
    → AllByRecursion (λ t. length (tree_atoms t) ≤ n) trees → AllByRecursion (λ t. AreFit (tree_atoms t)) trees
all_fit n l [] e h = tt
all_fit n l (tree ∷ trees) e h =
    let k = neither _ _ e in
    let few = h.0 in
    (record { plain = k.0; few = omega arith }, all_fit n l trees k.1 h.1)

pub fit_closed : (trees : List Tree) (all : Parts) → Close none trees all → AreFit (parts_atoms all)
    → AllByRecursion (λ t. AreFit (tree_atoms t)) trees
fit_closed trees all c h =
    let P : AtomValue → Bool = λ a. list_any is_stereo a.steps in
    all_fit (length (parts_atoms all)) h.few trees (sym (any_closed P none trees all c) ∙ h.plain)
    (few_closed none trees all c).1

-- ring numbers
pub pair_closed : (p : Parts) (trees : List Tree) (all : Parts) → Close p trees all → DoPartsPair all
    → DoPartsPair p × AllByRecursion (λ t. DoPair (placed_nodes t)) trees
pair_closed p [] all e h = let F : Parts → Type 0 = λ v. DoPartsPair v in (subst F (sym e) h, tt)
pair_closed p (tree ∷ trees) all c h =
    let F : Parts → Type 0 = λ v. DoPartsPair v in
    let k = pair_closed (join c.0 (part tree c.1 none)) trees all c.4 h in
    let v = pair-join c.0 (part tree c.1 none) k.0 in
    (subst F (sym c.2) (pair_both c.0 c.1 v.0 v.1.1), (v.1.0, k.1))

pub pair_open : (p : Parts) (trees : List Tree) (all : Parts) → Close p trees all → DoPartsPair p
    → AllByRecursion (λ t. DoPair (placed_nodes t)) trees → DoPartsPair all
pair_open p [] all e h k = let F : Parts → Type 0 = λ v. DoPartsPair v in subst F e h
pair_open p (tree ∷ trees) all c h k =
    let F : Parts → Type 0 = λ v. DoPartsPair v in
    let v = pair-join c.0 c.1 (subst F c.2 h) in
    pair_open (join c.0 (part tree c.1 none)) trees all c.4 (pair_both c.0 (part tree c.1 none) v.0 (k.0, v.1, tt)) k.1

-- what is so of an atom of the readers
any_held : (P : AtomValue → Bool) (trees : List Tree) (readers : List Read) → AreRead trees readers
    → list_any (λ t. list_any P (tree_atoms t)) trees ≡ list_any (λ r. list_any P r.atoms.items) readers
any_held P [] [] h = refl
any_held P [] (r ∷ readers) h = absurd h
any_held P (tree ∷ trees) [] h = absurd h
any_held P (tree ∷ trees) (r ∷ readers) h =
    ap (λ v. list_any P v || list_any (λ t. list_any P (tree_atoms t)) trees) (sym h.0.atoms)
    ∙ ap (λ v. list_any P r.atoms.items || v) (any_held P trees readers h.1)

or_turned : (a b : Bool) → (a || b) ≡ (b || a)
or_turned true true = refl
or_turned true false = refl
or_turned false true = refl
or_turned false false = refl

any_reversed : (f : Read → Bool) (xs : List Read) → list_any f (reverse xs) ≡ list_any f xs
any_reversed f [] = refl
any_reversed f (x ∷ xs) =
    ap (list_any f) (reverse-append (x ∷ []) xs) ∙ list_any-append f (reverse xs) (x ∷ [])
    ∙ or_turned (list_any f (reverse xs)) (f x || false) ∙ ap (λ v. v || list_any f (reverse xs)) (or-false (f x))
    ∙ ap (λ v. f x || v) (any_reversed f xs)

pub any_read : (P : AtomValue → Bool) (trees : List Tree) (all : Parts) (readers : List Read) → Close none trees all
    → AreRead trees (reverse readers)
    → list_any P (parts_atoms all) ≡ list_any (λ r. list_any P r.atoms.items) readers
any_read P trees all readers c h =
    any_closed P none trees all c ∙ any_held P trees (reverse readers) h
    ∙ any_reversed (λ r. list_any P r.atoms.items) readers
