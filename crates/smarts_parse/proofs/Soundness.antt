-- The pattern of a text within limits is sound.
use Rattle.std.proofs.Common.{◌≡◌, ◌≢◌, ◌⊎◌, inl, inr, ℕ, zero, suc, ◌+◌, ◌<◌, ◌≤◌, List, [], ◌∷◌, ◌++◌, length, map, drop, sum_by, slice_get, Option, None, Some, refl, sym, ◌∙◌, ap, subst, arith, length-append, length-drop}
use Rattle.std.proofs.lemmas.List.{length-map, length-replicate}
use Rattle.std.proofs.lemmas.List.Sums.{sum_by-cons, sum_by-append}
use Rattle.std.proofs.lemmas.List.Elements.{All-from_recursion}
use Rattle.std.specs.List.{AllByRecursion}
use Rattle.chem_core.specs.Graph.{Ends, JoinsAt}
use Rattle.line_walk.specs.Places.{placed_nodes, atoms_by}
use Rattle.line_walk.specs.Partners.{JoinSame, AreOnce}
use Rattle.line_walk.specs.declared.pairs.Link.{Link}
use Rattle.smarts_words.specs.declared.word.Step.{Step}
use Rattle.smarts_words.specs.declared.word.Step.TheVariants as steps
use Rattle.smarts_words.specs.declared.word.AtomWord.{AtomWord}
use Rattle.smarts_words.specs.declared.word.AtomWord.TheVariants as words
use Rattle.smarts_words.specs.declared.word.Letter.{Letter}
use Rattle.smarts_words.specs.declared.word.Letter.TheVariants as letters
use Rattle.smarts_words.specs.declared.word.BondWord.{BondWord}
use Rattle.smarts_words.specs.Bracket.{AtomValue}
use Rattle.smarts_words.specs.Words.{smarts_words}
use Rattle.smarts_parse.specs.declared.pattern.AtomPrim.{AtomPrim}
use Rattle.smarts_parse.specs.Pattern.{Term, Prim, Not, And, Or, BondTerm, GraphTerm, PatternTerm}
use Rattle.smarts_parse.specs.Whole.{Nodes, Parts, none, part, part_texts, tree_atoms, AreParts, parts_atoms, Whole, IsWholeOf, nodes_of, top_atoms, count_of}
use Rattle.smarts_parse.specs.Meaning.{postfix, count_prim, atom_steps, atoms_steps, IsBondTerm, AreBondTerms, for_each, groups_of, IsGraphTerm, numbers_from, ArePartTerms, IsPatternOf}
use Rattle.smarts_parse.specs.Reading.{IsWithinLimits}
use Rattle.smarts_parse.specs.Sound.{pattern_ends, PrimNamesBelow, NamesBelow, IsSoundGraph, IsSoundPattern}
use Rattle.smarts_parse.specs.Steps.{part_count, parts_in, IsValue}
use Rattle.smarts_parse.proofs.Links.{Below, ends_all, nodes_below, placed_below}
use Rattle.smarts_parse.proofs.Parts.{terms_count, numbers_count, plain_step, steps_plain}
use Rattle.smarts_parse.proofs.Building.{values_all}
use Rattle.smarts_parse.proofs.ItemsRead.{groups_count}

-- what holds of two lists together holds of each
all_split : {X : Type 0} (Q : X → Type 0) (xs ys : List X) → AllByRecursion Q (xs ++ ys)
    → AllByRecursion Q xs × AllByRecursion Q ys
all_split Q [] ys h = (tt, h)
all_split Q (x ∷ xs) ys h = let e = all_split Q xs ys h.1 in ((h.0, e.0), e.1)

-- the names of recursive parts
abbrev StepBelow : ℕ → Step AtomPrim → Type 0
StepBelow n (steps.Prim p) = PrimNamesBelow n p
StepBelow n steps.Not = Unit {0}
StepBelow n steps.And = Unit {0}
StepBelow n steps.Or = Unit {0}

names_of : (n : ℕ) (e : Term AtomPrim) → AllByRecursion (StepBelow n) (postfix e) → NamesBelow n e
names_of n (Prim p) h = h.0
names_of n (Not e) h = names_of n e (all_split (StepBelow n) (postfix e) (steps.Not ∷ []) h).0
names_of n (And e f) h =
    let s = all_split (StepBelow n) (postfix e) (postfix f ++ steps.And ∷ []) h in
    (names_of n e s.0, names_of n f (all_split (StepBelow n) (postfix f) (steps.And ∷ []) s.1).0)
names_of n (Or e f) h =
    let s = all_split (StepBelow n) (postfix e) (postfix f ++ steps.Or ∷ []) h in
    (names_of n e s.0, names_of n f (all_split (StepBelow n) (postfix f) (steps.Or ∷ []) s.1).0)

names_all : (n : ℕ) (es : List (Term AtomPrim))
    → AllByRecursion (λ ss. AllByRecursion (StepBelow n) ss) (map postfix es) → AllByRecursion (NamesBelow n) es
names_all n [] h = tt
names_all n (e ∷ es) h = (names_of n e h.0, names_all n es h.1)

count_below : (n : ℕ) (letter : Letter) (number : Option ℕ) → PrimNamesBelow n (count_prim letter number)
count_below n letters.Degree number = tt
count_below n letters.TotalH number = tt
count_below n letters.ImplicitH number = tt
count_below n letters.Valence number = tt
count_below n letters.Connect number = tt
count_below n letters.RingBonds number = tt
count_below n letters.Rings None = tt
count_below n letters.Rings (Some k) = tt
count_below n letters.RingSize None = tt
count_below n letters.RingSize (Some zero) = tt
count_below n letters.RingSize (Some (suc k)) = tt

nil_below : (n : ℕ) (ns : List ℕ) → AllByRecursion (StepBelow n) (atom_steps ns [])
nil_below n [] = tt
nil_below n (k ∷ ns) = tt

-- a word that is no recursive part names none
word_below : (n : ℕ) (s : Step AtomWord) → part_count s ≡ 0 → StepBelow n (plain_step s)
word_below n (steps.Prim words.Part) h = absurd (omega arith)
word_below n (steps.Prim (words.Count letter number)) h = count_below n letter number
word_below n s h = tt

step_below : (n : ℕ) (ns : List ℕ) (s : Step AtomWord) (ss : List (Step AtomWord))
    → ((ns : List ℕ) → AllByRecursion (λ k. k < n) ns → parts_in ss ≤ length ns
    → AllByRecursion (StepBelow n) (atom_steps ns ss))
    → AllByRecursion (λ k. k < n) ns → parts_in (s ∷ ss) ≤ length ns
    → AllByRecursion (StepBelow n) (atom_steps ns (s ∷ ss))
step_below n [] (steps.Prim words.Part) ss more all h = absurd (omega arith)
step_below n (k ∷ ns) (steps.Prim words.Part) ss more all h = (all.0, more ns all.1 (omega arith))
step_below n ns s ss more all h =
    subst (λ (w : List (Step AtomPrim)). AllByRecursion (StepBelow n) w) (sym (steps_plain ns s ss refl))
    (word_below n s refl, more ns all (omega arith))

steps_below : (n : ℕ) (ns : List ℕ) (ss : List (Step AtomWord)) → AllByRecursion (λ k. k < n) ns
    → parts_in ss ≤ length ns → AllByRecursion (StepBelow n) (atom_steps ns ss)
steps_below n ns [] all h = nil_below n ns
steps_below n ns (s ∷ ss) all h = step_below n ns s ss (λ ms a b. steps_below n ms ss a b) all h

drop_below : (n k : ℕ) (ns : List ℕ) → AllByRecursion (λ k. k < n) ns → AllByRecursion (λ k. k < n) (drop k ns)
drop_below n zero [] all = tt
drop_below n (suc k) [] all = tt
drop_below n zero (m ∷ ns) all = all
drop_below n (suc k) (m ∷ ns) all = drop_below n k ns all.1

atoms_below : (n : ℕ) (ns : List ℕ) (values : List AtomValue) → AllByRecursion (λ k. k < n) ns
    → AllByRecursion IsValue values → length (part_texts values) ≤ length ns
    → AllByRecursion (λ ss. AllByRecursion (StepBelow n) ss) (atoms_steps ns values)
atoms_below n ns [] all are h = tt
atoms_below n ns (x ∷ values) all are h =
    let c = length-append x.parts (part_texts values) in
    let d = are.0.parts in
    let e = length-drop (length x.parts) ns in (
      steps_below n ns x.steps all (omega arith),
      atoms_below n (drop (length x.parts) ns) values
          (drop_below n (length x.parts) ns all) are.1 (omega arith),
    )

numbers_below : (n c : ℕ) (p : Parts) → n + count_of p ≤ c → AllByRecursion (λ k. k < c) (numbers_from n p)
numbers_below n c none h = tt
numbers_below n c (part tree inner others) h =
    (omega arith, numbers_below (n + count_of inner + 1) c others (omega arith))

-- the bonds of a graph, from those of the text
abbrev EndsIn : ℕ → (ℕ × ℕ) → Type 0
EndsIn c e = (e.0 < c) × (e.1 < c)

ends_in : (c : ℕ) (links : List (Link (List (Step BondWord)))) (bonds : List BondTerm) → AreBondTerms links bonds
    → AllByRecursion (λ x. (x.a < c) × (x.b < c)) links → AllByRecursion (EndsIn c) (map (λ b. (b.a, b.b)) bonds)
ends_in c [] [] are h = tt
ends_in c [] (b ∷ bonds) are h = absurd are
ends_in c (x ∷ links) [] are h = absurd are
ends_in c (x ∷ links) (b ∷ bonds) are h =
    let e = are.0.a in let f = are.0.b in let p = h.0.0 in let q = h.0.1 in
    ((omega arith, omega arith), ends_in c links bonds are.1 h.1)

ends_differ : (links : List (Link (List (Step BondWord)))) (bonds : List BondTerm) → AreBondTerms links bonds
    → AllByRecursion (λ x. x.a ≢ x.b) links → AllByRecursion (λ (e : ℕ × ℕ). e.0 ≢ e.1) (map (λ b. (b.a, b.b)) bonds)
ends_differ [] [] are h = tt
ends_differ [] (b ∷ bonds) are h = absurd are
ends_differ (x ∷ links) [] are h = absurd are
ends_differ (x ∷ links) (b ∷ bonds) are h = (λ e. h.0 (sym are.0.a ∙ e ∙ are.0.b), ends_differ links bonds are.1 h.1)

-- two bonds with ends of their own
abbrev Same : (ℕ × ℕ) → (ℕ × ℕ) → Type 0
Same e f = ((e.0 ≡ f.0) × (e.1 ≡ f.1)) ⊎ ((e.0 ≡ f.1) × (e.1 ≡ f.0))

abbrev Once : List (ℕ × ℕ) → Type 0
Once [] = Unit {0}
Once (e ∷ es) = AllByRecursion (λ f. ¬ Same e f) es × Once es

same_links : (x y : Link (List (Step BondWord))) (b c : BondTerm) → IsBondTerm x b → IsBondTerm y c
    → Same (b.a, b.b) (c.a, c.b) → JoinSame x y
same_links x y b c p q (inl h) = inl (sym p.a ∙ h.0 ∙ q.a, sym p.b ∙ h.1 ∙ q.b)
same_links x y b c p q (inr h) = inr (sym p.a ∙ h.0 ∙ q.b, sym p.b ∙ h.1 ∙ q.a)

apart_from : (x : Link (List (Step BondWord))) (b : BondTerm) → IsBondTerm x b
    → (links : List (Link (List (Step BondWord)))) (bonds : List BondTerm) → AreBondTerms links bonds
    → AllByRecursion (λ y. ¬ JoinSame x y) links
    → AllByRecursion (λ f. ¬ Same (b.a, b.b) f) (map (λ b. (b.a, b.b)) bonds)
apart_from x b is [] [] are h = tt
apart_from x b is [] (c ∷ bonds) are h = absurd are
apart_from x b is (y ∷ links) [] are h = absurd are
apart_from x b is (y ∷ links) (c ∷ bonds) are h =
    (λ s. h.0 (same_links x y b c is are.0 s), apart_from x b is links bonds are.1 h.1)

ends_once : (links : List (Link (List (Step BondWord)))) (bonds : List BondTerm) → AreBondTerms links bonds
    → AreOnce links → Once (map (λ b. (b.a, b.b)) bonds)
ends_once [] [] are h = tt
ends_once [] (b ∷ bonds) are h = absurd are
ends_once (x ∷ links) [] are h = absurd are
ends_once (x ∷ links) (b ∷ bonds) are h = (apart_from x b are.0 links bonds are.1 h.0, ends_once links bonds are.1 h.1)

-- such bonds join two atoms at one place alone
joined_same : (e f : ℕ × ℕ) (x y : ℕ) → (e ≡ (x, y)) ⊎ (e ≡ (y, x)) → (f ≡ (x, y)) ⊎ (f ≡ (y, x)) → Same e f
joined_same e f x y (inl h) (inl k) = inl (ap (λ p. p.0) (h ∙ sym k), ap (λ p. p.1) (h ∙ sym k))
joined_same e f x y (inl h) (inr k) = inr (
  ap (λ p. p.0) h ∙ sym (ap (λ p. p.1) k),
  ap (λ p. p.1) h
      ∙ sym (ap (λ p. p.0) k),
)
joined_same e f x y (inr h) (inl k) = inr (
  ap (λ p. p.0) h ∙ sym (ap (λ p. p.1) k),
  ap (λ p. p.1) h
      ∙ sym (ap (λ p. p.0) k),
)
joined_same e f x y (inr h) (inr k) = inl (ap (λ p. p.0) (h ∙ sym k), ap (λ p. p.1) (h ∙ sym k))

get_all : {X : Type 0} (Q : X → Type 0) (xs : List X) (i : ℕ) (x : X) → AllByRecursion Q xs → slice_get xs i ≡ Some x
    → Q x
get_all Q [] i x all e = absurd (cc)
get_all Q (y ∷ xs) zero x all e = let f : y ≡ x = cc in subst Q f all.0
get_all Q (y ∷ xs) (suc i) x all e = get_all Q xs i x all.1 e

one_found : (e f : ℕ × ℕ) → Some e ≡ Some f → e ≡ f
one_found e f h = cc

head_joined : (e : ℕ × ℕ) (x y : ℕ) → (Some e ≡ Some (x, y)) ⊎ (Some e ≡ Some (y, x)) → (e ≡ (x, y)) ⊎ (e ≡ (y, x))
head_joined e x y (inl h) = inl (one_found e (x, y) h)
head_joined e x y (inr h) = inr (one_found e (y, x) h)

tail_apart : (e : ℕ × ℕ) (es : List (ℕ × ℕ)) (c x y : ℕ) → AllByRecursion (λ f. ¬ Same e f) es
    → (e ≡ (x, y)) ⊎ (e ≡ (y, x)) → JoinsAt es c x y → ⊥
tail_apart e es c x y all h (inl k) = get_all (λ f. ¬ Same e f) es c (x, y) all k
    (joined_same e (x, y) x y h (inl refl))
tail_apart e es c x y all h (inr k) = get_all (λ f. ¬ Same e f) es c (y, x) all k
    (joined_same e (y, x) x y h (inr refl))

nowhere : (c x y : ℕ) → JoinsAt [] c x y → ⊥
nowhere c x y (inl h) = cc
nowhere c x y (inr h) = cc

one_place : (es : Ends) (b c x y : ℕ) → Once es → JoinsAt es b x y → JoinsAt es c x y → b ≡ c
one_place [] b c x y once h k = absurd (nowhere b x y h)
one_place (e ∷ es) zero zero x y once h k = refl
one_place (e ∷ es) zero (suc c) x y once h k = absurd (tail_apart e es c x y once.0 (head_joined e x y h) k)
one_place (e ∷ es) (suc b) zero x y once h k = absurd (tail_apart e es b x y once.0 (head_joined e x y k) h)
one_place (e ∷ es) (suc b) (suc c) x y once h k = ap (λ n. suc n) (one_place es b c x y once.1 h k)

atoms_count : (ns : List ℕ) (values : List AtomValue) → length (atoms_steps ns values) ≡ length values
atoms_count ns [] = refl
atoms_count ns (x ∷ values) = let e = atoms_count (drop (length x.parts) ns) values in omega arith

graph_count : (nodes : Nodes) (ns groups : List ℕ) (g : GraphTerm) → IsGraphTerm nodes ns groups g
    → length g.atoms ≡ length (atoms_by smarts_words nodes)
graph_count nodes ns groups g is = sym (length-map g.atoms postfix) ∙ ap (λ w. length w) is.atoms
    ∙ atoms_count ns (atoms_by smarts_words nodes)

-- the graph of nodes, the first of whose recursive parts has the number n
graph_sound : (nodes : Nodes) (n c : ℕ) (p : Parts) (groups : List ℕ) (g : GraphTerm) → 0 < length nodes
    → length groups ≡ length nodes
    → AllByRecursion (Below (length nodes)) nodes → AreParts (part_texts (atoms_by smarts_words nodes)) p
    → n + count_of p ≤ c → IsGraphTerm nodes (numbers_from n p) groups g → IsSoundGraph c g
graph_sound nodes n c p groups g some each below parts few is =
    let ns = numbers_from n p in
    let values = atoms_by smarts_words nodes in
    let count : length g.atoms ≡ length nodes = graph_count nodes ns groups g is
    ∙ length-map nodes (λ x. smarts_words.atom_of x.node.atom) in
    let ends = ends_in (length nodes) is.links g.bonds is.bonds
    (ends_all (length nodes) nodes is.links below (omega arith) is.pair) in
    let enough = numbers_count n (part_texts values) p parts in
    let names = atoms_below c ns values (numbers_below n c p few) (values_all nodes) (omega arith) in
    record {
      some = omega arith;
      in_range = All-from_recursion (λ (e : ℕ × ℕ). (e.0 < length g.atoms) × (e.1 < length g.atoms)) (pattern_ends g)
          (subst (λ (w : ℕ). AllByRecursion (EndsIn w) (pattern_ends g)) (sym count) ends);
      distinct = All-from_recursion (λ (e : ℕ × ℕ). e.0 ≢ e.1) (pattern_ends g)
          (ends_differ is.links g.bonds is.bonds is.pair.differ);
      once = λ b d x y h k. one_place (pattern_ends g) b d x y (ends_once is.links g.bonds is.bonds is.pair.once) h k;
      names = All-from_recursion (NamesBelow c) g.atoms
          (names_all c g.atoms
          (subst (λ (w : List (List (Step AtomPrim))). AllByRecursion (λ ss. AllByRecursion (StepBelow c) ss) w)
          (sym is.atoms) names));
      groups = ap length is.grouped ∙ each ∙ sym count;
    }

-- graphs, of which the k-th names parts below n + k alone
abbrev SoundFrom : ℕ → List GraphTerm → Type 0
SoundFrom n [] = Unit {0}
SoundFrom n (g ∷ gs) = IsSoundGraph n g × SoundFrom (n + 1) gs

sound-append : (n : ℕ) (xs ys : List GraphTerm) → SoundFrom n xs → SoundFrom (n + length xs) ys → SoundFrom n (xs ++ ys)
sound-append n [] ys a b = let e : n + 0 ≡ n = omega arith in subst (λ (w : ℕ). SoundFrom w ys) e b
sound-append n (x ∷ xs) ys a b =
    let e : n + suc (length xs) ≡ n + 1 + length xs = omega arith in
    (a.0, sound-append (n + 1) xs ys a.1 (subst (λ (w : ℕ). SoundFrom w ys) e b))

sound_at : (n : ℕ) (gs : List GraphTerm) (j : ℕ) (g : GraphTerm) → SoundFrom n gs → slice_get gs j ≡ Some g
    → IsSoundGraph (n + j) g
sound_at n [] j g h e = absurd (cc)
sound_at n (x ∷ gs) zero g h e =
    let f : x ≡ g = cc in
    let k : n ≡ n + 0 = omega arith in
    subst (λ (w : ℕ). IsSoundGraph w g) k (subst (λ (w : GraphTerm). IsSoundGraph n w) f h.0)
sound_at n (x ∷ gs) (suc j) g h e = let k : n + 1 + j ≡ n + suc j = omega arith in
    subst (λ (w : ℕ). IsSoundGraph w g) k (sound_at (n + 1) gs j g h.1 e)

parts_sound : (n : ℕ) (texts : List (List ℕ)) (p : Parts) (gs : List GraphTerm) → AreParts texts p → ArePartTerms n p gs
    → SoundFrom n gs
parts_sound n texts none gs are h = subst (λ (w : List GraphTerm). SoundFrom n w) (sym h) tt
parts_sound n [] (part tree inner others) gs are h = absurd are
parts_sound n (text ∷ texts) (part tree inner others) gs are h =
    let nodes = placed_nodes tree in
    let count = terms_count n inner h.0 h.4 in
    let at : n + length h.0 ≡ n + count_of inner = omega arith in
    let top = graph_sound nodes n (n + length h.0) inner (for_each tree 0) h.1 (omega arith)
    (length-replicate (length nodes) 0) (placed_below (length nodes) tree (omega arith)) are.1 (omega arith) h.5 in
    let rest = parts_sound (n + count_of inner + 1) texts others h.2 are.2 h.6 in
    let e : n + count_of inner + 1 ≡ n + length h.0 + 1 = omega arith in
    subst (λ (w : List GraphTerm). SoundFrom n w) (sym h.3)
    (sound-append n h.0 (h.1 ∷ h.2) (parts_sound n (part_texts (tree_atoms tree)) inner h.0 are.1 h.4)
    (top, subst (λ (w : ℕ). SoundFrom w h.2) e rest))

-- the graphs have the atoms of the parts
terms_atoms : (n : ℕ) (p : Parts) (gs : List GraphTerm) → ArePartTerms n p gs
    → sum_by (λ g. length g.atoms) gs ≡ length (parts_atoms p)
terms_atoms n none gs h = ap (λ w. sum_by (λ g. length g.atoms) w) h
terms_atoms n (part tree inner others) gs h =
    let size : GraphTerm → ℕ = λ g. length g.atoms in
    let a = terms_atoms n inner h.0 h.4 in
    let b = terms_atoms (n + count_of inner + 1) others h.2 h.6 in
    let c = graph_count (placed_nodes tree) (numbers_from n inner) (for_each tree 0) h.1 h.5 in
    let d = ap (λ w. sum_by size w) h.3 ∙ sum_by-append size h.0 (h.1 ∷ h.2) in
    let e = sum_by-cons size h.1 h.2 in
    let f = length-append (tree_atoms tree) (parts_atoms inner ++ parts_atoms others) in
    let g = length-append (parts_atoms inner) (parts_atoms others) in
    omega arith

some_nodes : (whole : Whole) → 0 < length (nodes_of whole)
some_nodes whole = omega arith

-- The pattern of a text that is within limits is sound. Nothing else is asked: recursive parts are those of its atoms.
pub sound_pattern : (text : List ℕ) (whole : Whole) (p : PatternTerm) → IsWholeOf text whole → IsWithinLimits whole
    → IsPatternOf whole p → IsSoundPattern p
sound_pattern text whole p is limits means =
    let nodes = nodes_of whole in
    let count = terms_count 0 whole.parts p.recs means.0 in
    let some : 0 < length nodes = some_nodes whole in
    let top = graph_sound nodes 0 (length p.recs) whole.parts (groups_of whole) p.top some
    (groups_count 0 0 (whole.first ∷ whole.others))
    (nodes_below (length nodes) 0 (whole.first ∷ whole.others) (omega arith)) is.parts (omega arith) means.1 in
    let recs = parts_sound 0 (part_texts (top_atoms whole)) whole.parts p.recs is.parts means.0 in
    let a = terms_atoms 0 whole.parts p.recs means.0 in
    let b = graph_count nodes (numbers_from 0 whole.parts) (groups_of whole) p.top means.1 in
    let c = length-append (top_atoms whole) (parts_atoms whole.parts) in
    let d = limits.atoms in
    let e = limits.parts in
    record {
      top = top;
      parts = λ j g h. let k : 0 + j ≡ j = omega arith in
          subst (λ (w : ℕ). IsSoundGraph w g) k (sound_at 0 p.recs j g recs h);
      few_parts = omega arith;
      few_atoms = omega arith;
    }
