-- Building goes on: each recursive part takes the numbers of its own parts, and leaves one.
use Rattle.std.proofs.Common.{◌≡◌, ℕ, zero, suc, ◌+◌, ◌<◌, ◌≤◌, Bool, false, List, [], ◌∷◌, ◌++◌, length, map, take, drop, replicate, get_or, refl, sym, ◌∙◌, ap, subst, arith, append_assoc, length-append, length-drop}
use Rattle.std.proofs.lemmas.List.{append-nil, length-map, map-append, drop_more, take_more}
use Rattle.std.specs.List.{list_any, AllByRecursion}
use Rattle.line_walk.specs.Places.{placed_nodes, atoms_by}
use Rattle.smarts_words.specs.declared.word.Step.{Step}
use Rattle.smarts_words.specs.declared.word.AtomWord.{AtomWord}
use Rattle.smarts_words.specs.Bracket.{AtomValue}
use Rattle.smarts_words.specs.Words.{smarts_words}
use Rattle.smarts_parse.specs.declared.pattern.AtomPrim.{AtomPrim}
use Rattle.smarts_parse.specs.declared.pattern.Expr.{Expr}
use Rattle.smarts_parse.specs.declared.close.Closed.{Closed}
use Rattle.smarts_parse.specs.Pattern.{GraphTerm, term_of}
use Rattle.smarts_parse.specs.Whole.{Tree, Nodes, Parts, none, part, part_texts, tree_atoms, top_atoms, parts_atoms, Whole, nodes_of, count_of}
use Rattle.smarts_parse.specs.Meaning.{postfix, atom_steps, atoms_steps, numbers_from, for_each, groups_of, ArePartTerms, IsGraphTerm, IsPatternOf}
use Rattle.smarts_parse.specs.Reading.{is_stereo}
use Rattle.smarts_parse.specs.Steps.{LeaveOne, parts_in, IsValue, AreAtomSteps}
use Rattle.smarts_parse.specs.Draft.{WalkGraph, join, Close, AreGraphs}
use Rattle.smarts_parse.specs.Build.{AreFit, IsBuildable, IsReady, IsBuilt}
use Rattle.smarts_parse.proofs.Parts.{count-join, numbers-join, terms-join, terms_count, numbers_count, none_in}
use Rattle.smarts_parse.proofs.Values.{atom_is_value}
use Rattle.smarts_parse.proofs.Closing.{count_closed, neither, fit_closed}

-- graphs of parts, and of those after them
record TermsSplit (n : ℕ) (p q : Parts) (gs : List GraphTerm) : Type 0 where
  mine : List GraphTerm
  others : List GraphTerm
  is : gs ≡ mine ++ others
  mine_of : ArePartTerms n p mine
  others_of : ArePartTerms (n + count_of p) q others

terms_split : (n : ℕ) (p q : Parts) (gs : List GraphTerm) → ArePartTerms n (join p q) gs → TermsSplit n p q gs
terms_split n none q gs a =
    let e : n ≡ n + 0 = omega arith in
    record {
      mine = [];
      others = gs;
      is = refl;
      mine_of = refl;
      others_of = subst (λ (w : ℕ). ArePartTerms w q gs) e a;
    }
terms_split n (part tree inner more) q gs a =
    let m = n + count_of inner + 1 in
    let s = terms_split m more q a.2 a.6 in
    let e : m + count_of more ≡ n + (count_of inner + 1 + count_of more) = omega arith in
    record {
      mine = a.0 ++ a.1 ∷ s.mine;
      others = s.others;
      is = a.3 ∙ ap (λ w. a.0 ++ a.1 ∷ w) s.is ∙ sym (append_assoc a.0 (a.1 ∷ s.mine) s.others);
      mine_of = (a.0, a.1, s.mine, refl, a.4, a.5, s.mine_of);
      others_of = subst (λ (w : ℕ). ArePartTerms w q s.others) e s.others_of;
    }

-- no more parts are open than there are
open_few : (n : ℕ) (p : Parts) → length (numbers_from n p) ≤ count_of p
open_few n none = omega arith
open_few n (part tree inner others) = let h = open_few (n + count_of inner + 1) others in omega arith

-- the next part
pub record Next (all : Parts) (graph : WalkGraph) (left : List WalkGraph) (open_numbers : List ℕ)
    (recs : List GraphTerm) : Type 0 where
  pub nodes : Nodes
  pub front : List ℕ
  pub numbers : List ℕ
  pub ready : IsReady nodes front numbers graph open_numbers
  pub number : length recs < 64
  pub after : (g : GraphTerm) (k : ℕ) (size : ℕ) → size ≡ length graph.atoms.items
      → IsGraphTerm nodes numbers (replicate size 0) g → k ≡ length recs
      → IsBuilt all left (front ++ k ∷ []) (recs ++ g ∷ [])

module _ (all : Parts) (graph : WalkGraph) (left : List WalkGraph) (open_numbers : List ℕ) (recs : List GraphTerm)
    (parts : Parts) (tree : Tree) (trees : List Tree) (c : Close parts (tree ∷ trees) all)
    (graphs : AreGraphs (tree ∷ trees) (graph ∷ left))
    (fit : AllByRecursion (λ t. AreFit (tree_atoms t)) (tree ∷ trees)) (few : count_of all ≤ 64)
    (numbered : open_numbers ≡ numbers_from 0 parts) (terms : ArePartTerms 0 parts recs) where
  abbrev before : Parts
  before = c.0

  abbrev inner : Parts
  inner = c.1

  abbrev one : Parts
  one = part tree inner none

  abbrev at : ℕ
  at = 0 + count_of before

  total : count_of parts + length (tree ∷ trees) ≡ count_of all
  total = count_closed parts (tree ∷ trees) all c

  recs_count : length recs ≡ at + count_of inner
  recs_count =
      let e = terms_count 0 parts recs terms in
      let k = ap count_of c.2 in
      omega (arith, count-join before inner)

  split_terms : TermsSplit 0 before inner recs
  split_terms =
      let F : Parts → Type 0 = λ v. ArePartTerms 0 v recs in
      terms_split 0 before inner recs (subst F c.2 terms)

  put_numbers : (k : ℕ) → k ≡ length recs → numbers_from 0 before ++ k ∷ [] ≡ numbers_from 0 (join before one)
  put_numbers k e =
      let f : k ≡ at + count_of inner = omega (arith, recs_count) in
      ap (λ v. numbers_from 0 before ++ v ∷ []) f ∙ sym (numbers-join 0 before one)

  put_terms : (g : GraphTerm) → IsGraphTerm (placed_nodes tree) (numbers_from at inner) (for_each tree 0) g
      → ArePartTerms 0 (join before one) (recs ++ g ∷ [])
  put_terms g is =
      let s = split_terms in
      let F : List GraphTerm → Type 0 = λ v. ArePartTerms 0 (join before one) v in
      subst F (sym (ap (λ v. v ++ g ∷ []) s.is ∙ append_assoc s.mine s.others (g ∷ [])))
      (terms-join 0 before one s.mine (s.others ++ g ∷ []) s.mine_of (s.others, g, [], refl, s.others_of, is, refl))

  next_by : Next all graph left open_numbers recs
  next_by =
      let a = recs_count in
      let b = total in
      let k = ap count_of c.2 in
      let l = ap length numbered in
      let o = open_few 0 parts in
      record {
        nodes = placed_nodes tree;
        front = numbers_from 0 before;
        numbers = numbers_from at inner;
        ready = record {
          is = graphs.0;
          numbered = numbered ∙ ap (λ v. numbers_from 0 v) c.2 ∙ numbers-join 0 before inner;
          own = numbers_count at (part_texts (tree_atoms tree)) inner c.3;
          fit = fit.0;
          few = omega arith;
        };
        number = omega (arith, count-join before inner);
        after = λ g k size h is e. record {
          parts = join before one;
          trees = trees;
          closing = c.4;
          graphs = graphs.1;
          fit = fit.1;
          few = few;
          numbered = put_numbers k e;
          terms = put_terms g (subst (λ (w : ℕ). IsGraphTerm (placed_nodes tree) (numbers_from at inner) (replicate w 0)
              g) (h ∙ ap length graphs.0.atoms ∙ length-map (placed_nodes tree) (λ x. smarts_words.atom_of x.node.atom))
              is);
        };
      }

next_at : (all : Parts) (graph : WalkGraph) (left : List WalkGraph) (open_numbers : List ℕ) (recs : List GraphTerm)
    (parts : Parts) (trees : List Tree) → Close parts trees all → AreGraphs trees (graph ∷ left)
    → AllByRecursion (λ t. AreFit (tree_atoms t)) trees → count_of all ≤ 64
    → open_numbers ≡ numbers_from 0 parts → ArePartTerms 0 parts recs → Next all graph left open_numbers recs
next_at all graph left open_numbers recs parts [] c graphs fit few numbered terms = absurd graphs
next_at all graph left open_numbers recs parts (tree ∷ trees) c graphs fit few numbered terms =
    next_by all graph left open_numbers recs parts tree trees c graphs fit few numbered terms

pub next : (all : Parts) (graph : WalkGraph) (left : List WalkGraph) (open_numbers : List ℕ) (recs : List GraphTerm)
    → IsBuilt all (graph ∷ left) open_numbers recs → Next all graph left open_numbers recs
next all graph left open_numbers recs h =
    next_at all graph left open_numbers recs h.parts h.trees h.closing h.graphs h.fit h.few h.numbered h.terms

-- at the start
pub none_built : (whole : Whole) (closed : Closed) → IsBuildable whole closed
    → IsBuilt whole.parts closed.parts.items [] []
none_built whole closed b =
    let P : AtomValue → Bool = λ a. list_any is_stereo a.steps in
    let plain = (none_in (top_atoms whole) (parts_atoms whole.parts) b.fit.plain).1 in
    let few = b.fit.few in
    let c = length-append (top_atoms whole) (parts_atoms whole.parts) in
    record {
      parts = none;
      trees = b.are.trees;
      closing = b.are.closing;
      graphs = b.are.parts;
      fit = fit_closed b.are.trees whole.parts b.are.closing (record { plain = plain; few = omega arith });
      few = b.few;
      numbered = refl;
      terms = refl;
    }

-- all recursive parts are built
record AllBuilt (all : Parts) (open_numbers : List ℕ) (recs : List GraphTerm) : Type 0 where
  numbers_are : open_numbers ≡ numbers_from 0 all
  terms_are : ArePartTerms 0 all recs

all_at : (all : Parts) (open_numbers : List ℕ) (recs : List GraphTerm) (parts : Parts) (trees : List Tree)
    → Close parts trees all → AreGraphs trees [] → open_numbers ≡ numbers_from 0 parts → ArePartTerms 0 parts recs
    → AllBuilt all open_numbers recs
all_at all open_numbers recs parts [] c graphs numbered terms =
    let F : Parts → Type 0 = λ v. ArePartTerms 0 v recs in
    record { numbers_are = numbered ∙ ap (λ v. numbers_from 0 v) c; terms_are = subst F c terms }
all_at all open_numbers recs parts (tree ∷ trees) c graphs numbered terms = absurd graphs

module _ (whole : Whole) (closed : Closed) (open_numbers : List ℕ) (recs : List GraphTerm)
    (b : IsBuildable whole closed) (h : IsBuilt whole.parts [] open_numbers recs) where
  built : AllBuilt whole.parts open_numbers recs
  built = all_at whole.parts open_numbers recs h.parts h.trees h.closing h.graphs h.numbered h.terms

  pub top_ready : IsReady (nodes_of whole) [] (numbers_from 0 whole.parts) closed.top open_numbers
  top_ready =
      let n = built.numbers_are in
      let l = ap length n in
      let o = open_few 0 whole.parts in
      let few = b.few in
      let atoms_few = b.fit.few in
      let c = length-append (top_atoms whole) (parts_atoms whole.parts) in
      record {
        is = b.are.top;
        numbered = n;
        own = numbers_count 0 (part_texts (top_atoms whole)) whole.parts b.parts;
        fit = record {
          plain = (none_in (top_atoms whole) (parts_atoms whole.parts) b.fit.plain).0;
          few = omega arith;
        };
        few = omega arith;
      }

  pub pattern_built : (top : GraphTerm)
      → IsGraphTerm (nodes_of whole) (numbers_from 0 whole.parts) (groups_of whole) top
      → IsPatternOf whole (record { top = top; recs = recs })
  pattern_built top is = (built.terms_are, is)

-- the element of a loop's turn
pub drop_at : {X : Type 0} (xs : List X) (i : ℕ) (x : X) → i < length xs → x ≡ get_or xs i x
    → drop i xs ≡ x ∷ drop (i + 1) xs
drop_at xs i x lt e = drop_more xs i x lt ∙ ap (λ w. w ∷ drop (i + 1) xs) (sym e)

-- the atoms of nodes
pub values_all : (nodes : Nodes) → AllByRecursion IsValue (atoms_by smarts_words nodes)
values_all [] = tt
values_all (x ∷ nodes) = (atom_is_value x.node.atom, values_all nodes)

-- Of atoms some are left, and numbers for their recursive parts; the steps of the others are done.
pub record AtomsLeft (values whole : List AtomValue) (left numbers : List ℕ) (done : List (List (Step AtomPrim)))
    : Type 0 where
  pub are : AllByRecursion IsValue values
  pub plain : list_any (λ a. list_any is_stereo a.steps) values ≡ false
  pub enough : length (part_texts values) ≤ length left
  pub steps_are : done ++ atoms_steps left values ≡ atoms_steps numbers whole

-- the next atom
pub record AtomNext (value : AtomValue) (left : List ℕ) : Type 0 where
  pub one : LeaveOne 0 value.steps
  pub own : parts_in value.steps ≡ length value.parts
  pub plain : list_any is_stereo value.steps ≡ false
  pub enough : length value.parts ≤ length left

pub atom_next : (value : AtomValue) (values whole : List AtomValue) (left numbers : List ℕ)
    (done : List (List (Step AtomPrim))) → AtomsLeft (value ∷ values) whole left numbers done → AtomNext value left
atom_next value values whole left numbers done h =
    let c = length-append value.parts (part_texts values) in
    let e = h.enough in
    record {
      one = h.are.0.one;
      own = h.are.0.parts;
      plain = (neither (list_any is_stereo value.steps) (list_any (λ a. list_any is_stereo a.steps) values) h.plain).0;
      enough = omega arith;
    }

pub atom_done : (value : AtomValue) (values whole : List AtomValue) (left numbers : List ℕ)
    (done : List (List (Step AtomPrim))) → AtomsLeft (value ∷ values) whole left numbers done
    → AtomsLeft values whole (drop (length value.parts) left) numbers (done ++ atom_steps left value.steps ∷ [])
atom_done value values whole left numbers done h =
    let c = length-append value.parts (part_texts values) in
    let e = h.enough in
    let d = length-drop (length value.parts) left in
    record {
      are = h.are.1;
      plain = (neither (list_any is_stereo value.steps) (list_any (λ a. list_any is_stereo a.steps) values) h.plain).1;
      enough = omega arith;
      steps_are = append_assoc done (atom_steps left value.steps ∷ [])
          (atoms_steps (drop (length value.parts) left) values)
          ∙ h.steps_are;
    }

-- one more expression
pub exprs_push : (before after : List (Expr AtomPrim)) (x : Expr AtomPrim) → after ≡ before ++ x ∷ []
    → map postfix (map term_of after) ≡ map postfix (map term_of before) ++ postfix (term_of x) ∷ []
exprs_push before after x e =
    ap (λ w. map postfix (map term_of w)) e ∙ ap (λ w. map postfix w) (map-append term_of before (x ∷ []))
    ∙ map-append postfix (map term_of before) (term_of x ∷ [])

pub no_atoms : (values : List AtomValue) (numbers : List ℕ) → AllByRecursion IsValue values
    → list_any (λ a. list_any is_stereo a.steps) values ≡ false → length (part_texts values) ≤ length numbers
    → AtomsLeft values values numbers numbers []
no_atoms values numbers are plain enough =
    record { are = are; plain = plain; enough = enough; steps_are = refl }

nil_atoms : (ns : List ℕ) → atoms_steps ns [] ≡ []
nil_atoms ns = refl

pub atoms_all : (whole : List AtomValue) (left numbers : List ℕ) (done : List (List (Step AtomPrim)))
    → AtomsLeft [] whole left numbers done → done ≡ atoms_steps numbers whole
atoms_all whole left numbers done h =
    sym (ap (λ w. done ++ w) (nil_atoms left) ∙ append-nil done) ∙ h.steps_are

-- the steps of the next atom
pub next_steps : (value : AtomValue) (ss : List (Step AtomWord)) (left : List ℕ) → AtomNext value left
    → ss ≡ value.steps → AreAtomSteps ss left
next_steps value ss left a e =
    let o = a.own in
    let n = a.enough in
    let whole : AreAtomSteps value.steps left = record { one = a.one; parts = omega arith; plain = a.plain } in
    subst (λ (w : List (Step AtomWord)). AreAtomSteps w left) (sym e) whole

-- recursive parts of the first atoms
texts_push : (xs : List AtomValue) (x : AtomValue)
    → length (part_texts (xs ++ x ∷ [])) ≡ length (part_texts xs) + length x.parts
texts_push [] x = omega (arith, length-append x.parts [])
texts_push (y ∷ xs) x =
    let e = texts_push xs x in
    omega (arith, length-append y.parts (part_texts (xs ++ x ∷ [])), length-append y.parts (part_texts xs))

pub texts_more : (xs : List AtomValue) (i : ℕ) (x : AtomValue) → i < length xs → x ≡ get_or xs i x
    → length (part_texts (take (i + 1) xs)) ≡ length (part_texts (take i xs)) + length x.parts
texts_more xs i x lt at =
    ap (λ v. length (part_texts v)) (take_more xs i x lt ∙ ap (λ w. take i xs ++ w ∷ []) (sym at))
    ∙ texts_push (take i xs) x

pub texts_few : (i : ℕ) (xs : List AtomValue) → length (part_texts (take i xs)) ≤ length (part_texts xs)
texts_few zero xs = omega arith
texts_few (suc i) [] = omega arith
texts_few (suc i) (x ∷ xs) =
    let e = texts_few i xs in
    omega (arith, length-append x.parts (part_texts (take i xs)), length-append x.parts (part_texts xs))
