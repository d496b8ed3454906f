-- Recursive parts that are left to read.
use Rattle.std.proofs.Common.{◌≡◌, ℕ, ◌+◌, ◌≤◌, max, List, [], ◌∷◌, ◌++◌, length, map, reverse, refl, sym, ◌∙◌, ap, subst, arith}
use Rattle.std.proofs.lemmas.List.{length-append, map-append, reverse-append}
use Rattle.line_walk.specs.Tree as walk
use Rattle.line_walk.specs.Places.{placed_nodes, atoms_by}
use Rattle.line_walk.specs.Walk.{Holds}
use Rattle.smarts_words.specs.Bracket.{AtomValue}
use Rattle.smarts_words.specs.Words.{smarts_words}
use Rattle.smarts_parse.specs.declared.draft.Sizes.{Sizes}
use Rattle.smarts_parse.specs.declared.draft.Draft.{Draft}
use Rattle.smarts_parse.specs.Whole.{Tree, Item, item_text, others_text, AreItems, Parts, none, part, part_texts, tree_atoms, AreParts, Whole, IsWholeOf, nodes_of, nodes_from, items_depth, all_atoms, parts_atoms, count_of, nesting_of, parts_depth, whole_depth}
use Rattle.smarts_parse.specs.Meaning.{groups_from, groups_of}
use Rattle.smarts_parse.specs.Draft.{Read, join, Close, AreRead, IsDraftOf, IsTaken, Left, at_level}
use Rattle.smarts_parse.proofs.OneWhole.{same_tree, same_items, same_list}
use Rattle.smarts_parse.proofs.Weights.{weight, weight-append, text_weight, items_weight}
use Rattle.smarts_parse.proofs.Parts.{split, count-join, atoms-join}
use Rattle.smarts_parse.proofs.Joined.{are-join, depth-join}

abbrev pub texts_of : List Left → List (List ℕ)
texts_of left = map (λ x. x.text) left

-- within how many recursive parts one stands, at most, where these are left
abbrev pub nesting_at : List Left → Parts → ℕ
nesting_at [] p = 0
nesting_at (x ∷ xs) none = 0
nesting_at (x ∷ xs) (part tree inner others) = max (x.level + nesting_of inner) (nesting_at xs others)

abbrev pub top_level : List Left → ℕ
top_level [] = 0
top_level (x ∷ xs) = max x.level (top_level xs)

-- what was read, and of the recursive parts that are left
pub record IsSoFar (whole : Whole) (top : Read) (g : List ℕ) (s : Sizes) (left : List Left) (p : Parts)
    (trees : List Tree) : Type 0 where
  pub top_is : Holds smarts_words (nodes_of whole) top
  pub closing : Close p trees whole.parts
  pub groups : g ≡ groups_of whole
  pub atoms : length (all_atoms whole) ≡ s.atoms + length (parts_atoms p)
  pub parts : count_of whole.parts ≡ s.parts + count_of p
  pub nesting : nesting_of whole.parts ≡ max s.nesting (nesting_at left p)
  pub depth : whole_depth whole ≡ max s.depth (parts_depth p)

-- what is left, with what was read, is the whole text
pub record Worklist (text : List ℕ) (top : Read) (g : List ℕ) (s : Sizes) (parts : List Read) (left : List Left)
    : Type 0 where
  pub trees : List Tree
  pub read : AreRead trees (reverse parts)
  pub found : (p : Parts) → AreParts (texts_of left) p
      → (whole : Whole) × IsWholeOf text whole × IsSoFar whole top g s left p trees
  pub only : (whole : Whole) → IsWholeOf text whole → (p : Parts) × AreParts (texts_of left) p
  pub fits : s.atoms + s.parts + weight (texts_of left) ≤ length text
  pub level : top_level left ≤ s.parts + 1

texts-level : (k : ℕ) (ts : List (List ℕ)) → texts_of (at_level k ts) ≡ ts
texts-level k [] = refl
texts-level k (t ∷ ts) = ap (λ v. t ∷ v) (texts-level k ts)

top-level : (k : ℕ) (ts : List (List ℕ)) → top_level (at_level k ts) ≤ k
top-level k [] = omega arith
top-level k (t ∷ ts) = let h = top-level k ts in omega arith

top-append : (xs ys : List Left) → top_level (xs ++ ys) ≡ max (top_level xs) (top_level ys)
top-append [] ys = omega arith
top-append (x ∷ xs) ys = let e = top-append xs ys in omega arith

level_nesting : (k : ℕ) (ts : List (List ℕ)) (p : Parts) → AreParts ts p
    → max k (nesting_at (at_level (k + 1) ts) p) ≡ k + nesting_of p
level_nesting k [] none h = omega arith
level_nesting k [] (part tree inner others) h = absurd h
level_nesting k (t ∷ ts) none h = absurd h
level_nesting k (t ∷ ts) (part tree inner others) h = let e = level_nesting k ts others h.2 in omega arith

nesting-join : (xs ys : List Left) (p q : Parts) → AreParts (texts_of xs) p
    → nesting_at (xs ++ ys) (join p q) ≡ max (nesting_at xs p) (nesting_at ys q)
nesting-join [] ys none q h = omega arith
nesting-join [] ys (part tree inner others) q h = absurd h
nesting-join (x ∷ xs) ys none q h = absurd h
nesting-join (x ∷ xs) ys (part tree inner others) q h = let e = nesting-join xs ys others q h.2 in omega arith

-- nothing was taken in before
abbrev pub blank : Sizes
blank = record { atoms = 0; parts = 0; nesting = 0; depth = 0 }

module _ (text : List ℕ) (first : Item) (others : List Item) (are : AreItems first others)
    (spelled : text ≡ item_text first ++ others_text others)
    (g : List ℕ) (groups : g ≡ groups_from 0 (first ∷ others)) (s : Sizes) (top : Read)
    (deep_is : top.depth ≡ items_depth (first ∷ others))
    (holds : Holds smarts_words (nodes_from 0 (first ∷ others)) top)
    (taken : IsTaken blank s (length top.atoms.items) top.depth 0) where
  abbrev tops : List AtomValue
  tops = atoms_by smarts_words (nodes_from 0 (first ∷ others))

  abbrev with_parts : Parts → Whole
  with_parts p = record { first = first; others = others; parts = p }

  start_so_far : (p : Parts) → AreParts (part_texts tops) p
      → IsSoFar (with_parts p) top g s (at_level 1 (part_texts tops)) p []
  start_so_far p h =
      let a = taken.atoms in
      let c = taken.parts in
      let d = taken.depth in
      let n = taken.nesting in
      let k = ap length holds.atoms in
      let l = level_nesting 0 (part_texts tops) p h in
      record {
        top_is = holds;
        closing = refl;
        groups = groups;
        atoms = omega (arith, length-append tops (parts_atoms p));
        parts = omega arith;
        nesting = omega arith;
        depth = omega arith;
      }

  start_only : (whole : Whole) → IsWholeOf text whole → (p : Parts) × AreParts (part_texts tops) p
  start_only whole is =
      let e = same_items text first others whole.first whole.others are is.items spelled is.spelled in
      let P : List Item → Type 0 = λ l. AreParts (part_texts (atoms_by smarts_words (nodes_from 0 l))) whole.parts in
      (whole.parts, subst P (sym (same_list first whole.first others whole.others e.0 e.1)) is.parts)

  pub start : Worklist text top g s [] (at_level 1 (part_texts tops))
  start =
      let e = texts-level 1 (part_texts tops) in
      let P : Parts → List (List ℕ) → Type 0 = λ p v. AreParts v p in
      record {
        trees = [];
        read = tt;
        found = λ p h. let k = subst (P p) e h
            in (with_parts p, record { items = are; spelled = spelled; parts = k }, start_so_far p k);
        only = λ whole is. let o = start_only whole is in (o.0, subst (P o.0) (sym e) o.1);
        fits = let w = items_weight 0 first others are in let a = taken.atoms in let c = taken.parts
            in let k = ap weight e in let l = ap length spelled in let m = ap length holds.atoms in omega arith;
        level = let c = taken.parts in let l = top-level 1 (part_texts tops) in omega arith;
      }

-- nothing is left
pub all_read : (text : List ℕ) (d : Draft) → Worklist text d.top d.groups.items d.sizes d.parts.items []
    → (whole : Whole) × IsWholeOf text whole × IsDraftOf whole d
all_read text d w =
    let f = w.found none tt in
    let i = f.2 in
    let a = i.atoms in
    let c = i.parts in
    let n = i.nesting in
    let e = i.depth in (
      f.0,
      f.1,
      record {
        top = i.top_is;
        trees = w.trees;
        closing = i.closing;
        parts = w.read;
        groups = i.groups;
        atoms = omega arith;
        count = omega arith;
        nesting = omega arith;
        depth = omega arith;
      },
    )

-- one of them is read
module _ (text : List ℕ) (top : Read) (g : List ℕ) (s t : Sizes) (parts : List Read) (init : List Left) (x : Left)
    (tree : Tree) (reader : Read) (is : walk.IsTreeOf smarts_words x.text tree)
    (deep_is : reader.depth ≡ walk.depth_of tree.tail) (holds : Holds smarts_words (placed_nodes tree) reader)
    (taken : IsTaken s t (length reader.atoms.items) reader.depth x.level)
    (w : Worklist text top g s parts (init ++ x ∷ [])) where
  abbrev inner_texts : List (List ℕ)
  inner_texts = part_texts (tree_atoms tree)

  abbrev new_left : List Left
  new_left = init ++ at_level (x.level + 1) inner_texts

  abbrev counted : Sizes
  counted = record t { parts = t.parts + 1 }

  old_texts : texts_of (init ++ x ∷ []) ≡ texts_of init ++ x.text ∷ []
  old_texts = map-append (λ y. y.text) init (x ∷ [])

  new_texts : texts_of new_left ≡ texts_of init ++ inner_texts
  new_texts = map-append (λ y. y.text) init (at_level (x.level + 1) inner_texts)
      ∙ ap (λ v. texts_of init ++ v) (texts-level (x.level + 1) inner_texts)

  whole_part : (q r : Parts) → AreParts (texts_of init) q → AreParts inner_texts r
      → AreParts (texts_of (init ++ x ∷ [])) (join q (part tree r none))
  whole_part q r h k =
      let P : List (List ℕ) → Type 0 = λ v. AreParts v (join q (part tree r none)) in
      subst P (sym old_texts) (are-join (texts_of init) (x.text ∷ []) q (part tree r none) h (is, k, tt))

  moved : (whole : Whole) (q r : Parts) → AreParts (texts_of init) q → AreParts inner_texts r
      → IsSoFar whole top g s (init ++ x ∷ []) (join q (part tree r none)) w.trees
      → IsSoFar whole top g counted new_left (join q r) (tree ∷ w.trees)
  moved whole q r h k i =
      let one = part tree r none in
      let a = i.atoms in
      let a' = taken.atoms in
      let c = i.parts in
      let c' = taken.parts in
      let n = i.nesting in
      let n' = taken.nesting in
      let d = i.depth in
      let d' = taken.depth in
      let count = ap length holds.atoms in
      let old_nesting = nesting-join init (x ∷ []) q one h in
      let new_nesting = nesting-join init (at_level (x.level + 1) inner_texts) q r h in
      let levels = level_nesting x.level inner_texts r k in
      let old_atoms = ap length (atoms-join q one) in
      let new_atoms = ap length (atoms-join q r) in
      let old_depth = depth-join q one in
      let new_depth = depth-join q r in
      record {
        top_is = i.top_is;
        closing = (q, r, refl, k, i.closing);
        groups = i.groups;
        atoms = omega (
          arith,
          length-append (parts_atoms q) (parts_atoms one),
          length-append (tree_atoms tree)
              (parts_atoms r ++ []),
          length-append (parts_atoms r) [],
          length-append (parts_atoms q) (parts_atoms r),
        );
        parts = omega (arith, count-join q one, count-join q r);
        nesting = omega arith;
        depth = omega arith;
      }

  found_more : (p : Parts) → AreParts (texts_of new_left) p
      → (whole : Whole) × IsWholeOf text whole × IsSoFar whole top g counted new_left p (tree ∷ w.trees)
  found_more p h =
      let P : List (List ℕ) → Type 0 = λ v. AreParts v p in
      let v = split (texts_of init) inner_texts p (subst P new_texts h) in
      let f = w.found (join v.mine (part tree v.others none)) (whole_part v.mine v.others v.mine_of v.others_of) in
      let Q : Parts → Type 0 = λ y. IsSoFar f.0 top g counted new_left y (tree ∷ w.trees) in
      (f.0, f.1, subst Q (sym v.is) (moved f.0 v.mine v.others v.mine_of v.others_of f.2))

  -- what is left has recursive parts, so the text that was read has
  one_inner : (p : Parts) → AreParts (x.text ∷ []) p → (r : Parts) × AreParts inner_texts r
  one_inner none h = absurd h
  one_inner (part other r more) h =
      let P : Tree → Type 0 = λ v. AreParts (part_texts (tree_atoms v)) r in
      (r, subst P (sym (same_tree x.text tree other is h.0)) h.1)

  only_more : (whole : Whole) → IsWholeOf text whole → (p : Parts) × AreParts (texts_of new_left) p
  only_more whole all =
      let o = w.only whole all in
      let P : List (List ℕ) → Type 0 = λ v. AreParts v o.0 in
      let v = split (texts_of init) (x.text ∷ []) o.0 (subst P old_texts o.1) in
      let r = one_inner v.others v.others_of in
      let Q : List (List ℕ) → Type 0 = λ y. AreParts y (join v.mine r.0) in
      (join v.mine r.0, subst Q (sym new_texts) (are-join (texts_of init) inner_texts v.mine r.0 v.mine_of r.1))

  pub one_more : Worklist text top g counted (parts ++ reader ∷ []) new_left
  one_more =
      let f = w.fits in
      let l = w.level in
      let a = taken.atoms in
      let c = taken.parts in
      let old_weight = ap weight old_texts ∙ weight-append (texts_of init) (x.text ∷ []) in
      let new_weight = ap weight new_texts ∙ weight-append (texts_of init) inner_texts in
      let mine = text_weight x.text tree is in
      let count = ap length holds.atoms in
      let R : List Read → Type 0 = λ v. AreRead (tree ∷ w.trees) v in
      let old_level = top-append init (x ∷ []) in
      let new_level = top-append init (at_level (x.level + 1) inner_texts) in
      let here = top-level (x.level + 1) inner_texts in
      record {
        trees = tree ∷ w.trees;
        read = subst R (sym (reverse-append parts (reader ∷ []))) (holds, w.read);
        found = found_more;
        only = only_more;
        fits = omega arith;
        level = omega arith;
      }

module _ (text : List ℕ) (top : Read) (g : List ℕ) (s : Sizes) (parts : List Read) (init : List Left) (x : Left)
    (w : Worklist text top g s parts (init ++ x ∷ [])) where
  last_texts : texts_of (init ++ x ∷ []) ≡ texts_of init ++ x.text ∷ []
  last_texts = map-append (λ y. y.text) init (x ∷ [])

  -- the text that is read next has a tree where the whole text has
  last_by : (p : Parts) → AreParts (x.text ∷ []) p → (tree : Tree) × walk.IsTreeOf smarts_words x.text tree
  last_by none h = absurd h
  last_by (part tree r more) h = (tree, h.0)

  pub last_tree : (whole : Whole) → IsWholeOf text whole → (tree : Tree) × walk.IsTreeOf smarts_words x.text tree
  last_tree whole is =
      let o = w.only whole is in
      let P : List (List ℕ) → Type 0 = λ v. AreParts v o.0 in
      let v = split (texts_of init) (x.text ∷ []) o.0 (subst P last_texts o.1) in
      last_by v.others v.others_of

  pub last_level : x.level ≤ s.parts + 1
  last_level = let l = w.level in let e = top-append init (x ∷ []) in omega arith

  pub last_fits : s.parts + 1 ≤ length text
  last_fits = let f = w.fits in let e = ap weight last_texts ∙ weight-append (texts_of init) (x.text ∷ [])
      in omega arith
