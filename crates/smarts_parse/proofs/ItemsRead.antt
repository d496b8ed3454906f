-- Items, one after another.
use Rattle.std.proofs.Common.{◌≡◌, ◌≢◌, ℕ, ◌+◌, ◌-◌, ◌≤◌, get_or, max, inl, inr, Bool, true, false, cond, List, [], ◌∷◌, ◌++◌, length, replicate, refl, sym, ◌∙◌, ap, subst, arith, append_assoc}
use Rattle.std.proofs.lemmas.List.{append-nil, length-append, length-map, length-replicate, nil_from_length}
use Rattle.line_walk.specs.Tree as walk
use Rattle.line_walk.specs.Places.{placed_at, placed_nodes}
use Rattle.line_walk.specs.Walk.{Holds, IsBetween}
use Rattle.line_walk.proofs.Follow.{begins_clash}
use Rattle.line_walk.proofs.Unique.{tails}
use Rattle.smarts_words.specs.Words.{smarts_words, BeginsAtom}
use Rattle.smarts_words.proofs.Apart.{smarts_apart}
use Rattle.smarts_parse.specs.Whole.{Tree, Nodes, Item, plain, group, tree_of, item_text, others_text, MayMeet, AreItems, nodes_from, items_depth}
use Rattle.smarts_parse.specs.Meaning.{for_each, groups_from}
use Rattle.smarts_parse.specs.Draft.{Read, StopsAfter, IsItemOf, is_group, IsItemRead, AreItemsRead}
use Rattle.smarts_parse.proofs.ItemRead.{tree_begins}
use Rattle.smarts_parse.proofs.Links.{tail_size}

-- items, each followed by a dot
abbrev pub dotted : List Item → List ℕ
dotted [] = []
dotted (x ∷ xs) = item_text x ++ 46 ∷ dotted xs

-- what may stand before an item
abbrev pub AreBefore : List Item → Item → Type 0
AreBefore [] x = Unit {0}
AreBefore (d ∷ []) x = walk.IsTree smarts_words (tree_of d) × MayMeet d x
AreBefore (d ∷ e ∷ ds) x = walk.IsTree smarts_words (tree_of d) × MayMeet d e × AreBefore (e ∷ ds) x

-- a text of items
pub record AreLeft (rest : List ℕ) : Type 0 where
  pub first : Item
  pub others : List Item
  pub are : AreItems first others
  pub spelled : rest ≡ item_text first ++ others_text others

-- how many items stand in parentheses
abbrev pub groups_in : List Item → ℕ
groups_in [] = 0
groups_in (plain tree ∷ items) = groups_in items
groups_in (group tree ∷ items) = groups_in items + 1

-- what is read of the items of a text
pub record SoFar (text rest : List ℕ) (reader : Read) (groups : List ℕ) (count : ℕ) : Type 0 where
  pub done : List Item
  pub holds : Holds smarts_words (nodes_from 0 done) reader
  pub closed : IsBetween reader
  pub depth : reader.depth ≡ items_depth done
  pub counted : count ≡ groups_in done
  pub grouped : groups ≡ groups_from 0 done
  pub spelled : text ≡ dotted done ++ rest
  pub before : (x : Item) (after : List ℕ) → walk.IsTree smarts_words (tree_of x) → rest ≡ item_text x ++ after
      → AreBefore done x
  pub only : AreLeft text → AreLeft rest

pub so_far_none : (text : List ℕ) (reader : Read) (groups : List ℕ) → Holds smarts_words [] reader → IsBetween reader
    → reader.depth ≡ 0 → groups ≡ [] → SoFar text text reader groups 0
so_far_none text reader groups holds closed depth none = record {
  done = [];
  holds = holds;
  closed = closed;
  depth = depth;
  counted = refl;
  grouped = none;
  spelled = refl;
  before = λ x after is e. tt;
  only = λ left. left;
}

-- the first item of several
pub stops_after : (x : Item) (xs : List Item) → AreItems x xs → StopsAfter x (others_text xs)
stops_after (group t) xs are = tt
stops_after (plain t) [] are = tt
stops_after (plain t) (plain u ∷ ys) are = absurd are.1
stops_after (plain t) (group u ∷ ys) are = inr (refl, refl)

pub first_tree : (x : Item) (xs : List Item) → AreItems x xs → walk.IsTree smarts_words (tree_of x)
first_tree x [] are = are
first_tree x (y ∷ ys) are = are.0

pub first_item : (rest : List ℕ) → (left : AreLeft rest) → IsItemOf rest left.first (others_text left.others)
first_item rest left = record {
  tree = first_tree left.first left.others left.are;
  spelled = left.spelled;
  stops = stops_after left.first left.others left.are;
}

left_more : (x : Item) (xs : List Item) (next : List ℕ) → AreItems x xs → 46 ∷ next ≡ others_text xs → AreLeft next
left_more x [] next are e = absurd (cc)
left_more x (y ∷ ys) next are e = record { first = y; others = ys; are = are.2; spelled = tails 46 46 next _ e }

-- an item more before
may_meet : (x y : Item) (next after : List ℕ) → StopsAfter x (46 ∷ next) → walk.IsTree smarts_words (tree_of y)
    → next ≡ item_text y ++ after → MayMeet x y
may_meet (group s) (group t) next after stops is e = tt
may_meet (group s) (plain t) next after stops is e = tt
may_meet (plain s) (group t) next after stops is e = tt
may_meet (plain s) (plain t) next after (inl f) is e = absurd (omega arith)
may_meet (plain s) (plain t) next after (inr f) is e = begins_clash BeginsAtom (λ b. b ≡ 40) _ next
    (λ b h k. smarts_apart.atom_or_walk b h (inl k)) (tree_begins t after is) f.1 (sym e)

before_more : (ds : List Item) (x y : Item) → AreBefore ds x → walk.IsTree smarts_words (tree_of x) → MayMeet x y
    → AreBefore (ds ++ x ∷ []) y
before_more [] x y h is meet = (is, meet)
before_more (d ∷ []) x y h is meet = (h.0, h.1, (is, meet))
before_more (d ∷ e ∷ ds) x y h is meet = (h.0, h.1, before_more (e ∷ ds) x y h.2 is meet)

dotted_more : (ds : List Item) (x : Item) (next : List ℕ)
    → dotted ds ++ (item_text x ++ 46 ∷ next) ≡ dotted (ds ++ x ∷ []) ++ next
dotted_more [] x next = sym (append_assoc (item_text x) (46 ∷ []) next)
dotted_more (d ∷ ds) x next =
    append_assoc (item_text d) (46 ∷ dotted ds) (item_text x ++ 46 ∷ next)
    ∙ ap (λ v. item_text d ++ 46 ∷ v) (dotted_more ds x next)
    ∙ sym (append_assoc (item_text d) (46 ∷ dotted (ds ++ x ∷ [])) next)

nodes_push : (n : ℕ) (ds : List Item) (x : Item)
    → nodes_from n (ds ++ x ∷ []) ≡ nodes_from n ds ++ placed_at (n + length (nodes_from n ds)) (tree_of x)
nodes_push n [] x = append-nil (placed_at n (tree_of x))
    ∙ ap (λ k. placed_at k (tree_of x)) (let e : n ≡ n + 0 = omega arith in e)
nodes_push n (d ∷ ds) x =
    let p = placed_at n (tree_of d) in
    let m = n + length p in
    let l : m + length (nodes_from m ds) ≡ n + length (p ++ nodes_from m ds) = omega
    (arith, length-append p (nodes_from m ds)) in
    ap (λ v. p ++ v) (nodes_push m ds x ∙ ap (λ k. nodes_from m ds ++ placed_at k (tree_of x)) l)
    ∙ sym (append_assoc p (nodes_from m ds) (placed_at (n + length (p ++ nodes_from m ds)) (tree_of x)))

depth_push : (ds : List Item) (x : Item)
    → items_depth (ds ++ x ∷ []) ≡ max (items_depth ds) (walk.depth_of (tree_of x).tail)
depth_push [] x = omega arith
depth_push (d ∷ ds) x = let h = depth_push ds x in omega arith

one_group : (x : Item) → groups_in (x ∷ []) ≡ cond (is_group x) 1 0
one_group (plain tree) = refl
one_group (group tree) = omega arith

count_push : (ds : List Item) (x : Item) → groups_in (ds ++ x ∷ []) ≡ groups_in ds + cond (is_group x) 1 0
count_push [] x = let e = one_group x in omega arith
count_push (plain tree ∷ ds) x = count_push ds x
count_push (group tree ∷ ds) x = let e = count_push ds x in omega arith

-- each item takes a byte at least
pub groups_few : (ds : List Item) → groups_in ds ≤ length (dotted ds)
groups_few [] = omega arith
groups_few (plain tree ∷ ds) =
    let h = groups_few ds in
    omega (arith, length-append (item_text (plain tree)) (46 ∷ dotted ds))
groups_few (group tree ∷ ds) =
    let h = groups_few ds in
    omega (arith, length-append (item_text (group tree)) (46 ∷ dotted ds))

-- the groups of one item more
groups_push : (n : ℕ) (ds : List Item) (x : Item) → groups_from n (ds ++ x ∷ [])
    ≡ groups_from n ds ++ for_each (tree_of x) (cond (is_group x) (n + groups_in ds + 1) 0)
groups_push n [] (plain tree) = append-nil (for_each tree 0)
groups_push n [] (group tree) = append-nil (for_each tree (n + 1))
    ∙ ap (for_each tree) (let e : n + 1 ≡ n + 0 + 1 = omega arith in e)
groups_push n (plain tree ∷ ds) x =
    let last = for_each (tree_of x) (cond (is_group x) (n + groups_in ds + 1) 0) in
    ap (λ v. for_each tree 0 ++ v) (groups_push n ds x)
    ∙ sym (append_assoc (for_each tree 0) (groups_from n ds) last)
groups_push n (group tree ∷ ds) x =
    let e : n + 1 + groups_in ds + 1 ≡ n + (groups_in ds + 1) + 1 = omega arith in
    let last = for_each (tree_of x) (cond (is_group x) (n + 1 + groups_in ds + 1) 0) in
    ap (λ v. for_each tree (n + 1) ++ v) (groups_push (n + 1) ds x)
    ∙ sym (append_assoc (for_each tree (n + 1)) (groups_from (n + 1) ds) last)
    ∙ ap (λ k. (for_each tree (n + 1) ++ groups_from (n + 1) ds) ++ for_each (tree_of x) (cond (is_group x) k 0)) e

-- there are as many nodes, wherever the first of them stands
pub tree_count : (n : ℕ) (tree : Tree) → length (placed_at n tree) ≡ length (placed_nodes tree)
tree_count n tree = let a = tail_size n (n + 1) tree.tail in let b = tail_size 0 1 tree.tail in omega arith

each_count : (tree : Tree) (n : ℕ) → length (for_each tree n) ≡ length (placed_nodes tree)
each_count tree n = length-replicate (length (placed_nodes tree)) n

-- each node has a group
pub groups_count : (k n : ℕ) (ds : List Item) → length (groups_from k ds) ≡ length (nodes_from n ds)
groups_count k n [] = refl
groups_count k n (plain tree ∷ ds) =
    let a = groups_count k (n + length (placed_at n tree)) ds in
    let b = each_count tree 0 in
    let c = tree_count n tree in
    omega (
      arith,
      length-append (for_each tree 0) (groups_from k ds),
      length-append (placed_at n tree) (nodes_from (n + length (placed_at n tree)) ds),
    )
groups_count k n (group tree ∷ ds) =
    let a = groups_count (k + 1) (n + length (placed_at n tree)) ds in
    let b = each_count tree (k + 1) in
    let c = tree_count n tree in
    omega (
      arith,
      length-append (for_each tree (k + 1)) (groups_from (k + 1) ds),
      length-append (placed_at n tree) (nodes_from (n + length (placed_at n tree)) ds),
    )

-- no atom has a group before it is read
pub grouped_few : (text rest after : List ℕ) (old new : Read) (gs : List ℕ) (g : ℕ) (b : Bool)
    → (s : SoFar text rest old gs g) → IsItemRead (nodes_from 0 s.done) old new rest b after
    → length gs ≤ length new.atoms.items
grouped_few text rest after old new gs g b s r =
    let placed = placed_at (length (nodes_from 0 s.done)) (tree_of r.item) in
    let a = ap length r.holds.atoms ∙ length-map (nodes_from 0 s.done ++ placed) (λ x. smarts_words.atom_of x.node.atom)
    in
    let d = ap length s.grouped in
    let e = groups_count 0 0 s.done in
    omega (arith, length-append (nodes_from 0 s.done) placed)

-- the next number is not too high
pub count_few : (text rest : List ℕ) (reader : Read) (gs : List ℕ) (g : ℕ) → SoFar text rest reader gs g
    → g ≤ length text
count_few text rest reader gs g s =
    let few = groups_few s.done in
    let count = s.counted in
    let long = ap length s.spelled in
    omega (arith, length-append (dotted s.done) rest)

-- the count of groups, where the last item has this one
counted_more : (b : Bool) (g n k : ℕ) → k ≡ cond b (g + 1) 0 → n ≡ max g k → n ≡ g + cond b 1 0
counted_more true g n k e f = omega arith
counted_more false g n k e f = omega arith

module _ (text rest after : List ℕ) (old new : Read) (gs hs : List ℕ) (g n k : ℕ) (b : Bool)
    (s : SoFar text rest old gs g) (r : IsItemRead (nodes_from 0 s.done) old new rest b after)
    (number : k ≡ cond b (g + 1) 0) (more : n ≡ max g k)
    (put : hs ≡ gs ++ replicate (length new.atoms.items - length gs) k) where
  abbrev done_more : List Item
  done_more = s.done ++ r.item ∷ []

  count_more : n ≡ groups_in done_more
  count_more = counted_more b g n k number more ∙ ap (λ v. v + cond b 1 0) s.counted
      ∙ ap (λ v. groups_in s.done + cond v 1 0) r.grouped ∙ sym (count_push s.done r.item)

  -- as many atoms are new as the item has
  new_atoms : length new.atoms.items - length gs ≡ length (placed_nodes (tree_of r.item))
  new_atoms =
      let placed = placed_at (length (nodes_from 0 s.done)) (tree_of r.item) in
      let a = ap length r.holds.atoms
      ∙ length-map (nodes_from 0 s.done ++ placed) (λ x. smarts_words.atom_of x.node.atom) in
      let c = tree_count (length (nodes_from 0 s.done)) (tree_of r.item) in
      let d = ap length s.grouped in
      let e = groups_count 0 0 s.done in
      omega (arith, length-append (nodes_from 0 s.done) placed)

  name_more : k ≡ cond (is_group r.item) (0 + groups_in s.done + 1) 0
  name_more =
      let e : g + 1 ≡ 0 + groups_in s.done + 1 = let f = s.counted in omega arith in
      number ∙ ap (λ v. cond b v 0) e ∙ ap (λ v. cond v (0 + groups_in s.done + 1) 0) r.grouped

  groups_more : hs ≡ groups_from 0 done_more
  groups_more = put ∙ ap (λ v. gs ++ replicate v k) new_atoms
      ∙ ap (λ v. gs ++ replicate (length (placed_nodes (tree_of r.item))) v) name_more
      ∙ ap (λ v. v ++ for_each (tree_of r.item) (cond (is_group r.item) (0 + groups_in s.done + 1) 0)) s.grouped
      ∙ sym (groups_push 0 s.done r.item)

  holds_more : Holds smarts_words (nodes_from 0 (s.done ++ r.item ∷ [])) new
  holds_more =
      let P : Nodes → Type 0 = λ v. Holds smarts_words v new in
      subst P (sym (nodes_push 0 s.done r.item ∙ ap (λ k. nodes_from 0 s.done ++ placed_at k (tree_of r.item))
      (let e : 0 + length (nodes_from 0 s.done) ≡ length (nodes_from 0 s.done) = omega arith in e))) r.holds

  depth_more : new.depth ≡ items_depth (s.done ++ r.item ∷ [])
  depth_more = r.depth ∙ ap (λ v. max v (walk.depth_of (tree_of r.item).tail)) s.depth ∙ sym (depth_push s.done r.item)

  pub so_far_more : (next : List ℕ) → after ≡ 46 ∷ next → IsBetween new
      → ((x : Item) (left : List ℕ) → IsItemOf rest x left → after ≡ left) → SoFar text next new hs n
  so_far_more next e closed only = record {
    done = s.done ++ r.item ∷ [];
    holds = holds_more;
    closed = closed;
    depth = depth_more;
    counted = count_more;
    grouped = groups_more;
    spelled = s.spelled ∙ ap (λ v. dotted s.done ++ v) (r.is.spelled ∙ ap (λ v. item_text r.item ++ v) e)
        ∙ dotted_more s.done r.item next;
    before = λ y left is f.
        before_more s.done r.item y (s.before r.item after r.is.tree r.is.spelled) r.is.tree
        (may_meet r.item y next left (let P : List ℕ → Type 0 = λ v. StopsAfter r.item v in subst P e r.is.stops) is f);
    only = λ all. let l = s.only all in left_more l.first l.others next l.are (sym e
        ∙ only l.first (others_text l.others) (first_item rest l));
  }

  -- the last item
  abbrev first_of : List Item → Item → Item
  first_of [] x = x
  first_of (d ∷ ds) x = d

  abbrev others_of : List Item → Item → List Item
  others_of [] x = []
  others_of (d ∷ ds) x = ds ++ x ∷ []

  together : (ds : List Item) (x : Item) → first_of ds x ∷ others_of ds x ≡ ds ++ x ∷ []
  together [] x = refl
  together (d ∷ ds) x = refl

  joined_are : (ds : List Item) (x : Item) → AreBefore ds x → walk.IsTree smarts_words (tree_of x)
      → AreItems (first_of ds x) (others_of ds x)
  joined_are [] x h is = is
  joined_are (d ∷ []) x h is = (h.0, h.1, is)
  joined_are (d ∷ e ∷ ds) x h is = (h.0, h.1, joined_are (e ∷ ds) x h.2 is)

  others_joined : (ds : List Item) (x : Item) → 46 ∷ (dotted ds ++ item_text x) ≡ others_text (ds ++ x ∷ [])
  others_joined [] x = ap (λ (v : List ℕ). 46 ∷ v) (sym (append-nil (item_text x)))
  others_joined (d ∷ ds) x = ap (λ (v : List ℕ). 46 ∷ v) (append_assoc (item_text d) (46 ∷ dotted ds) (item_text x)
      ∙ ap (λ v. item_text d ++ v) (others_joined ds x))

  joined_text : (ds : List Item) (x : Item)
      → dotted ds ++ item_text x ≡ item_text (first_of ds x) ++ others_text (others_of ds x)
  joined_text [] x = sym (append-nil (item_text x))
  joined_text (d ∷ ds) x = append_assoc (item_text d) (46 ∷ dotted ds) (item_text x)
      ∙ ap (λ v. item_text d ++ v) (others_joined ds x)

  pub so_far_all : length after ≡ 0 → AreItemsRead text new hs
  so_far_all none =
      let e : item_text r.item ++ after ≡ item_text r.item = ap (λ v. item_text r.item ++ v)
      (nil_from_length after none) ∙ append-nil (item_text r.item) in
      let t = together s.done r.item in
      let P : List Item → Type 0 = λ v. Holds smarts_words (nodes_from 0 v) new in
      record {
        first = first_of s.done r.item;
        others = others_of s.done r.item;
        are = joined_are s.done r.item (s.before r.item after r.is.tree r.is.spelled) r.is.tree;
        spelled = s.spelled ∙ ap (λ v. dotted s.done ++ v) (r.is.spelled ∙ e) ∙ joined_text s.done r.item;
        holds = subst P (sym t) holds_more;
        depth = depth_more ∙ ap items_depth (sym t);
        grouped = groups_more ∙ ap (groups_from 0) (sym t);
      }

-- no dot goes on
pub not_dot : (after : List ℕ) (xs : List Item) → after ≡ others_text xs → 1 ≤ length after → get_or after 0 0 ≢ 46 → ⊥
not_dot after [] e l n = let k = ap length e in omega (arith, k)
not_dot after (x ∷ xs) e l n = n (ap (λ v. get_or v 0 0) e)
