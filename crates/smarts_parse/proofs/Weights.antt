-- How much of a text its atoms and their recursive parts take.
use Rattle.std.proofs.Common.{◌≡◌, ℕ, ◌+◌, ◌≤◌, List, [], ◌∷◌, ◌++◌, length, replicate, None, ap, arith}
use Rattle.std.proofs.lemmas.List.{length-append}
use Rattle.std.specs.List.{flat_map}
use Rattle.line_walk.specs.Tree as walk
use Rattle.line_walk.specs.Tree.{Node, Tail, stop, next, branch}
use Rattle.line_walk.specs.Follow.{Begins}
use Rattle.line_walk.specs.Places.{Placed, placed_from, placed_at, placed_nodes, joined_to, size_of, atoms_by}
use Rattle.smarts_words.specs.Bracket.{Atom, star, aromatic, aliphatic, organic, lower, bracket, atom_text, IsAtom, value_of_atom, Inside, hydro, low, end_text, bracket_text, expression_text}
use Rattle.smarts_words.specs.Prims.{Prim, prim_text, IsPrim, FollowsPrim, word_of, part_of}
use Rattle.smarts_words.specs.Prims as prims
use Rattle.smarts_words.specs.Bonds.{BondPrim}
use Rattle.smarts_words.specs.Expression.{Expression, Operand, Joining, joining_text}
use Rattle.smarts_words.specs.Expression as expression
use Rattle.smarts_words.specs.Words.{smarts_words, BeginsAtom}
use Rattle.smarts_words.proofs.Apart.{smarts_apart}
use Rattle.smarts_parse.specs.Whole.{Tree, Nodes, Item, plain, group, tree_of, item_text, others_text, AreItems, nodes_from, part_texts}

-- texts, each with one byte more
abbrev pub weight : List (List ℕ) → ℕ
weight [] = 0
weight (t ∷ ts) = 1 + length t + weight ts

pub weight-append : (xs ys : List (List ℕ)) → weight (xs ++ ys) ≡ weight xs + weight ys
weight-append [] ys = omega arith
weight-append (x ∷ xs) ys = let e = weight-append xs ys in omega arith

prim_weight : (x : Prim) → weight (part_of x) ≤ length (prim_text x)
prim_weight (prims.part text) = omega (arith, length-append text (41 ∷ []))
prim_weight prims.any = omega arith
prim_weight prims.aromatic = omega arith
prim_weight prims.aliphatic = omega arith
prim_weight (prims.element number) = omega arith
prim_weight (prims.lower l) = omega arith
prim_weight (prims.atomic digits) = omega arith
prim_weight (prims.counted letter digits) = omega arith
prim_weight (prims.charge signs) = omega arith
prim_weight (prims.mass digits) = omega arith
prim_weight (prims.stereo x) = omega arith

abbrev operand_text : Operand Prim → List ℕ
operand_text = expression.operand_text prim_text IsPrim FollowsPrim word_of part_of

abbrev more_text : List (Joining × Operand Prim) → List ℕ
more_text = expression.more_text prim_text IsPrim FollowsPrim word_of part_of

operand_weight : (x : Operand Prim) → weight (part_of x.prim) ≤ length (operand_text x)
operand_weight x = let h = prim_weight x.prim in omega (arith, length-append (replicate x.bangs 33) (prim_text x.prim))

more_weight : (xs : List (Joining × Operand Prim))
    → weight (flat_map (λ x. part_of x.1.prim) xs) ≤ length (more_text xs)
more_weight [] = omega arith
more_weight (x ∷ xs) =
    let h = operand_weight x.1 in
    let k = more_weight xs in
    let e = weight-append (part_of x.1.prim) (flat_map (λ y. part_of y.1.prim) xs) in
    omega (
      arith,
      length-append (joining_text x.0) (operand_text x.1 ++ more_text xs),
      length-append (operand_text x.1)
          (more_text xs),
    )

expression_weight : (e : Expression Prim)
    → weight (expression.expression_parts prim_text IsPrim FollowsPrim word_of part_of e) ≤ length (expression_text e)
expression_weight e =
    let h = operand_weight e.first in
    let k = more_weight e.more in
    let a = weight-append (part_of e.first.prim) (flat_map (λ y. part_of y.1.prim) e.more) in
    omega (arith, length-append (operand_text e.first) (more_text e.more))

some_begins : (P : ℕ → Type 0) (xs : List ℕ) → Begins P xs → 1 ≤ length xs
some_begins P [] h = absurd h
some_begins P (x ∷ xs) h = omega arith

bracket_weight : (inside : Inside) (class : _)
    → 1 + weight (value_of_atom (bracket (record { inside = inside; class = class }))).parts ≤ length
    (bracket_text (record { inside = inside; class = class }))
bracket_weight (hydro h) class = omega arith
bracket_weight (low e) class = let k = expression_weight e
    in omega (arith, length-append (expression_text e) (end_text class))

atom_weight : (x : Atom) → IsAtom x → 1 + weight (value_of_atom x).parts ≤ length (atom_text x)
atom_weight star is = let h = some_begins BeginsAtom (atom_text star) (smarts_apart.atom_begins star is) in omega arith
atom_weight aromatic is = let h = some_begins BeginsAtom (atom_text aromatic) (smarts_apart.atom_begins aromatic is)
    in omega arith
atom_weight aliphatic is = let h = some_begins BeginsAtom (atom_text aliphatic) (smarts_apart.atom_begins aliphatic is)
    in omega arith
atom_weight (organic x) is = let h = some_begins BeginsAtom (atom_text (organic x))
    (smarts_apart.atom_begins (organic x) is) in omega arith
atom_weight (lower x) is = let h = some_begins BeginsAtom (atom_text (lower x)) (smarts_apart.atom_begins (lower x) is)
    in omega arith
atom_weight (bracket x) is = bracket_weight x.inside x.class

-- atoms, and the texts of their recursive parts
abbrev pub total : Nodes → ℕ
total xs = length (atoms_by smarts_words xs) + weight (part_texts (atoms_by smarts_words xs))

abbrev TreeNode : Type 0
TreeNode = Node Atom (Expression BondPrim)

parts_of : TreeNode → List (List ℕ)
parts_of x = (value_of_atom x.atom).parts

total-cons : (x : Placed Atom (Expression BondPrim)) (xs : Nodes)
    → total (x ∷ xs) ≡ 1 + weight (value_of_atom x.node.atom).parts + total xs
total-cons x xs = let e = weight-append (value_of_atom x.node.atom).parts (part_texts (atoms_by smarts_words xs))
    in omega arith

total-append : (xs ys : Nodes) → total (xs ++ ys) ≡ total xs + total ys
total-append [] ys = omega arith
total-append (x ∷ xs) ys =
    let h = total-append xs ys in
    let a = weight-append (value_of_atom x.node.atom).parts (part_texts (atoms_by smarts_words (xs ++ ys))) in
    let b = weight-append (value_of_atom x.node.atom).parts (part_texts (atoms_by smarts_words xs)) in
    omega arith

node_weight : (x : TreeNode) → walk.IsNode smarts_words x
    → 1 + weight (value_of_atom x.atom).parts ≤ length (walk.node_text smarts_words x)
node_weight x is = let h = atom_weight x.atom is.0
    in omega (arith, length-append (atom_text x.atom) (flat_map (walk.ring_text smarts_words) x.rings))

tail_weight : (at n : ℕ) (t : Tail Atom (Expression BondPrim)) → walk.IsTail smarts_words t
    → total (placed_from at n t) ≤ length (walk.tail_text smarts_words t)
tail_weight at n stop is = omega arith
tail_weight at n (next joint node tail) is =
    let h = node_weight node is.1 in
    let k = tail_weight n (n + 1) tail is.2 in
    let e = total-cons (record { node = node; before = joined_to at joint }) (placed_from n (n + 1) tail) in
    omega (
      arith,
      length-append (walk.joint_text smarts_words joint)
          (walk.node_text smarts_words node ++ walk.tail_text smarts_words tail),
      length-append
          (walk.node_text smarts_words node) (walk.tail_text smarts_words tail),
    )
tail_weight at n (branch joint node inner tail) is =
    let h = node_weight node is.1 in
    let i = tail_weight n (n + 1) inner is.2 in
    let k = tail_weight at (n + 1 + size_of inner) tail is.3 in
    let a = total-append (placed_from n (n + 1) inner) (placed_from at (n + 1 + size_of inner) tail) in
    let e = total-cons (record { node = node; before = joined_to at joint })
    (placed_from n (n + 1) inner ++ placed_from at (n + 1 + size_of inner) tail) in
    let text = walk.tail_text smarts_words inner ++ 41 ∷ walk.tail_text smarts_words tail in
    omega (
      arith,
      length-append (walk.joint_text smarts_words joint)
          (walk.node_text smarts_words node ++ text),
      length-append (walk.node_text smarts_words node) text,
      length-append
          (walk.tail_text smarts_words inner) (41 ∷ walk.tail_text smarts_words tail),
    )

pub tree_weight : (n : ℕ) (tree : Tree) → walk.IsTree smarts_words tree
    → total (placed_at n tree) ≤ length (walk.spelling smarts_words tree)
tree_weight n tree is =
    let h = node_weight tree.first is.0 in
    let k = tail_weight n (n + 1) tree.tail is.1 in
    let e = total-cons (record { node = tree.first; before = None }) (placed_from n (n + 1) tree.tail) in
    omega (arith, length-append (walk.node_text smarts_words tree.first) (walk.tail_text smarts_words tree.tail))

pub text_weight : (text : List ℕ) (tree : Tree) → walk.IsTreeOf smarts_words text tree
    → total (placed_nodes tree) ≤ length text
text_weight text tree is = let h = tree_weight 0 tree is.0 in let e = ap length is.1 in omega arith

item_weight : (n : ℕ) (x : Item) → walk.IsTree smarts_words (tree_of x)
    → total (placed_at n (tree_of x)) ≤ length (item_text x)
item_weight n (plain t) is = tree_weight n t is
item_weight n (group t) is = let h = tree_weight n t is
    in omega (arith, length-append (walk.spelling smarts_words t) (41 ∷ []))

pub items_weight : (n : ℕ) (x : Item) (xs : List Item) → AreItems x xs
    → total (nodes_from n (x ∷ xs)) ≤ length (item_text x ++ others_text xs)
items_weight n x [] is =
    let h = item_weight n x is in
    let a = total-append (placed_at n (tree_of x)) [] in
    omega (arith, length-append (item_text x) [])
items_weight n x (y ∷ ys) is =
    let m = n + length (placed_at n (tree_of x)) in
    let h = item_weight n x is.0 in
    let k = items_weight m y ys is.2 in
    let a = total-append (placed_at n (tree_of x)) (nodes_from m (y ∷ ys)) in
    omega (arith, length-append (item_text x) (46 ∷ (item_text y ++ others_text ys)))
