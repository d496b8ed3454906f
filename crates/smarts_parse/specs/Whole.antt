-- The whole grammar of patterns: items, and in their atoms recursive parts (Daylight Theory Manual, sections 4.4 and
-- 4.5). A text is a pattern's exactly if it spells a Whole that is one. For callers.
use Rattle.std.specs.Prelude.{◌≡◌, ℕ, ◌+◌, max, List, [], ◌∷◌, ◌++◌, length}
use Rattle.std.specs.List.{flat_map}
use Rattle.line_walk.specs.Tree as walk
use Rattle.line_walk.specs.Places.{Placed, placed_at, placed_nodes, atoms_by}
use Rattle.smarts_words.specs.Expression.{Expression}
use Rattle.smarts_words.specs.Bracket.{Atom, AtomValue}
use Rattle.smarts_words.specs.Bonds.{BondPrim}
use Rattle.smarts_words.specs.Words.{smarts_words}

-- runs, branches, dots and ring numbers
abbrev pub Tree : Type 0
Tree = walk.Tree Atom (Expression BondPrim)

abbrev pub Nodes : Type 0
Nodes = List (Placed Atom (Expression BondPrim))

-- a part of a text between dots: runs joined by dots, or these in parentheses
pub data Item : Type 0 where
  plain : Tree → Item
  group : Tree → Item

abbrev pub tree_of : Item → Tree
tree_of (plain tree) = tree
tree_of (group tree) = tree

abbrev pub item_text : Item → List ℕ
item_text (plain tree) = walk.spelling smarts_words tree
item_text (group tree) = 40 ∷ (walk.spelling smarts_words tree ++ 41 ∷ [])

-- each item after a dot
abbrev pub others_text : List Item → List ℕ
others_text [] = []
others_text (x ∷ xs) = 46 ∷ (item_text x ++ others_text xs)

-- runs joined by a dot are one item, so of two items side by side one is in parentheses
abbrev pub MayMeet : Item → Item → Type 0
MayMeet (plain s) (plain t) = ⊥
MayMeet _ _ = Unit {0}

abbrev pub AreItems : Item → List Item → Type 0
AreItems x [] = walk.IsTree smarts_words (tree_of x)
AreItems x (y ∷ ys) = walk.IsTree smarts_words (tree_of x) × MayMeet x y × AreItems y ys

-- Recursive parts: the tree of the first, the parts in its atoms, and the parts after it
pub data Parts : Type 0 where
  none : Parts
  part : (tree : Tree) → (inner : Parts) → (others : Parts) → Parts

-- the texts of the recursive parts in atoms, from left to right
abbrev pub part_texts : List AtomValue → List (List ℕ)
part_texts atoms = flat_map (λ a. a.parts) atoms

-- the atoms of a tree, in reading order
abbrev pub tree_atoms : Tree → List AtomValue
tree_atoms tree = atoms_by smarts_words (placed_nodes tree)

-- the texts are spelled as these parts, one for each
abbrev pub AreParts : List (List ℕ) → Parts → Type 0
AreParts [] none = Unit {0}
AreParts (text ∷ texts) (part tree inner others) =
    walk.IsTreeOf smarts_words text tree × AreParts (part_texts (tree_atoms tree)) inner × AreParts texts others
AreParts [] (part tree inner others) = ⊥
AreParts (text ∷ texts) none = ⊥

pub record Whole : Type 0 where
  pub first : Item
  pub others : List Item
  pub parts : Parts

-- the nodes of items, after n others
abbrev pub nodes_from : ℕ → List Item → Nodes
nodes_from n [] = []
nodes_from n (x ∷ xs) = placed_at n (tree_of x) ++ nodes_from (n + length (placed_at n (tree_of x))) xs

-- the nodes of all items, in reading order: ring numbers belong to them together
abbrev pub nodes_of : Whole → Nodes
nodes_of whole = nodes_from 0 (whole.first ∷ whole.others)

abbrev pub top_atoms : Whole → List AtomValue
top_atoms whole = atoms_by smarts_words (nodes_of whole)

abbrev pub whole_text : Whole → List ℕ
whole_text whole = item_text whole.first ++ others_text whole.others

-- the text is spelled so
pub record IsWholeOf (text : List ℕ) (whole : Whole) : Type 0 where
  pub items : AreItems whole.first whole.others
  pub spelled : text ≡ whole_text whole
  pub parts : AreParts (part_texts (top_atoms whole)) whole.parts

-- the atoms of recursive parts
abbrev pub parts_atoms : Parts → List AtomValue
parts_atoms none = []
parts_atoms (part tree inner others) = tree_atoms tree ++ (parts_atoms inner ++ parts_atoms others)

-- the atoms in all parts together
abbrev pub all_atoms : Whole → List AtomValue
all_atoms whole = top_atoms whole ++ parts_atoms whole.parts

-- the number of recursive parts
abbrev pub count_of : Parts → ℕ
count_of none = 0
count_of (part tree inner others) = count_of inner + 1 + count_of others

-- the greatest number of them within one another
abbrev pub nesting_of : Parts → ℕ
nesting_of none = 0
nesting_of (part tree inner others) = max (nesting_of inner + 1) (nesting_of others)

-- the greatest number of branches open at once, in one part
abbrev pub parts_depth : Parts → ℕ
parts_depth none = 0
parts_depth (part tree inner others) = max (walk.depth_of tree.tail) (max (parts_depth inner) (parts_depth others))

abbrev pub items_depth : List Item → ℕ
items_depth [] = 0
items_depth (x ∷ xs) = max (walk.depth_of (tree_of x).tail) (items_depth xs)

abbrev pub whole_depth : Whole → ℕ
whole_depth whole = max (items_depth (whole.first ∷ whole.others)) (parts_depth whole.parts)
