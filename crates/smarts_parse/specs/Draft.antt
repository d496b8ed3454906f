-- A text and its recursive parts as they are read: for private clauses only.
use Rattle.std.specs.Prelude.{◌≡◌, ℕ, ◌+◌, max, Bool, true, false, ◌||◌, List, [], ◌∷◌, ◌++◌, length, map, reverse}
use Rattle.std.specs.List.{list_any, AllByRecursion}
use Rattle.line_walk.specs.Tree as walk
use Rattle.line_walk.specs.Places.{placed_at, placed_nodes}
use Rattle.line_walk.specs.Follow.{Stops}
use Rattle.line_walk.specs.Walk.{Holds, IsGraphBy}
use Rattle.line_walk.specs.declared.reader.Reader.{Reader}
use Rattle.line_walk.specs.declared.read.Graph.{Graph}
use Rattle.smarts_words.specs.declared.word.Step.{Step}
use Rattle.smarts_words.specs.declared.word.BondWord.{BondWord}
use Rattle.smarts_words.specs.Bracket.{AtomValue}
use Rattle.smarts_words.specs.Words.{smarts_words}
use Rattle.smarts_parse.specs.declared.draft.Sizes.{Sizes}
use Rattle.smarts_parse.specs.declared.draft.Part.{Part}
use Rattle.smarts_parse.specs.declared.draft.Draft.{Draft}
use Rattle.smarts_parse.specs.declared.close.Closed.{Closed}
use Rattle.smarts_parse.specs.Whole.{Tree, Nodes, Item, plain, group, tree_of, item_text, others_text, AreItems, nodes_from, items_depth, Parts, none, part, part_texts, tree_atoms, AreParts, Whole, nodes_of, all_atoms, count_of, nesting_of, whole_depth}
use Rattle.smarts_parse.specs.Meaning.{groups_from, groups_of}
use Rattle.smarts_parse.specs.Reading.{DoPair, DoRingsPair}
use Rattle.smarts_parse.specs.declared.fault.SmartsFault.{SmartsFault}
use Rattle.smarts_parse.specs.declared.fault.SmartsFault.TheVariants.{Ring, NoMemory}

-- a reader of SMARTS
abbrev pub Read : Type 0
Read = Reader AtomValue (List (Step BondWord))

-- atoms and bonds as they are written
abbrev pub WalkGraph : Type 0
WalkGraph = Graph AtomValue (List (Step BondWord))

-- the bytes at which the walk that reads an item ends
abbrev pub StopsAfter : Item → List ℕ → Type 0
StopsAfter (plain tree) rest = Stops rest
StopsAfter (group tree) rest = Unit {0}

-- the bytes begin as the item, and then there is more
pub record IsItemOf (bytes : List ℕ) (item : Item) (rest : List ℕ) : Type 0 where
  pub tree : walk.IsTree smarts_words (tree_of item)
  pub spelled : bytes ≡ item_text item ++ rest
  pub stops : StopsAfter item rest

-- the item is in parentheses
abbrev pub is_group : Item → Bool
is_group (plain tree) = false
is_group (group tree) = true

-- an item was read: the reader held the nodes of `front`, and holds those of the item too
pub record IsItemRead (front : Nodes) (old new : Read) (bytes : List ℕ) (is_grouped : Bool) (rest : List ℕ) : Type 0
  where
    pub item : Item
    pub is : IsItemOf bytes item rest
    pub holds : Holds smarts_words (front ++ placed_at (length front) (tree_of item)) new
    pub depth : new.depth ≡ max old.depth (walk.depth_of (tree_of item).tail)
    pub grouped : is_grouped ≡ is_group item

-- the items of a text were read
pub record AreItemsRead (text : List ℕ) (reader : Read) (groups : List ℕ) : Type 0 where
  pub first : Item
  pub others : List Item
  pub are : AreItems first others
  pub spelled : text ≡ item_text first ++ others_text others
  pub holds : Holds smarts_words (nodes_from 0 (first ∷ others)) reader
  pub depth : reader.depth ≡ items_depth (first ∷ others)
  pub grouped : groups ≡ groups_from 0 (first ∷ others)

-- recursive parts and then others
abbrev pub join : Parts → Parts → Parts
join none q = q
join (part tree inner others) q = part tree inner (join others q)

-- Recursive parts change as parentheses close, in the order of these trees. The last parts so far are those in the
-- tree, and the tree's part replaces them.
abbrev pub Close : Parts → List Tree → Parts → Type 0
Close p [] all = p ≡ all
Close p (tree ∷ trees) all =
    (before : Parts) × (inner : Parts) × (p ≡ join before inner) × AreParts (part_texts (tree_atoms tree)) inner
    × Close (join before (part tree inner none)) trees all

-- each reader holds the nodes of a tree
abbrev pub AreRead : List Tree → List Read → Type 0
AreRead [] [] = Unit {0}
AreRead (tree ∷ trees) (reader ∷ readers) = Holds smarts_words (placed_nodes tree) reader × AreRead trees readers
AreRead _ _ = ⊥

-- each is the graph of a tree
abbrev pub AreGraphs : List Tree → List WalkGraph → Type 0
AreGraphs [] [] = Unit {0}
AreGraphs (tree ∷ trees) (graph ∷ graphs) = IsGraphBy smarts_words (placed_nodes tree) graph × AreGraphs trees graphs
AreGraphs _ _ = ⊥

-- The draft of a text: its recursive parts are read in the order opposite to that in which their parentheses close.
pub record IsDraftOf (whole : Whole) (d : Draft) : Type 0 where
  pub top : Holds smarts_words (nodes_of whole) d.top
  pub trees : List Tree
  pub closing : Close none trees whole.parts
  pub parts : AreRead trees (reverse d.parts.items)
  pub groups : d.groups.items ≡ groups_of whole
  pub atoms : d.sizes.atoms ≡ length (all_atoms whole)
  pub count : d.sizes.parts ≡ count_of whole.parts
  pub nesting : d.sizes.nesting ≡ nesting_of whole.parts
  pub depth : d.sizes.depth ≡ whole_depth whole

-- the graphs of a text, those of its recursive parts in the order in which their parentheses close, and the groups of
-- its atoms
pub record AreClosed (whole : Whole) (closed : Closed) : Type 0 where
  pub top : IsGraphBy smarts_words (nodes_of whole) closed.top
  pub trees : List Tree
  pub closing : Close none trees whole.parts
  pub parts : AreGraphs trees closed.parts.items
  pub groups : closed.groups.items ≡ groups_of whole

-- why a draft is not closed: some ring numbers do not pair, or memory ran out
abbrev pub IsOpenBy : Whole → SmartsFault → Type 0
IsOpenBy whole Ring = ¬ DoRingsPair whole
IsOpenBy whole NoMemory = Unit {0}
IsOpenBy whole _ = ⊥

-- as `IsOpenBy`, of recursive parts
abbrev pub AreOpenBy : List Tree → SmartsFault → Type 0
AreOpenBy trees Ring = ¬ AllByRecursion (λ t. DoPair (placed_nodes t)) trees
AreOpenBy trees NoMemory = Unit {0}
AreOpenBy trees _ = ⊥

-- an atom of a draft passes a test
abbrev pub any_atom : (AtomValue → Bool) → Draft → Bool
any_atom test d = list_any test d.top.atoms.items || list_any (λ r. list_any test r.atoms.items) d.parts.items

-- the sizes of one text are taken in, which is within `level` recursive parts, itself included
pub record IsTaken (old new : Sizes) (count deep level : ℕ) : Type 0 where
  pub atoms : new.atoms ≡ old.atoms + count
  pub parts : new.parts ≡ old.parts
  pub nesting : new.nesting ≡ max old.nesting level
  pub depth : new.depth ≡ max old.depth deep

-- a recursive part that is left to read, and the number of parts round it, itself included
pub record Left : Type 0 where
  pub text : List ℕ
  pub level : ℕ

abbrev pub left_of : Part → Left
left_of p = record { text = p.text.items; level = p.level }

abbrev pub at_level : ℕ → List (List ℕ) → List Left
at_level level texts = map (λ t. record { text = t; level = level }) texts
