-- The input of a pattern's building, and its progress: for private clauses only.
use Rattle.std.specs.Prelude.{◌≡◌, ℕ, ◌≤◌, false, List, ◌++◌, length}
use Rattle.std.specs.List.{list_any, AllByRecursion}
use Rattle.line_walk.specs.Places.{atoms_by}
use Rattle.line_walk.specs.Walk.{IsGraphBy}
use Rattle.smarts_words.specs.Bracket.{AtomValue}
use Rattle.smarts_words.specs.Words.{smarts_words}
use Rattle.smarts_parse.specs.declared.close.Closed.{Closed}
use Rattle.smarts_parse.specs.Pattern.{GraphTerm}
use Rattle.smarts_parse.specs.Whole.{Tree, Nodes, Parts, part_texts, tree_atoms, AreParts, Whole, top_atoms, all_atoms, count_of}
use Rattle.smarts_parse.specs.Meaning.{numbers_from, ArePartTerms}
use Rattle.smarts_parse.specs.Reading.{is_stereo}
use Rattle.smarts_parse.specs.Draft.{WalkGraph, Close, AreGraphs, AreClosed}

-- few atoms, and no configuration
pub record AreFit (values : List AtomValue) : Type 0 where
  pub plain : list_any (λ a. list_any is_stereo a.steps) values ≡ false
  pub few : length values ≤ 256

-- the text can be built
pub record IsBuildable (whole : Whole) (closed : Closed) : Type 0 where
  pub are : AreClosed whole closed
  pub parts : AreParts (part_texts (top_atoms whole)) whole.parts
  pub fit : AreFit (all_atoms whole)
  pub few : count_of whole.parts ≤ 64

-- the input of one graph: its nodes, and the numbers of the open recursive parts, the last of which are its own
pub record IsReady (nodes : Nodes) (front numbers : List ℕ) (graph : WalkGraph) (open_numbers : List ℕ) : Type 0 where
  pub is : IsGraphBy smarts_words nodes graph
  pub numbered : open_numbers ≡ front ++ numbers
  pub own : length numbers ≡ length (part_texts (atoms_by smarts_words nodes))
  pub fit : AreFit (atoms_by smarts_words nodes)
  pub few : length open_numbers ≤ 64

-- Of all recursive parts these are left to build; the others are built, and those of them that are open have these
-- numbers.
pub record IsBuilt (all : Parts) (left : List WalkGraph) (open_numbers : List ℕ) (recs : List GraphTerm) : Type 0 where
  pub parts : Parts
  pub trees : List Tree
  pub closing : Close parts trees all
  pub graphs : AreGraphs trees left
  pub fit : AllByRecursion (λ t. AreFit (tree_atoms t)) trees
  pub few : count_of all ≤ 64
  pub numbered : open_numbers ≡ numbers_from 0 parts
  pub terms : ArePartTerms 0 parts recs
