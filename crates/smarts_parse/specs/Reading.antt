-- The answer to a text: the pattern that it means, or the first of its faults in this order. Want of memory may come at
-- any text. For callers.
use Rattle.std.specs.Prelude.{◌≡◌, ◌⊎◌, ℕ, zero, suc, ◌<◌, ◌≤◌, Bool, true, false, List, length, Contains, Some, Result, Ok, Err}
use Rattle.std.specs.List.{list_any}
use Rattle.line_walk.specs.Places.{placed_nodes, entries_from}
use Rattle.line_walk.specs.Partners.{IsGraph}
use Rattle.line_walk.specs.declared.pairs.Link.{Link}
use Rattle.smarts_words.specs.declared.word.Step.{Step}
use Rattle.smarts_words.specs.declared.word.Step.TheVariants as steps
use Rattle.smarts_words.specs.declared.word.Letter.TheVariants as letters
use Rattle.smarts_words.specs.declared.word.AtomWord.{AtomWord}
use Rattle.smarts_words.specs.declared.word.AtomWord.TheVariants as words
use Rattle.smarts_words.specs.declared.word.BondWord.{BondWord}
use Rattle.smarts_words.specs.Words.{smarts_words}
use Rattle.smarts_parse.specs.declared.fault.SmartsFault.{SmartsFault}
use Rattle.smarts_parse.specs.declared.fault.SmartsFault.TheVariants.{Reaction, Syntax, Stereo, RingSet, Ring, Limit, NoMemory}
use Rattle.smarts_parse.specs.declared.pattern.Pattern as pattern
use Rattle.smarts_parse.specs.Pattern.{PatternTerm, pattern_of}
use Rattle.smarts_parse.specs.Whole.{Nodes, Parts, none, part, Whole, IsWholeOf, nodes_of, all_atoms, count_of, nesting_of, whole_depth}
use Rattle.smarts_parse.specs.Meaning.{IsPatternOf}

-- the longest text that is looked at
abbrev pub most_bytes : ℕ
most_bytes = 4096

abbrev pub is_stereo : Step AtomWord → Bool
is_stereo (steps.Prim words.Stereo) = true
is_stereo _ = false

-- a count of rings of a ring set: `R` and a number that is not 0
abbrev pub is_ring_set : Step AtomWord → Bool
is_ring_set (steps.Prim (words.Count letters.Rings (Some zero))) = false
is_ring_set (steps.Prim (words.Count letters.Rings (Some (suc n)))) = true
is_ring_set _ = false

-- A configuration is at an atom, or `/` or `\` is in the text. No other piece of the grammar has these two bytes, so
-- they are in the text exactly if a bond has a configuration.
abbrev pub HasStereo : List ℕ → Whole → Type 0
HasStereo text whole = (list_any (λ a. list_any is_stereo a.steps) (all_atoms whole) ≡ true) ⊎ Contains text 47
    ⊎ Contains text 92

abbrev pub HasRingSet : Whole → Type 0
HasRingSet whole = list_any (λ a. list_any is_ring_set a.steps) (all_atoms whole) ≡ true

-- the ring numbers of nodes pair
abbrev pub DoPair : Nodes → Type 0
DoPair nodes = (links : List (Link (List (Step BondWord))))
    × IsGraph smarts_words.agreed (entries_from smarts_words 0 nodes) links

-- a recursive part has ring numbers of its own
abbrev pub DoPartsPair : Parts → Type 0
DoPartsPair none = Unit {0}
DoPartsPair (part tree inner others) = DoPair (placed_nodes tree) × DoPartsPair inner × DoPartsPair others

abbrev pub DoRingsPair : Whole → Type 0
DoRingsPair whole = DoPair (nodes_of whole) × DoPartsPair whole.parts

-- 256 atoms in all parts together, 64 recursive parts, 8 of them within one another, 256 branches open at once
pub record IsWithinLimits (whole : Whole) : Type 0 where
  pub atoms : length (all_atoms whole) ≤ 256
  pub parts : count_of whole.parts ≤ 64
  pub nesting : nesting_of whole.parts ≤ 8
  pub depth : whole_depth whole ≤ 256

-- the text is one that is looked at, and has this tree
pub record IsRead (text : List ℕ) (whole : Whole) : Type 0 where
  pub short : length text ≤ most_bytes
  pub reaction : ¬ Contains text 62
  pub is : IsWholeOf text whole

-- The facts before a cause: no earlier cause of the order
abbrev pub NoStereo : List ℕ → Whole → Type 0
NoStereo text whole = IsRead text whole × ¬ HasStereo text whole

abbrev pub NoRingSet : List ℕ → Whole → Type 0
NoRingSet text whole = NoStereo text whole × ¬ HasRingSet whole

abbrev pub NoRing : List ℕ → Whole → Type 0
NoRing text whole = NoRingSet text whole × DoRingsPair whole

abbrev pub NoLimit : List ℕ → Whole → Type 0
NoLimit text whole = NoRing text whole × IsWithinLimits whole

abbrev pub IsReading : List ℕ → Result PatternTerm SmartsFault → Type 0
IsReading text (Ok pattern) = (whole : Whole) × NoLimit text whole × IsPatternOf whole pattern
IsReading text (Err Reaction) = (length text ≤ most_bytes) × Contains text 62
IsReading text (Err Syntax) = (length text ≤ most_bytes) × ¬ Contains text 62
    × ((whole : Whole) → IsWholeOf text whole → ⊥)
IsReading text (Err Stereo) = (whole : Whole) × IsRead text whole × HasStereo text whole
IsReading text (Err RingSet) = (whole : Whole) × NoStereo text whole × HasRingSet whole
IsReading text (Err Ring) = (whole : Whole) × NoRingSet text whole × ¬ DoRingsPair whole
IsReading text (Err Limit) = (most_bytes < length text) ⊎ ((whole : Whole) × NoRing text whole × ¬ IsWithinLimits whole)
IsReading text (Err NoMemory) = Unit {0}

-- the answer in terms of plain patterns
abbrev pub answer_of : Result pattern.Pattern SmartsFault → Result PatternTerm SmartsFault
answer_of (Ok p) = Ok (pattern_of p)
answer_of (Err fault) = Err fault
