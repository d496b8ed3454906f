-- The meaning of a pattern's text: its graphs, with the numbers of recursive parts and the numbers that are not
-- written. For callers.
use Rattle.std.specs.Prelude.{◌≡◌, ℕ, zero, suc, ◌+◌, List, [], ◌∷◌, ◌++◌, length, map, drop, replicate, Option, None, Some, unwrap_or}
use Rattle.line_walk.specs.Places.{placed_nodes, entries_from, atoms_by}
use Rattle.line_walk.specs.Partners.{IsGraph}
use Rattle.line_walk.specs.declared.pairs.Link.{Link}
use Rattle.smarts_words.specs.declared.word.Step.{Step}
use Rattle.smarts_words.specs.declared.word.Step.TheVariants as steps
use Rattle.smarts_words.specs.declared.word.Letter.{Letter}
use Rattle.smarts_words.specs.declared.word.Letter.TheVariants as letters
use Rattle.smarts_words.specs.declared.word.AtomWord.{AtomWord}
use Rattle.smarts_words.specs.declared.word.AtomWord.TheVariants as words
use Rattle.smarts_words.specs.declared.word.BondWord.{BondWord}
use Rattle.smarts_words.specs.declared.word.BondWord.TheVariants as bond_words
use Rattle.smarts_words.specs.Bracket.{AtomValue}
use Rattle.smarts_words.specs.Words.{smarts_words}
use Rattle.smarts_parse.specs.declared.pattern.AtomPrim.{AtomPrim}
use Rattle.smarts_parse.specs.declared.pattern.AtomPrim.TheVariants as atoms
use Rattle.smarts_parse.specs.declared.pattern.BondPrim.{BondPrim}
use Rattle.smarts_parse.specs.declared.pattern.BondPrim.TheVariants as bonds
use Rattle.smarts_parse.specs.Pattern.{Term, Prim, Not, And, Or, BondTerm, GraphTerm, PatternTerm}
use Rattle.smarts_parse.specs.Whole.{Tree, Nodes, Item, plain, group, Parts, none, part, Whole, nodes_of, count_of}

-- an expression in postfix order
abbrev pub postfix : {P : Type 0} → Term P → List (Step P)
postfix (Prim p) = steps.Prim p ∷ []
postfix (Not e) = postfix e ++ steps.Not ∷ []
postfix (And e f) = postfix e ++ (postfix f ++ steps.And ∷ [])
postfix (Or e f) = postfix e ++ (postfix f ++ steps.Or ∷ [])

-- A letter and its number. If no number is written it is 1, or at least 1 for `h` and `x`; `R` and `r` then ask for any
-- ring.
abbrev pub count_prim : Letter → Option ℕ → AtomPrim
count_prim letters.Degree n = atoms.Degree (unwrap_or n 1)
count_prim letters.TotalH n = atoms.TotalH (unwrap_or n 1)
count_prim letters.ImplicitH n = atoms.ImplicitH n
count_prim letters.Valence n = atoms.Valence (unwrap_or n 1)
count_prim letters.Connect n = atoms.Connect (unwrap_or n 1)
count_prim letters.RingBonds n = atoms.RingBonds n
count_prim letters.Rings None = atoms.Ring
count_prim letters.Rings (Some n) = atoms.NoRing
count_prim letters.RingSize None = atoms.Ring
count_prim letters.RingSize (Some zero) = atoms.NoRing
count_prim letters.RingSize (Some (suc n)) = atoms.Small (suc n)

-- a primitive of an atom; the recursive part has this number. Configurations have no meaning, and are refused.
abbrev pub atom_prim : ℕ → AtomWord → AtomPrim
atom_prim k words.Any = atoms.Any
atom_prim k words.Aromatic = atoms.Aromatic
atom_prim k words.Aliphatic = atoms.Aliphatic
atom_prim k (words.Symbol number lower) = atoms.Symbol number lower
atom_prim k (words.Number n) = atoms.Number n
atom_prim k (words.Count letter n) = count_prim letter n
atom_prim k (words.Charge c) = atoms.Charge c
atom_prim k (words.Mass n) = atoms.Mass n
atom_prim k words.Part = atoms.Rec k
atom_prim k words.Stereo = atoms.Any

-- the steps of an atom, whose recursive parts have these numbers from left to right
abbrev pub atom_steps : List ℕ → List (Step AtomWord) → List (Step AtomPrim)
atom_steps ns [] = []
atom_steps (n ∷ ns) (steps.Prim words.Part ∷ ss) = steps.Prim (atoms.Rec n) ∷ atom_steps ns ss
atom_steps ns (steps.Prim word ∷ ss) = steps.Prim (atom_prim 0 word) ∷ atom_steps ns ss
atom_steps ns (steps.Not ∷ ss) = steps.Not ∷ atom_steps ns ss
atom_steps ns (steps.And ∷ ss) = steps.And ∷ atom_steps ns ss
atom_steps ns (steps.Or ∷ ss) = steps.Or ∷ atom_steps ns ss

-- atoms, whose recursive parts together have these numbers
abbrev pub atoms_steps : List ℕ → List AtomValue → List (List (Step AtomPrim))
atoms_steps ns [] = []
atoms_steps ns (x ∷ xs) = atom_steps ns x.steps ∷ atoms_steps (drop (length x.parts) ns) xs

abbrev pub bond_prim : BondWord → BondPrim
bond_prim bond_words.Single = bonds.Single
bond_prim bond_words.Double = bonds.Double
bond_prim bond_words.Triple = bonds.Triple
bond_prim bond_words.Quad = bonds.Quad
bond_prim bond_words.Aromatic = bonds.Aromatic
bond_prim bond_words.Any = bonds.Any
bond_prim bond_words.Ring = bonds.Ring
bond_prim bond_words.Up = bonds.Single
bond_prim bond_words.Down = bonds.Single

abbrev pub bond_step : Step BondWord → Step BondPrim
bond_step (steps.Prim word) = steps.Prim (bond_prim word)
bond_step steps.Not = steps.Not
bond_step steps.And = steps.And
bond_step steps.Or = steps.Or

-- no expression is an unwritten bond
abbrev pub bond_steps : List (Step BondWord) → List (Step BondPrim)
bond_steps [] = steps.Prim bonds.Unwritten ∷ []
bond_steps ss = map bond_step ss

-- a bond of the text is this bond of the pattern
pub record IsBondTerm (link : Link (List (Step BondWord))) (bond : BondTerm) : Type 0 where
  pub a : bond.a ≡ link.a
  pub b : bond.b ≡ link.b
  pub expr : postfix bond.expr ≡ bond_steps link.kind

abbrev pub AreBondTerms : List (Link (List (Step BondWord))) → List BondTerm → Type 0
AreBondTerms [] [] = Unit {0}
AreBondTerms (x ∷ xs) (y ∷ ys) = IsBondTerm x y × AreBondTerms xs ys
AreBondTerms _ _ = ⊥

-- the number for each atom of a tree
abbrev pub for_each : Tree → ℕ → List ℕ
for_each tree n = replicate (length (placed_nodes tree)) n

-- The group of each atom: the number of its parentheses, counted from n + 1 in order, or 0 outside of them (Daylight
-- Theory Manual, section 4.5).
abbrev pub groups_from : ℕ → List Item → List ℕ
groups_from n [] = []
groups_from n (plain tree ∷ items) = for_each tree 0 ++ groups_from n items
groups_from n (group tree ∷ items) = for_each tree (n + 1) ++ groups_from (n + 1) items

abbrev pub groups_of : Whole → List ℕ
groups_of whole = groups_from 0 (whole.first ∷ whole.others)

-- The graph of nodes, whose recursive parts have these numbers: their atoms, the bonds of the chain and of ring
-- numbers, and these groups
pub record IsGraphTerm (nodes : Nodes) (numbers groups : List ℕ) (g : GraphTerm) : Type 0 where
  pub atoms : map postfix g.atoms ≡ atoms_steps numbers (atoms_by smarts_words nodes)
  pub links : List (Link (List (Step BondWord)))
  pub pair : IsGraph smarts_words.agreed (entries_from smarts_words 0 nodes) links
  pub bonds : AreBondTerms links g.bonds
  pub grouped : g.groups ≡ groups

-- Recursive parts are numbered as their parentheses close, the first of them the n-th: inner ones before outer ones
abbrev pub numbers_from : ℕ → Parts → List ℕ
numbers_from n none = []
numbers_from n (part tree inner others) = (n + count_of inner) ∷ numbers_from (n + count_of inner + 1) others

-- the graphs of recursive parts in that order, which have no groups
abbrev pub ArePartTerms : ℕ → Parts → List GraphTerm → Type 0
ArePartTerms n none gs = gs ≡ []
ArePartTerms n (part tree inner others) gs =
    (before : List GraphTerm) × (g : GraphTerm) × (after : List GraphTerm) × (gs ≡ before ++ g ∷ after)
    × ArePartTerms n inner before × IsGraphTerm (placed_nodes tree) (numbers_from n inner) (for_each tree 0) g
    × ArePartTerms (n + count_of inner + 1) others after

-- the pattern of a whole text
abbrev pub IsPatternOf : Whole → PatternTerm → Type 0
IsPatternOf whole p = ArePartTerms 0 whole.parts p.recs × IsGraphTerm (nodes_of whole)
    (numbers_from 0 whole.parts) (groups_of whole) p.top
