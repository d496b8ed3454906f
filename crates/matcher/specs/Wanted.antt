-- For private clauses alone: the classes of the atoms at which each recursive part is asked.
use Rattle.std.specs.Prelude.{◌≡◌, ℕ, List, slice_index, All}
use Rattle.std.specs.Int.{bit_at}
use Rattle.smarts_parse.specs.declared.pattern.AtomPrim.{AtomPrim}
use Rattle.smarts_parse.specs.declared.pattern.AtomPrim.TheVariants.{Rec}
use Rattle.smarts_parse.specs.Pattern.{Term, Prim, Not, And, Or, GraphTerm, PatternTerm}
use Rattle.matcher.specs.Class.{Covers}

-- a recursive part that is named is one of these
abbrev pub PrimNames : (ℕ → Type 0) → AtomPrim → Type 0
PrimNames S (Rec k) = S k
PrimNames S _ = Unit {0}

-- the recursive parts that the expression names are all of these
abbrev pub NamesOnly : (ℕ → Type 0) → Term AtomPrim → Type 0
NamesOnly S (Prim p) = PrimNames S p
NamesOnly S (Not e) = NamesOnly S e
NamesOnly S (And e f) = NamesOnly S e × NamesOnly S f
NamesOnly S (Or e f) = NamesOnly S e × NamesOnly S f

-- the second word has the classes of the first
abbrev pub IsWithin : ℕ → ℕ → Type 0
IsWithin xs ys = (c : ℕ) → bit_at xs c ≡ 1 → bit_at ys c ≡ 1

-- as `IsWithin`, of each word of a list and the word at its place in another
abbrev pub AreWithin : List ℕ → List ℕ → Type 0
AreWithin old new = (k : ℕ) → IsWithin (slice_index old k) (slice_index new k)

-- each part that the expression names is asked at the atoms where the expression may be true
abbrev pub IsAsked : List ℕ → Term AtomPrim → Type 0
IsAsked wanted e = NamesOnly (λ k. Covers (slice_index wanted k) e) e

-- as `IsAsked`, of each expression of a pattern's graphs
pub record AreWanted (p : PatternTerm) (wanted : List ℕ) : Type 0 where
  pub top : All (IsAsked wanted) p.top.atoms
  pub parts : All (λ (g : GraphTerm). All (IsAsked wanted) g.atoms) p.recs
