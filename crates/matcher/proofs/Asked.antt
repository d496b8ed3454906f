-- The classes at which recursive parts are asked: more of them, and enough.
use Rattle.std.proofs.Common.{◌≡◌, ℕ, ◌<◌, List, length, get_or, set, slice_get, slice_index, Some, All, bit_or, sym, ap, ◌∙◌, subst, inl, inr}
use Rattle.std.specs.Int.{bit_at}
use Rattle.std.proofs.lemmas.Bool.{cases_eq}
use Rattle.std.proofs.lemmas.List.{get_or-set_other, get_or-set_same}
use Rattle.std.proofs.lemmas.Option.{get_or_from_slice_get, slice_get_within}
use Rattle.smarts_parse.specs.declared.pattern.AtomPrim.{AtomPrim}
use Rattle.smarts_parse.specs.declared.pattern.AtomPrim.TheVariants as atoms
use Rattle.smarts_parse.specs.Pattern.{Term, Prim, Not, And, Or, GraphTerm, PatternTerm}
use Rattle.smarts_parse.specs.Sound.{NamesBelow, PrimNamesBelow}
use Rattle.matcher.specs.Class.{Covers}
use Rattle.matcher.specs.Wanted.{AreWanted, AreWithin, IsAsked, IsWithin, NamesOnly, PrimNames}
use Rattle.matcher.proofs.Classes.{or_one, or_two}

names_prim_all : (S T : ℕ → Type 0) (n : ℕ) (p : AtomPrim) → PrimNamesBelow n p → PrimNames S p
    → ((k : ℕ) → k < n → S k → T k) → PrimNames T p
names_prim_all S T n (atoms.Rec k) below h to = to k below h
names_prim_all S T n _ below h to = tt

-- what holds of the parts that an expression names
pub names_all : (S T : ℕ → Type 0) (n : ℕ) (e : Term AtomPrim) → NamesBelow n e → NamesOnly S e
    → ((k : ℕ) → k < n → S k → T k) → NamesOnly T e
names_all S T n (Prim p) below h to = names_prim_all S T n p below h to
names_all S T n (Not e) below h to = names_all S T n e below h to
names_all S T n (And e f) below h to = (names_all S T n e below.0 h.0 to, names_all S T n f below.1 h.1 to)
names_all S T n (Or e f) below h to = (names_all S T n e below.0 h.0 to, names_all S T n f below.1 h.1 to)

names_prim_below : (S : ℕ → Type 0) (n : ℕ) (p : AtomPrim) → PrimNamesBelow n p → ((k : ℕ) → k < n → S k)
    → PrimNames S p
names_prim_below S n (atoms.Rec k) below all = all k below
names_prim_below S n _ below all = tt

-- what holds of all parts of numbers below n
pub names_below : (S : ℕ → Type 0) (n : ℕ) (e : Term AtomPrim) → NamesBelow n e → ((k : ℕ) → k < n → S k)
    → NamesOnly S e
names_below S n (Prim p) below all = names_prim_below S n p below all
names_below S n (Not e) below all = names_below S n e below all
names_below S n (And e f) below all = (names_below S n e below.0 all, names_below S n f below.1 all)
names_below S n (Or e f) below all = (names_below S n e below.0 all, names_below S n f below.1 all)

-- classes are added to a word of a list
pub within_set : (old : List ℕ) (n classes : ℕ) → n < length old
    → AreWithin old (set old n (bit_or (get_or old n 0) classes))
within_set old n classes lt k c yes' = elim (cases_eq k n) [
  | inl at ↦ subst (λ w. bit_at w c ≡ 1)
      (sym (ap (slice_index (set old n (bit_or (get_or old n 0) classes))) at ∙ here))
      (or_one (get_or old n 0) classes c (subst (λ i. bit_at (slice_index old i) c ≡ 1) at yes'))
  | inr apart ↦ subst (λ w. bit_at w c ≡ 1)
      (sym (get_or-set_other old n k (bit_or (get_or old n 0) classes) 0 apart)) yes'
]
  where
    here : slice_index (set old n (bit_or (get_or old n 0) classes)) n ≡ bit_or (get_or old n 0) classes
    here = get_or-set_same old n (bit_or (get_or old n 0) classes) 0 lt

pub set_within : (old : List ℕ) (n classes : ℕ) → n < length old
    → IsWithin classes (slice_index (set old n (bit_or (get_or old n 0) classes)) n)
set_within old n classes lt c yes' = subst (λ w. bit_at w c ≡ 1)
    (sym (get_or-set_same old n (bit_or (get_or old n 0) classes) 0 lt)) (or_two (get_or old n 0) classes c yes')

-- an expression whose classes each part that it names has
pub asked_by : (wanted : List ℕ) (classes : ℕ) (e : Term AtomPrim) → NamesBelow 64 e → Covers classes e
    → NamesOnly (λ k. IsWithin classes (slice_index wanted k)) e → IsAsked wanted e
asked_by wanted classes e below covers named = names_all (λ k. IsWithin classes (slice_index wanted k))
    (λ k. Covers (slice_index wanted k) e) 64 e below named (λ k l h c lt may. h c (covers c lt may))

-- it stays so where classes are added
pub asked_more : (old new : List ℕ) (e : Term AtomPrim) → NamesBelow 64 e → AreWithin old new → IsAsked old e
    → IsAsked new e
asked_more old new e below more asked = names_all (λ k. Covers (slice_index old k) e)
    (λ k. Covers (slice_index new k) e) 64 e below asked (λ k l h c lt may. more k c (h c lt may))

pub all_asked_more : (old new : List ℕ) (es : List (Term AtomPrim)) → All (NamesBelow 64) es → AreWithin old new
    → All (IsAsked old) es → All (IsAsked new) es
all_asked_more old new es below more asked k d l = asked_more old new (get_or es k d) (below k d l) more (asked k d l)

-- the expressions of a part
pub asked_of : (p : PatternTerm) (wanted : List ℕ) (k : ℕ) (g : GraphTerm) → AreWanted p wanted
    → slice_get p.recs k ≡ Some g → All (IsAsked wanted) g.atoms
asked_of p wanted k g asked get = subst (λ (h : GraphTerm). All (IsAsked wanted) h.atoms)
    (get_or_from_slice_get p.recs k g g get) (asked.parts k g (slice_get_within p.recs k g get))

-- what an expression wants stays so where classes are added
pub named_more : (mid new : List ℕ) (classes : ℕ) (e : Term AtomPrim) → NamesBelow 64 e → AreWithin mid new
    → NamesOnly (λ k. IsWithin classes (slice_index mid k)) e → NamesOnly (λ k. IsWithin classes (slice_index new k)) e
named_more mid new classes e below more named = names_all (λ k. IsWithin classes (slice_index mid k))
    (λ k. IsWithin classes (slice_index new k)) 64 e below named (λ k l h c yes'. more k c (h c yes'))
