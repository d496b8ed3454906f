-- Where recursive parts hold, by their numbers; an embedding asks about those alone that its graph names.
use Rattle.std.proofs.Common.{◌≡◌, ◌↔◌, ◌==◌, ◌+◌, ◌*◌, ◌/◌, ◌%◌, ◌<◌, ◌≤◌, true, false, ℕ, suc, List, [], ◌∷◌, length, get_or, slice_get, slice_index, slice_index_or, Some, None, All, MatchBool, sum_by, refl, sym, ap, ◌∙◌, subst, inl, inr, ⊎_elim, arith}
use Rattle.std.proofs.lemmas.Bool.{cases_eq, eq-eqb, ne_eqb}
use Rattle.std.proofs.lemmas.List.Sums.{get_or-le-sum_by}
use Rattle.std.specs.Int.{bit_at}
use Rattle.std.proofs.lemmas.Option.{get_or_from_slice_get, none-some, same_Some, slice_get-get_or, slice_get_within}
use Rattle.chem_core.specs.declared.mol.Atom.{Atom}
use Rattle.chem_core.specs.Molecule.{Molecule}
use Rattle.chem_core.specs.Symbols.{class_of}
use Rattle.smarts_mean.specs.Table.{HoldsIn, Table, holds_at}
use Rattle.smarts_parse.specs.declared.pattern.AtomPrim.{AtomPrim}
use Rattle.smarts_parse.specs.declared.pattern.AtomPrim.TheVariants as atoms
use Rattle.smarts_parse.specs.Pattern.{Term, Prim, Not, And, Or, GraphTerm, PatternTerm}
use Rattle.smarts_parse.specs.Sound.{IsSoundPattern, NamesBelow, PrimNamesBelow}
use Rattle.smarts_parse.specs.Truth.{AtomTrue, AtomPrimTrue}
use Rattle.smarts_parse.specs.Embedding.{IsEmbedding, Matches, PartsHold}
use Rattle.matcher.specs.Class.{Covers}
use Rattle.matcher.specs.Partial.{CanComplete, IsLeastFrom, IsSearchable, Parts}
use Rattle.matcher.specs.Least.{IsLeast}
use Rattle.matcher.specs.Parts.{AreBeginnings, AreNoted, AreSoundParts, HoldAlike}
use Rattle.matcher.specs.Wanted.{AreWanted, IsAsked, NamesOnly, PrimNames}
use Rattle.matcher.proofs.Classes.{class_below, may_be_true, no_element}
use Rattle.matcher.proofs.Asked.{names_all}

names_prim : (j n : ℕ) → j ≤ n → (p : AtomPrim) → PrimNamesBelow j p → PrimNamesBelow n p
names_prim j n l (atoms.Rec k) h = omega (arith, h)
names_prim j n l _ h = tt

-- parts below a number are below a higher one
pub names_more : (j n : ℕ) → j ≤ n → (e : Term AtomPrim) → NamesBelow j e → NamesBelow n e
names_more j n l (Prim p) h = names_prim j n l p h
names_more j n l (Not e) h = names_more j n l e h
names_more j n l (And e f) h = (names_more j n l e h.0, names_more j n l f h.1)
names_more j n l (Or e f) h = (names_more j n l e h.0, names_more j n l f h.1)

parts_prim : (P Q : Parts) (p : AtomPrim) (m : Molecule) (a : ℕ) (x : Atom) → PrimNames (λ k. P k a ↔ Q k a) p
    → AtomPrimTrue P p m a x ↔ AtomPrimTrue Q p m a x
parts_prim P Q (atoms.ImplicitH None) m a x same = (λ h. h, λ h. h)
parts_prim P Q (atoms.ImplicitH (Some k)) m a x same = (λ h. h, λ h. h)
parts_prim P Q (atoms.RingBonds None) m a x same = (λ h. h, λ h. h)
parts_prim P Q (atoms.RingBonds (Some k)) m a x same = (λ h. h, λ h. h)
parts_prim P Q (atoms.Rec k) m a x same = same
parts_prim P Q _ m a x same = (λ h. h, λ h. h)

-- an expression is as true where the parts that it names hold alike
pub parts_term : (P Q : Parts) (e : Term AtomPrim) (m : Molecule) (a : ℕ) → NamesOnly (λ k. P k a ↔ Q k a) e
    → AtomTrue P e m a ↔ AtomTrue Q e m a
parts_term P Q (Prim p) m a same = (
  λ h. (h.0, h.1, (parts_prim P Q p m a h.0 same).0 h.2),
  λ h. (h.0, h.1, (parts_prim P Q p m a h.0 same).1 h.2),
)
parts_term P Q (Not e) m a same =
    let one = parts_term P Q e m a same in
    (λ h w. h (one.1 w), λ h w. h (one.0 w))
parts_term P Q (And e f) m a same =
    let one = parts_term P Q e m a same.0 in
    let two = parts_term P Q f m a same.1 in
    (λ h. (one.0 h.0, two.0 h.1), λ h. (one.1 h.0, two.1 h.1))
parts_term P Q (Or e f) m a same =
    let one = parts_term P Q e m a same.0 in
    let two = parts_term P Q f m a same.1 in (
      λ h. ⊎_elim (λ w. inl (one.0 w)) (λ w. inr (two.0 w)) h,
      λ h. ⊎_elim (λ w. inl (one.1 w)) (λ w. inr (two.1 w)) h,
    )

-- where an expression is true, all parts that it names are asked
asked_term : (P Q : Parts) (n : ℕ) (wanted : List ℕ) (e : Term AtomPrim) (m : Molecule) (a : ℕ) (x : Atom)
    → NamesBelow n e → IsAsked wanted e → slice_get m.atoms a ≡ Some x → HoldAlike wanted m n P Q → AtomTrue P e m a
    → AtomTrue Q e m a
asked_term P Q n wanted e m a x below asked get same h =
    let may = may_be_true P e m a x get h in
    (parts_term P Q e m a (names_all (λ k. Covers (slice_index wanted k) e) (λ k. P k a ↔ Q k a) n e below asked
    (λ k l covers. same k a x l get (covers (class_of x) (class_below x.number x.aromatic) may)))).0 h

pub alike_back : (P Q : Parts) (wanted : List ℕ) (m : Molecule) (n : ℕ) → HoldAlike wanted m n P Q
    → HoldAlike wanted m n Q P
alike_back P Q wanted m n same k a x l get yes' = let one = same k a x l get yes' in (one.1, one.0)

-- an embedding, where the parts that the graph names hold alike where they are asked
pub parts_embedding : (P Q : Parts) (n : ℕ) (wanted : List ℕ) (g : GraphTerm) (m : Molecule) (image : List ℕ)
    → All (NamesBelow n) g.atoms → All (IsAsked wanted) g.atoms → HoldAlike wanted m n P Q → IsEmbedding P g m image
    → IsEmbedding Q g m image
parts_embedding P Q n wanted g m image names asked same h = record {
  one_each = h.one_each;
  in_range = h.in_range;
  distinct = h.distinct;
  atoms = λ k e get.
      let few = slice_get_within g.atoms k e get in
      let here = get_or_from_slice_get g.atoms k e e get in
      let within : slice_index image k < length m.atoms = h.in_range k 0 (omega (arith, h.one_each)) in
      asked_term P Q n wanted e m (slice_index image k) (get_or m.atoms (slice_index image k) no_element)
      (subst (NamesBelow n) here (names k e few)) (subst (IsAsked wanted) here (asked k e few))
      (slice_get-get_or m.atoms (slice_index image k) no_element within) same (h.atoms k e get);
  bonds = h.bonds;
  groups = h.groups;
}

-- where a part of the last number holds
abbrev LastHolds : List GraphTerm → Molecule → ℕ → ℕ → Type 0
LastHolds recs m n a = (g : GraphTerm) × (slice_get recs n ≡ Some g) × (image : List ℕ)
    × IsEmbedding (PartsHold recs m n) g m image × (slice_get image 0 ≡ Some a)

-- a part of smaller number holds where it did
pub holds_before : (recs : List GraphTerm) (m : Molecule) (n k a : ℕ) → k < n
    → PartsHold recs m n k a ↔ PartsHold recs m (suc n) k a
holds_before recs m n k a l =
    let apart : (k == n) ≡ false = ne_eqb k n (λ e. omega arith) in (
      λ h. subst (λ b. MatchBool b (LastHolds recs m n a) (PartsHold recs m n k a)) (sym apart) h,
      λ h. subst (λ b. MatchBool b (LastHolds recs m n a) (PartsHold recs m n k a)) apart h,
    )

holds_last : (recs : List GraphTerm) (m : Molecule) (n a : ℕ) → LastHolds recs m n a ↔ PartsHold recs m (suc n) n a
holds_last recs m n a =
    let same : (n == n) ≡ true = eq-eqb n n refl in (
      λ h. subst (λ b. MatchBool b (LastHolds recs m n a) (PartsHold recs m n n a)) (sym same) h,
      λ h. subst (λ b. MatchBool b (LastHolds recs m n a) (PartsHold recs m n n a)) same h,
    )

-- a list that begins with an element
begins_with : (image : List ℕ) (a : ℕ) → slice_get image 0 ≡ Some a → (rest : List ℕ) × (image ≡ a ∷ rest)
begins_with [] a h = absurd (none-some a h)
begins_with (x ∷ xs) a h = (xs, ap (λ y. y ∷ xs) (same_Some x a h))

-- parts of smaller numbers are noted, and part n at the atoms of the first k blocks
pub record IsRow (recs : List GraphTerm) (m : Molecule) (wanted : List ℕ) (n k : ℕ) (table : Table) : Type 0 where
  pub kept : AreNoted recs m wanted n table
  pub done : (a : ℕ) (x : Atom) → a < 64 * k → slice_get m.atoms a ≡ Some x
      → bit_at (slice_index wanted n) (class_of x) ≡ 1 → HoldsIn table n a ↔ PartsHold recs m (suc n) n a

-- a part holds where some embedding of it begins, as the table tells of the parts of smaller numbers
pub part_holds : (recs : List GraphTerm) (m : Molecule) (wanted : List ℕ) (n : ℕ) (g : GraphTerm) (a : ℕ)
    (table : Table) → slice_get recs n ≡ Some g → All (NamesBelow n) g.atoms → All (IsAsked wanted) g.atoms
    → AreNoted recs m wanted n table → CanComplete (HoldsIn table) g m (a ∷ []) ↔ PartsHold recs m (suc n) n a
part_holds recs m wanted n g a table get names asked noted = (
  λ w. (holds_last recs m n a).0 (
    g,
    get,
    a ∷ w.0,
    parts_embedding (HoldsIn table) (PartsHold recs m n) n wanted g m
        (a ∷ w.0) names asked noted w.1,
    refl,
  ),
  λ h.
      let w = (holds_last recs m n a).1 h in
      let same : w.0 ≡ g = same_Some w.0 g (sym w.1 ∙ get) in
      let first = begins_with w.2 a w.4 in
      let mine : IsEmbedding (PartsHold recs m n) g m (a ∷ first.0) = subst
      (IsEmbedding (PartsHold recs m n) g m) first.1
      (subst (λ x. IsEmbedding (PartsHold recs m n) x m w.2) same w.3) in (
        first.0,
        parts_embedding (PartsHold recs m n) (HoldsIn table) n wanted g m (a ∷ first.0) names asked
            (alike_back (HoldsIn table) (PartsHold recs m n) wanted m n noted) mine,
      ),
)

-- one part more is noted
pub noted_more : (recs : List GraphTerm) (m : Molecule) (wanted : List ℕ) (n blocks : ℕ) (table : Table)
    → length m.atoms ≤ 64 * blocks → IsRow recs m wanted n blocks table → AreNoted recs m wanted (n + 1) table
noted_more recs m wanted n blocks table enough row k a x l get yes' =
    let within = slice_get_within m.atoms a x get in
    let next : n + 1 ≡ suc n = omega arith in
    subst (λ j. HoldsIn table k a ↔ PartsHold recs m j k a) (sym next) (elim (cases_eq k n) [
      | inl same ↦ subst (λ j. HoldsIn table j a ↔ PartsHold recs m (suc n) j a) (sym same)
          (row.done a x (omega arith) get
          (subst (λ j. bit_at (slice_index wanted j) (class_of x) ≡ 1) same yes'))
      | inr apart ↦
          let old = row.kept k a x (omega arith) get yes' in
          let step = holds_before recs m n k a (omega arith) in
          (λ h. step.0 (old.0 h), λ h. old.1 (step.1 h))
    ])

-- entries but those of one block of one part are kept
abbrev pub AreKept : Table → Table → ℕ → ℕ → Type 0
AreKept old new part block = (p a : ℕ) → p < 64 → a < 999 → (p ≡ part → a / 64 ≡ block → ⊥)
    → holds_at new p a ≡ holds_at old p a

-- what a part keeps is enough to search for it
pub searchable_part : (recs : List GraphTerm) (j : ℕ) (g : GraphTerm) → AreSoundParts recs → slice_get recs j ≡ Some g
    → IsSearchable g
searchable_part recs j g sound get =
    let graph = sound.each j g get in
    let below = slice_get_within recs j g get in
    let few = sound.few in
    record {
      few = sound.few_atoms j g get;
      ends = graph.in_range;
      apart = graph.distinct;
      once = graph.once;
      names = λ k d l. names_more j 64 (omega arith) (slice_index_or g.atoms k d) (graph.names k d l);
      groups = graph.groups;
    }

-- a block more of the part is noted
pub row_more : (recs : List GraphTerm) (m : Molecule) (wanted : List ℕ) (n k word : ℕ) (g : GraphTerm)
    (old new : Table) → n < 64 → length m.atoms ≤ 999 → slice_get recs n ≡ Some g → All (NamesBelow n) g.atoms
    → All (IsAsked wanted) g.atoms → IsRow recs m wanted n k old
    → AreBeginnings (HoldsIn old) g m (slice_index wanted n) k word
    → ((i : ℕ) → i < 64 → HoldsIn new n (64 * k + i) ↔ bit_at word i ≡ 1) → AreKept old new n k
    → IsRow recs m wanted n (k + 1) new
row_more recs m wanted n k word g old new ln few get names asked row found here others = record {
  kept = λ p a x l at yes'.
      let within = slice_get_within m.atoms a x at in
      let same : holds_at new p a ≡ holds_at old p a = others p a (omega arith) (omega arith) (λ e _. omega arith) in
      let before = row.kept p a x l at yes' in
      (λ h. before.0 (sym same ∙ h), λ h. same ∙ before.1 h);
  done = λ a x l at yes'. elim (cases_eq (a / 64) k) [
    | inl mine ↦
        let i : ℕ = a % 64 in
        let is : 64 * k + i ≡ a = omega arith in
        let part = part_holds recs m wanted n g (64 * k + i) old get names asked row.kept in
        let bit = found i x (omega arith) (ap (slice_get m.atoms) is ∙ at) yes' in
        let now = here i (omega arith) in
        subst (λ b. HoldsIn new n b ↔ PartsHold recs m (suc n) n b) is
        (λ h. part.0 (bit.0 (now.0 h)), λ h. now.1 (bit.1 (part.1 h)))
    | inr apart ↦
        let within = slice_get_within m.atoms a x at in
        let same : holds_at new n a ≡ holds_at old n a = others n a ln (omega arith) (λ _ e. apart e) in
        let before = row.done a x (omega arith) at yes' in
        (λ h. before.0 (sym same ∙ h), λ h. same ∙ before.1 h)
  ];
}

-- what a sound pattern's graphs keep
pub sound_parts : (p : PatternTerm) → IsSoundPattern p → AreSoundParts p.recs
sound_parts p sound = record {
  each = sound.parts;
  few_atoms = λ j g get.
      let one : length (get_or p.recs j g).atoms ≤ sum_by (λ (x : GraphTerm). length x.atoms) p.recs = get_or-le-sum_by
      (λ (x : GraphTerm). length x.atoms) p.recs j g (slice_get_within p.recs j g get) in
      let is : length (get_or p.recs j g).atoms ≡ length g.atoms = ap (λ (x : GraphTerm). length x.atoms)
      (get_or_from_slice_get p.recs j g g get) in
      let all = sound.few_atoms in
      omega arith;
  few = sound.few_parts;
}

pub searchable_top : (p : PatternTerm) → IsSoundPattern p → IsSearchable p.top
searchable_top p sound =
    let all = sound.few_atoms in
    record {
      few = omega arith;
      ends = sound.top.in_range;
      apart = sound.top.distinct;
      once = sound.top.once;
      names = λ k d l. names_more (length p.recs) 64 sound.few_parts (slice_index_or p.top.atoms k d)
          (sound.top.names k d l);
      groups = sound.top.groups;
    }

-- an embedding of the pattern is one by the table
by_table : (p : PatternTerm) (m : Molecule) (wanted : List ℕ) (table : Table) (image : List ℕ) → IsSoundPattern p
    → AreWanted p wanted → AreNoted p.recs m wanted (length p.recs) table
    → IsEmbedding (PartsHold p.recs m (length p.recs)) p.top m image → IsEmbedding (HoldsIn table) p.top m image
by_table p m wanted table image sound asked noted e =
    let n : ℕ = length p.recs in
    parts_embedding (PartsHold p.recs m n) (HoldsIn table) n wanted p.top m image sound.top.names asked.top
    (alike_back (HoldsIn table) (PartsHold p.recs m n) wanted m n noted) e

-- the least embedding by the table is the least of the pattern
pub least_of : (p : PatternTerm) (m : Molecule) (wanted : List ℕ) (table : Table) (whole : List ℕ) → IsSoundPattern p
    → AreWanted p wanted → AreNoted p.recs m wanted (length p.recs) table → IsLeastFrom (HoldsIn table) p.top m [] whole
    → IsLeast p m whole
least_of p m wanted table whole sound asked noted h = record {
  embeds = parts_embedding (HoldsIn table) (PartsHold p.recs m (length p.recs))
      (length p.recs) wanted p.top m whole sound.top.names asked.top noted h.embeds;
  least = λ other e before. h.least other (by_table p m wanted table other sound asked noted e) before;
}

pub none_of : (p : PatternTerm) (m : Molecule) (wanted : List ℕ) (table : Table) → IsSoundPattern p
    → AreWanted p wanted → AreNoted p.recs m wanted (length p.recs) table
    → (CanComplete (HoldsIn table) p.top m [] → ⊥) → Matches p m → ⊥
none_of p m wanted table sound asked noted none w = none (w.0, by_table p m wanted table w.0 sound asked noted w.1)

pub some_of : (p : PatternTerm) (m : Molecule) (wanted : List ℕ) (table : Table) → IsSoundPattern p
    → AreWanted p wanted → AreNoted p.recs m wanted (length p.recs) table
    → CanComplete (HoldsIn table) p.top m [] → Matches p m
some_of p m wanted table sound asked noted w = (
  w.0,
  parts_embedding (HoldsIn table) (PartsHold p.recs m (length p.recs))
      (length p.recs) wanted p.top m w.0 sound.top.names asked.top noted w.1,
)
