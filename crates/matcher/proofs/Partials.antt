-- Atoms of a graph placed in turn: one more, and all.
use Rattle.std.proofs.Common.{◌≡◌, ◌≢◌, ℕ, ◌<◌, ◌≤◌, List, [], ◌∷◌, ◌++◌, length, map, max, min, take, slice_get, slice_index, get_or, Some, All, Contains, refl, sym, ap, ◌∙◌, inl, inr, subst, ⊎_elim, append_assoc, arith, length-append, ◌↔◌}
use Rattle.std.proofs.lemmas.Bool.{cases_lt}
use Rattle.std.proofs.Math.ListN.{get_or-append}
use Rattle.std.proofs.Math.Seq.{get_or-append_seam}
use Rattle.std.proofs.lemmas.List.{get_or-map, get_or_default, get_or_push, length-map, length-take-le, length_push}
use Rattle.std.proofs.lemmas.List.Elements.{All-push}
use Rattle.std.proofs.lemmas.List.Quantifiers.{all_pairs_push}
use Rattle.std.proofs.lemmas.Option.{slice_get_within}
use Rattle.chem_core.specs.Graph.{JoinsAt}
use Rattle.chem_core.specs.Molecule.{Molecule, ends_of}
use Rattle.chem_core.specs.Component.{Reaches}
use Rattle.chem_core.proofs.Components.{reaches_back, reaches_self}
use Rattle.smarts_parse.specs.declared.pattern.AtomPrim.{AtomPrim}
use Rattle.smarts_parse.specs.Pattern.{Term, BondTerm, GraphTerm}
use Rattle.smarts_parse.specs.Sound.{pattern_ends}
use Rattle.smarts_parse.specs.Truth.{AtomTrue, BondTrue}
use Rattle.smarts_parse.specs.Embedding.{AreGrouped, BondEmbeds, IsEmbedding}
use Rattle.matcher.specs.Candidates.{IsTrueIn}
use Rattle.matcher.specs.Partial.{CanComplete, IsPartial, Parts}
use Rattle.matcher.proofs.Joins.{joined_back}

-- a bond between two atoms of the front embeds alike in the front and in the whole
pub index_front : (front rest : List ℕ) (k : ℕ) → k < length front → slice_index (front ++ rest) k ≡ slice_index front k
index_front front rest k l = get_or-append front rest 0 k l

bond_whole : (m : Molecule) (front rest : List ℕ) (bond : BondTerm) → max bond.a bond.b < length front
    → BondEmbeds m front bond → BondEmbeds m (front ++ rest) bond
bond_whole m front rest bond l h = (
  h.0,
  subst (λ x. JoinsAt (ends_of m) h.0 x (slice_index (front ++ rest) bond.b))
      (sym (index_front front rest bond.a (omega arith)))
      (subst (λ y. JoinsAt (ends_of m) h.0 (slice_index front bond.a) y)
      (sym (index_front front rest bond.b (omega arith))) h.1),
  h.2,
)

bond_front : (m : Molecule) (front rest : List ℕ) (bond : BondTerm) → max bond.a bond.b < length front
    → BondEmbeds m (front ++ rest) bond → BondEmbeds m front bond
bond_front m front rest bond l h = (
  h.0,
  subst (λ x. JoinsAt (ends_of m) h.0 x (slice_index front bond.b)) (index_front front rest bond.a (omega arith))
      (subst (λ y. JoinsAt (ends_of m) h.0 (slice_index (front ++ rest) bond.a) y)
      (index_front front rest bond.b (omega arith)) h.1),
  h.2,
)

-- where two atoms stand, seen from others that stand there
same_groups : (P : Type 0) (m : Molecule) (x y u v : ℕ) → x ≡ u → y ≡ v → P ↔ Reaches (ends_of m) x y
    → P ↔ Reaches (ends_of m) u v
same_groups P m x y u v e f h = subst (λ w. P ↔ Reaches (ends_of m) w v) e
    (subst (λ w. P ↔ Reaches (ends_of m) x w) f h)

-- the groups of the front
grouped_front : (groups : List ℕ) (m : Molecule) (front rest : List ℕ) → AreGrouped groups m (front ++ rest)
    → AreGrouped groups m front
grouped_front groups m front rest h i j li lj ni nj =
    same_groups (slice_index groups i ≡ slice_index groups j) m (slice_index (front ++ rest) i)
    (slice_index (front ++ rest) j) (slice_index front i) (slice_index front j) (index_front front rest i li)
    (index_front front rest j lj)
    (h i j (omega (arith, length-append front rest)) (omega (arith, length-append front rest)) ni nj)

-- what the place of an atom more keeps of groups
abbrev pub KeepsNext : List ℕ → Molecule → List ℕ → ℕ → Type 0
KeepsNext groups m front atom = (q : ℕ) → q < length front → slice_index groups q ≢ 0
    → slice_index groups (length front) ≢ 0
    → (slice_index groups q ≡ slice_index groups (length front)) ↔ Reaches (ends_of m) (slice_index front q) atom

grouped_push : (groups : List ℕ) (m : Molecule) (front : List ℕ) (atom : ℕ) → AreGrouped groups m front
    → KeepsNext groups m front atom → AreGrouped groups m (front ++ atom ∷ [])
grouped_push groups m front atom h keeps i j li lj ni nj =
    let ends = ends_of m in
    let all = front ++ atom ∷ [] in
    let P : Type 0 = slice_index groups i ≡ slice_index groups j in
    elim (cases_lt i (length front)) [
      | inl bi ↦
          let here : slice_index front i ≡ slice_index all i = sym (index_front front (atom ∷ []) i bi) in
          elim (cases_lt j (length front)) [
            | inl bj ↦
                same_groups P m (slice_index front i) (slice_index front j) (slice_index all i) (slice_index all j) here
                (sym (index_front front (atom ∷ []) j bj)) (h i j bi bj ni nj)
            | inr aj ↦
                let last : j ≡ length front = omega (arith, length_push front atom) in
                let there : atom ≡ slice_index all j = sym (get_or_push front atom 0 j (sym last)) in
                let k = keeps i bi ni (subst (λ q. slice_index groups q ≢ 0) last nj) in
                same_groups P m (slice_index front i) atom (slice_index all i) (slice_index all j) here there
                (subst (λ q. (slice_index groups i ≡ slice_index groups q) ↔ Reaches ends (slice_index front i) atom)
                (sym last) k)
          ]
      | inr ai ↦
          let last : i ≡ length front = omega (arith, length_push front atom) in
          let here : atom ≡ slice_index all i = sym (get_or_push front atom 0 i (sym last)) in
          elim (cases_lt j (length front)) [
            | inl bj ↦
                let k = keeps j bj nj (subst (λ q. slice_index groups q ≢ 0) last ni) in
                let turned : (slice_index groups (length front) ≡ slice_index groups j)
                ↔ Reaches ends atom (slice_index front j) = (
                  λ e. reaches_back ends (slice_index front j) atom (k.0 (sym e)),
                  λ r. sym (k.1 (reaches_back ends atom (slice_index front j) r)),
                ) in
                same_groups P m atom (slice_index front j) (slice_index all i) (slice_index all j) here
                (sym (index_front front (atom ∷ []) j bj))
                (subst (λ q. (slice_index groups q ≡ slice_index groups j) ↔ Reaches ends atom (slice_index front j))
                (sym last) turned)
            | inr aj ↦
                let same : i ≡ j = omega (arith, length_push front atom) in (
                  λ _. subst (λ q. Reaches ends (slice_index all i) (slice_index all q)) same
                      (reaches_self ends (slice_index all i)),
                  λ _. ap (λ q. slice_index groups q) same,
                )
          ]
    ]

grouped_last : (groups : List ℕ) (m : Molecule) (front : List ℕ) (atom : ℕ)
    → AreGrouped groups m (front ++ atom ∷ []) → KeepsNext groups m front atom
grouped_last groups m front atom h q l nq nl =
    same_groups (slice_index groups q ≡ slice_index groups (length front)) m (slice_index (front ++ atom ∷ []) q)
    (slice_index (front ++ atom ∷ []) (length front)) (slice_index front q) atom (index_front front (atom ∷ []) q l)
    (get_or_push front atom 0 (length front) refl)
    (h q (length front) (omega (arith, length_push front atom)) (omega (arith, length_push front atom)) nq nl)

-- what an embedding begins with
pub IsPartial-front : (parts : Parts) (g : GraphTerm) (m : Molecule) (front rest : List ℕ)
    → IsEmbedding parts g m (front ++ rest) → IsPartial parts g m front
IsPartial-front parts g m front rest h = record {
  few = omega (arith, h.one_each, length-append front rest);
  in_range = λ k d l. subst (λ x. x < length m.atoms) (get_or-append front rest d k l)
      (h.in_range k d (omega (arith, length-append front rest)));
  distinct = λ i j d l k. subst (λ x. x ≢ get_or front j d) (get_or-append front rest d i (omega arith))
      (subst (λ y. get_or (front ++ rest) i d ≢ y) (get_or-append front rest d j k)
      (h.distinct i j d l (omega (arith, length-append front rest))));
  atoms = λ k e l get. subst (AtomTrue parts e m) (index_front front rest k l) (h.atoms k e get);
  bonds = λ k d l within. bond_front m front rest (get_or g.bonds k d) within (h.bonds k d l);
  groups = grouped_front g.groups m front rest h.groups;
}

-- all atoms are placed
pub IsPartial-whole : (parts : Parts) (g : GraphTerm) (m : Molecule) (image : List ℕ)
    → All (λ e. (e.0 < length g.atoms) × (e.1 < length g.atoms)) (pattern_ends g) → length image ≡ length g.atoms
    → IsPartial parts g m image → IsEmbedding parts g m image
IsPartial-whole parts g m image ends full h = record {
  one_each = full;
  in_range = h.in_range;
  distinct = h.distinct;
  groups = h.groups;
  atoms = λ k e get. h.atoms k e (omega (arith, slice_get_within g.atoms k e get)) get;
  bonds = λ k d l. h.bonds k d l (placed (get_or g.bonds k d)
      (subst (λ (e : ℕ × ℕ). (e.0 < length g.atoms) × (e.1 < length g.atoms))
      (get_or-map (λ (b : BondTerm). (b.a, b.b)) g.bonds k d (0, 0) l)
      (ends k (0, 0) (subst (λ n. k < n) (sym (length-map g.bonds (λ b. (b.a, b.b)))) l))));
}
  where
    placed : (bond : BondTerm) → (bond.a < length g.atoms) × (bond.b < length g.atoms)
        → max bond.a bond.b < length image
    placed bond both = let left = both.0 in let right = both.1 in omega arith

-- one atom more
pub IsPartial-push : (parts : Parts) (g : GraphTerm) (m : Molecule) (front : List ℕ) (atom : ℕ)
    → IsPartial parts g m front → length front < length g.atoms → atom < length m.atoms → (Contains front atom → ⊥)
    → IsTrueIn parts g m (length front) atom
    → All (λ bond. max bond.a bond.b ≡ length front → BondEmbeds m (front ++ atom ∷ []) bond) g.bonds
    → KeepsNext g.groups m front atom → IsPartial parts g m (front ++ atom ∷ [])
IsPartial-push parts g m front atom h left lt new true' bonds keeps = record {
  groups = grouped_push g.groups m front atom h.groups keeps;
  few = omega (arith, left, length-append front (atom ∷ []));
  in_range = All-push (λ a. a < length m.atoms) front atom h.in_range lt;
  distinct = all_pairs_push ◌≢◌ front atom h.distinct
      (λ k d l same. new (k, l, get_or_default front k atom d l ∙ same));
  atoms = λ k f l at. ⊎_elim
      (λ before. subst (AtomTrue parts f m) (sym (index_front front (atom ∷ []) k before)) (h.atoms k f before at))
      (λ after.
      let last : k ≡ length front = omega (arith, length_push front atom) in
      let here : slice_index (front ++ atom ∷ []) k ≡ atom = get_or_push front atom 0 k (sym last) in
      subst (AtomTrue parts f m) (sym here) (true' f (subst (λ i. slice_get g.atoms i ≡ Some f) last at)))
      (cases_lt k (length front));
  bonds = λ k d l within. ⊎_elim
      (λ before. bond_whole m front (atom ∷ []) (get_or g.bonds k d) before (h.bonds k d l before))
      (λ after. bonds k d l (omega (arith, length_push front atom)))
      (cases_lt (max (get_or g.bonds k d).a (get_or g.bonds k d).b) (length front));
}

-- what an atom more keeps
pub IsPartial-last : (parts : Parts) (g : GraphTerm) (m : Molecule) (front : List ℕ) (atom : ℕ)
    → IsPartial parts g m (front ++ atom ∷ []) → (Contains front atom → ⊥)
    × IsTrueIn parts g m (length front) atom
    × All (λ bond. max bond.a bond.b ≡ length front → BondEmbeds m (front ++ atom ∷ []) bond) g.bonds
    × KeepsNext g.groups m front atom
IsPartial-last parts g m front atom h = (
  λ w. h.distinct w.0 (length front) 0 w.1 (omega (arith, length_push front atom))
      (get_or-append front (atom ∷ []) 0 w.0 w.1 ∙ get_or_default front w.0 0 atom w.1 ∙ w.2
      ∙ sym (get_or_push front atom 0 (length front) refl)),
  λ e get. subst (AtomTrue parts e m) (get_or_push front atom 0 (length front) refl)
      (h.atoms (length front) e (omega (arith, length_push front atom)) get),
  λ k d l at. h.bonds k d l (omega (arith, length_push front atom)),
  grouped_last g.groups m front atom h.groups,
)

-- a bond from an earlier atom to the next embeds where a bond of the molecule joins the two and is as asked
pub embeds_joined : (m : Molecule) (front : List ℕ) (atom : ℕ) (bond : BondTerm) → max bond.a bond.b ≡ length front
    → bond.a ≢ bond.b
    → BondEmbeds m (front ++ atom ∷ []) bond
    ↔ ((b : ℕ) × JoinsAt (ends_of m) b (slice_index front (min bond.a bond.b)) atom × BondTrue bond.expr m b)
embeds_joined m front atom bond high apart =
    let last : slice_index (front ++ atom ∷ []) (length front) ≡ atom = get_or_push front atom 0 (length front) refl in
    ⊎_elim
    (λ lt.
    let low : min bond.a bond.b ≡ bond.a = omega arith in
    let top : bond.b ≡ length front = omega arith in
    let left : slice_index (front ++ atom ∷ []) bond.a ≡ slice_index front (min bond.a bond.b) = index_front front
    (atom ∷ []) bond.a (omega arith) ∙ ap (λ k. slice_index front k) (sym low) in
    let right : slice_index (front ++ atom ∷ []) bond.b ≡ atom = ap (λ k. slice_index (front ++ atom ∷ []) k) top ∙ last
    in (
      λ h. (
        h.0,
        subst (λ x. JoinsAt (ends_of m) h.0 x atom) left
            (subst (λ y. JoinsAt (ends_of m) h.0 (slice_index (front ++ atom ∷ []) bond.a) y) right h.1),
        h.2,
      ),
      λ h. (
        h.0,
        subst (λ x. JoinsAt (ends_of m) h.0 x (slice_index (front ++ atom ∷ []) bond.b)) (sym left)
            (subst (λ y. JoinsAt (ends_of m) h.0 (slice_index front (min bond.a bond.b)) y) (sym right) h.1),
        h.2,
      ),
    ))
    (λ le.
    let low : min bond.a bond.b ≡ bond.b = omega arith in
    let top : bond.a ≡ length front = omega arith in
    let left : slice_index (front ++ atom ∷ []) bond.b ≡ slice_index front (min bond.a bond.b) = index_front front
    (atom ∷ []) bond.b (omega arith) ∙ ap (λ k. slice_index front k) (sym low) in
    let right : slice_index (front ++ atom ∷ []) bond.a ≡ atom = ap (λ k. slice_index (front ++ atom ∷ []) k) top ∙ last
    in (
      λ h. (
        h.0,
        joined_back (ends_of m) h.0 atom (slice_index front (min bond.a bond.b))
            (subst (λ x. JoinsAt (ends_of m) h.0 x (slice_index front (min bond.a bond.b))) right
            (subst (λ y. JoinsAt (ends_of m) h.0 (slice_index (front ++ atom ∷ []) bond.a) y) left h.1)),
        h.2,
      ),
      λ h. (
        h.0,
        subst (λ x. JoinsAt (ends_of m) h.0 x (slice_index (front ++ atom ∷ []) bond.b)) (sym right)
            (subst (λ y. JoinsAt (ends_of m) h.0 atom y) (sym left)
            (joined_back (ends_of m) h.0 (slice_index front (min bond.a bond.b)) atom h.1)),
        h.2,
      ),
    ))
    (cases_lt bond.a bond.b)

-- what can be completed begins with a partial embedding
pub IsPartial-from_completion : (parts : Parts) (g : GraphTerm) (m : Molecule) (image : List ℕ)
    → CanComplete parts g m image → IsPartial parts g m image
IsPartial-from_completion parts g m image w = IsPartial-front parts g m image w.0 w.1

-- an embedding with an atom more is one
pub CanComplete-more : (parts : Parts) (g : GraphTerm) (m : Molecule) (front : List ℕ) (atom : ℕ)
    → CanComplete parts g m (front ++ atom ∷ []) → CanComplete parts g m front
CanComplete-more parts g m front atom w = (
  atom ∷ w.0,
  subst (IsEmbedding parts g m)
      (append_assoc front (atom ∷ []) w.0) w.1,
)

-- the next atom of an embedding
pub CanComplete-next : (parts : Parts) (g : GraphTerm) (m : Molecule) (front : List ℕ) → length front < length g.atoms
    → CanComplete parts g m front → (a : ℕ) × (a < length m.atoms) × CanComplete parts g m (front ++ a ∷ [])
CanComplete-next parts g m front lt w = next w.0 w.1
  where
    next : (rest : List ℕ) → IsEmbedding parts g m (front ++ rest) → (a : ℕ) × (a < length m.atoms)
        × CanComplete parts g m (front ++ a ∷ [])
    next [] h = absurd (omega (arith, h.one_each, length-append front []))
    next (a ∷ rest) h =
        let place : length front < length (front ++ a ∷ rest) = omega (arith, length-append front (a ∷ rest)) in (
          a,
          subst (λ x. x < length m.atoms) (get_or-append_seam front a rest 0) (h.in_range (length front) 0 place),
          (rest, subst (IsEmbedding parts g m) (sym (append_assoc front (a ∷ []) rest)) h),
        )

-- where the next atom can stand at no atom, nothing can be completed
pub CanComplete-none : (parts : Parts) (g : GraphTerm) (m : Molecule) (front : List ℕ) → length front < length g.atoms
    → ((a : ℕ) → a < length m.atoms → CanComplete parts g m (front ++ a ∷ []) → ⊥) → CanComplete parts g m front → ⊥
CanComplete-none parts g m front lt none w = let next = CanComplete-next parts g m front lt w
    in none next.0 next.1 next.2

-- the same atoms before an atom
pub CanComplete-same : (parts : Parts) (g : GraphTerm) (m : Molecule) (front same : List ℕ) (a : ℕ) → same ≡ front
    → CanComplete parts g m (front ++ a ∷ []) → CanComplete parts g m (same ++ a ∷ [])
CanComplete-same parts g m front same a e w = subst (λ xs. CanComplete parts g m (xs ++ a ∷ [])) (sym e) w

-- an atom of the graph is left to be placed
pub left_over : {A : Type 0} (term : A → Term AtomPrim) (atoms : List A) (image : List ℕ) (placed : ℕ)
    → length atoms ≤ length image → placed < length atoms → length (take placed image) < length (map term atoms)
left_over term atoms image placed room few = omega
    (arith, length-map atoms term, length-take-le placed image (omega arith))
