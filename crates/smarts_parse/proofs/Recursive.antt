-- A recursive part holds where an embedding of it begins, whatever parts of higher numbers there are.
use Rattle.std.proofs.Common.{◌≡◌, ◌↔◌, ◌==◌, ◌<◌, Bool, true, false, ℕ, zero, suc, List, length, slice_get, slice_index, Some, None, All, MatchBool, refl, sym, ◌∙◌, subst, inl, inr, ⊎_elim, arith}
use Rattle.std.proofs.lemmas.Bool.{eq-eqb, eqb-true}
use Rattle.std.proofs.lemmas.Option.{get_or_from_slice_get, same_Some, slice_get_within}
use Rattle.chem_core.specs.declared.mol.Atom.{Atom}
use Rattle.chem_core.specs.Molecule.{Molecule}
use Rattle.smarts_parse.specs.declared.pattern.AtomPrim.{AtomPrim}
use Rattle.smarts_parse.specs.declared.pattern.AtomPrim.TheVariants as atoms
use Rattle.smarts_parse.specs.Pattern.{Term, Prim, Not, And, Or, GraphTerm, PatternTerm}
use Rattle.smarts_parse.specs.Sound.{IsSoundPattern, NamesBelow, PrimNamesBelow}
use Rattle.smarts_parse.specs.Truth.{AtomTrue, AtomPrimTrue}
use Rattle.smarts_parse.specs.Embedding.{IsEmbedding, PartsHold}

-- an expression is as true where the parts that it names hold alike
module _ (P Q : ℕ → ℕ → Type 0) (n : ℕ) (m : Molecule) (same : (k a : ℕ) → k < n → P k a ↔ Q k a) where
  prim_alike : (p : AtomPrim) (a : ℕ) (x : Atom) → PrimNamesBelow n p → AtomPrimTrue P p m a x ↔ AtomPrimTrue Q p m a x
  prim_alike (atoms.ImplicitH None) a x h = (λ w. w, λ w. w)
  prim_alike (atoms.ImplicitH (Some k)) a x h = (λ w. w, λ w. w)
  prim_alike (atoms.RingBonds None) a x h = (λ w. w, λ w. w)
  prim_alike (atoms.RingBonds (Some k)) a x h = (λ w. w, λ w. w)
  prim_alike (atoms.Rec k) a x h = same k a h
  prim_alike _ a x h = (λ w. w, λ w. w)

  term_alike : (e : Term AtomPrim) (a : ℕ) → NamesBelow n e → AtomTrue P e m a ↔ AtomTrue Q e m a
  term_alike (Prim p) a h = (
    λ w. (w.0, w.1, (prim_alike p a w.0 h).0 w.2),
    λ w. (w.0, w.1, (prim_alike p a w.0 h).1 w.2),
  )
  term_alike (Not e) a h = let one = term_alike e a h in (λ w v. w (one.1 v), λ w v. w (one.0 v))
  term_alike (And e f) a h =
      let one = term_alike e a h.0 in
      let two = term_alike f a h.1 in
      (λ w. (one.0 w.0, two.0 w.1), λ w. (one.1 w.0, two.1 w.1))
  term_alike (Or e f) a h =
      let one = term_alike e a h.0 in
      let two = term_alike f a h.1 in (
        λ w. ⊎_elim (λ v. inl (one.0 v)) (λ v. inr (two.0 v)) w,
        λ w. ⊎_elim (λ v. inl (one.1 v)) (λ v. inr (two.1 v)) w,
      )

  embedding_alike : (g : GraphTerm) (image : List ℕ) → All (NamesBelow n) g.atoms → IsEmbedding P g m image
      → IsEmbedding Q g m image
  embedding_alike g image names h = record {
    one_each = h.one_each;
    in_range = h.in_range;
    distinct = h.distinct;
    atoms = λ k e get.
        let here = get_or_from_slice_get g.atoms k e e get in
        let few = slice_get_within g.atoms k e get in
        (term_alike e (slice_index image k) (subst (NamesBelow n) here (names k e few))).0 (h.atoms k e get);
    bonds = h.bonds;
    groups = h.groups;
  }

module _ (recs : List GraphTerm) (m : Molecule) where
  -- where a part of the last number holds
  abbrev LastHolds : ℕ → ℕ → Type 0
  LastHolds n a = (g : GraphTerm) × (slice_get recs n ≡ Some g) × (image : List ℕ)
      × IsEmbedding (PartsHold recs m n) g m image × (slice_get image 0 ≡ Some a)

  holds_last : (n a : ℕ) → LastHolds n a ↔ PartsHold recs m (suc n) n a
  holds_last n a =
      let same : (n == n) ≡ true = eq-eqb n n refl in (
        λ h. subst (λ b. MatchBool b (LastHolds n a) (PartsHold recs m n n a)) (sym same) h,
        λ h. subst (λ b. MatchBool b (LastHolds n a) (PartsHold recs m n n a)) same h,
      )

  holds_step : (n k a : ℕ) → k < suc n → (k < n → PartsHold recs m n k a ↔ PartsHold recs m (suc k) k a)
      → (b : Bool) → (k == n) ≡ b → PartsHold recs m (suc n) k a ↔ PartsHold recs m (suc k) k a
  holds_step n k a l below true e =
      let f : k ≡ n = eqb-true k n e in
      let F : ℕ → Type 0 = λ v. PartsHold recs m (suc v) k a ↔ PartsHold recs m (suc k) k a in
      subst F f (λ h. h, λ h. h)
  holds_step n k a l below false e =
      let apart : (n ≡ k) → ⊥ = λ f. let g = eq-eqb k n (sym f) in absurd (cc) in
      let one = below (omega arith) in (
        λ h. one.0 (subst (λ b. MatchBool b (LastHolds n a) (PartsHold recs m n k a)) e h),
        λ h. subst (λ b. MatchBool b (LastHolds n a) (PartsHold recs m n k a)) (sym e) (one.1 h),
      )

  -- parts of higher numbers are not asked
  holds_at : (n k a : ℕ) → k < n → PartsHold recs m n k a ↔ PartsHold recs m (suc k) k a
  holds_at zero k a l = absurd (omega arith)
  holds_at (suc n) k a l = holds_step n k a l (λ below. holds_at n k a below) (k == n) refl

pub parts_hold : (p : PatternTerm) (m : Molecule) (k a : ℕ) (g : GraphTerm) → IsSoundPattern p
    → slice_get p.recs k ≡ Some g
    → PartsHold p.recs m (length p.recs) k a
    ↔ ((image : List ℕ) × IsEmbedding (PartsHold p.recs m (length p.recs)) g m image × (slice_get image 0 ≡ Some a))
parts_hold p m k a g sound get =
    let all = length p.recs in
    let few : k < all = slice_get_within p.recs k g get in
    let up = holds_at p.recs m all k a few in
    let last = holds_last p.recs m k a in
    let names = (sound.parts k g get).names in
    let same : (j b : ℕ) → j < k → PartsHold p.recs m k j b ↔ PartsHold p.recs m all j b = λ j b l.
    let mine = holds_at p.recs m k j b l in
    let whole = holds_at p.recs m all j b (omega arith) in
    (λ h. whole.1 (mine.0 h), λ h. mine.1 (whole.0 h)) in
    let back : (j b : ℕ) → j < k → PartsHold p.recs m all j b ↔ PartsHold p.recs m k j b =
    λ j b l. let one = same j b l in (one.1, one.0) in (
      λ h.
          let w = last.1 (up.0 h) in
          let is : w.0 ≡ g = same_Some w.0 g (sym w.1 ∙ get) in
          let F : GraphTerm → Type 0 = λ x. IsEmbedding (PartsHold p.recs m k) x m w.2 in
          let here = subst F is w.3 in
          (w.2, embedding_alike (PartsHold p.recs m k) (PartsHold p.recs m all) k m same g w.2 names here, w.4),
      λ h. up.1 (last.0 (
        g,
        get,
        h.0,
        embedding_alike (PartsHold p.recs m all) (PartsHold p.recs m k) k m back g h.0 names h.1,
        h.2,
      )),
    )
