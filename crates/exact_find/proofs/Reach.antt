-- Levels are kept by each map that takes the atom where they begin to the other one.
use Rattle.std.proofs.Common.{◌≡◌, ℕ, zero, suc, ◌<◌, ◌≤◌, inl, inr, List, length, get_or, refl, sym, ap, ◌∙◌, subst, arith}
use Rattle.std.proofs.lemmas.Bool.{cases_eq}
use Rattle.chem_core.specs.Molecule.{Molecule, IsMolecule}
use Rattle.exact_find.specs.declared.levels.TheConstants.{IN_PAIR}
use Rattle.exact_find.specs.Same.{HasBond}
use Rattle.exact_find.specs.Pairs.{IsMap}
use Rattle.exact_find.specs.Colours.{AreKept, AreMatched}
use Rattle.exact_find.specs.Levels.{IsReached}
use Rattle.exact_find.proofs.Images.{bond_within}

-- an image is reached by no more bonds
level-le : (m n : Molecule) (f g : ℕ → ℕ) (s t : ℕ) (before other L R p q : List ℕ) (k x : ℕ) → IsMolecule m
    → IsMap m n f g → AreKept m f before other → f s ≡ t → IsReached m s before L p → IsReached n t other R q
    → x < length m.atoms → get_or L x 0 ≡ k → k < IN_PAIR → get_or R (f x) 0 ≤ k
level-le m n f g s t before other L R p q zero x is all kept start left right inside level low =
    elim (cases_eq x s) [
      | inl e ↦
          let there : get_or R (f x) 0 ≡ 0 = ap (λ z. get_or R (f z) 0) e ∙ ap (λ z. get_or R z 0) start ∙ right.first in
          omega arith
      | inr ne ↦
          let to = left.led x inside (subst (λ z. z < IN_PAIR) (sym level) low) ne in
          absurd (omega (arith, to.4, level))
    ]
level-le m n f g s t before other L R p q (suc k) x is all kept start left right inside level low =
    elim (cases_eq x s) [
      | inl e ↦
          let there : get_or R (f x) 0 ≡ 0 = ap (λ z. get_or R (f z) 0) e ∙ ap (λ z. get_or R z 0) start ∙ right.first in
          omega arith
      | inr ne ↦
          let reached = subst (λ z. z < IN_PAIR) (sym level) low in
          let to = left.led x inside reached ne in
          let y : ℕ = to.0 in
          let within : y < length m.atoms = bond_within m y x to.1 is to.2 in
          let below : get_or R (f y) 0 ≤ k = level-le m n f g s t before other L R p q k y is all kept start left right
          within (omega (arith, to.4, level)) (omega arith) in
          let bond : HasBond n (f y) (f x) to.1 = all.kept y x to.1 to.2 in
          elim (right.closed (f y) (f x) to.1 (omega arith) bond) [
            | inl paired ↦ absurd (omega (
              arith,
              right.paired (f x) (all.within x inside) paired,
              kept x inside,
              left.free x inside reached ne,
            ))
            | inr le ↦ omega arith
          ]
    ]

-- what is reached is taken to what is reached, at the same level
pub level-kept : (m n : Molecule) (f g : ℕ → ℕ) (s t : ℕ) (before other L R p q : List ℕ) (x : ℕ) → IsMolecule m
    → IsMolecule n → IsMap m n f g → IsMap n m g f → AreKept m f before other → AreKept n g other before → f s ≡ t
    → IsReached m s before L p → IsReached n t other R q → x < length m.atoms → get_or L x 0 < IN_PAIR
    → get_or L x 0 ≡ get_or R (f x) 0
level-kept m n f g s t before other L R p q x is too all inverse kept kept_back start left right inside low =
    let one : get_or R (f x) 0 ≤ get_or L x 0 =
    level-le m n f g s t before other L R p q (get_or L x 0) x is all kept start left right inside refl low in
    let two : get_or L (g (f x)) 0 ≤ get_or R (f x) 0 =
    level-le n m g f t s other before R L q p (get_or R (f x) 0) (f x) too inverse kept_back
    (ap g (sym start) ∙ all.back s) right left (all.within x inside) refl (omega arith) in
    omega (arith, ap (λ z. get_or L z 0) (all.back x))

there-reached : (m n : Molecule) (f g : ℕ → ℕ) (s t : ℕ) (before other L R p q : List ℕ) → IsMolecule m
    → IsMolecule n → IsMap m n f g → IsMap n m g f → AreKept m f before other → AreKept n g other before → f s ≡ t
    → IsReached m s before L p → IsReached n t other R q → (i : ℕ) → i < length p
    → (j : ℕ) × (j < length q) × (get_or q j 0 ≡ f (get_or p i 0))
there-reached m n f g s t before other L R p q is too all inverse kept kept_back start left right = λ i h.
    let x : ℕ = get_or p i 0 in
    let inside = left.listed.within i h in
    let low = left.low i h in
    let same = level-kept m n f g s t before other L R p q x is too all inverse kept kept_back start left right inside low
    in
    right.each (f x) (all.within x inside) (omega arith)

pub reached-matched : (m n : Molecule) (f g : ℕ → ℕ) (s t : ℕ) (before other L R p q : List ℕ) → IsMolecule m
    → IsMolecule n → IsMap m n f g → IsMap n m g f → AreKept m f before other → AreKept n g other before → f s ≡ t
    → IsReached m s before L p → IsReached n t other R q → AreMatched f g p q
reached-matched m n f g s t before other L R p q is too all inverse kept kept_back start left right = record {
  there = there-reached m n f g s t before other L R p q is too all inverse kept kept_back start left right;
  back = there-reached n m g f t s other before R L q p too is inverse all kept_back kept
      (ap g (sym start) ∙ all.back s) right left;
}
