-- At which atoms of a block a primitive is true, where they are asked in turn, the lowest first.
use Rattle.std.proofs.Common.{◌≡◌, ◌↔◌, ◌∙◌, ◌+◌, ◌*◌, ◌^◌, ◌<◌, ◌≤◌, ℕ, bit_and, inl, inr, length, arith, refl, subst, sym, w64}
use Rattle.std.specs.Int.{bit_at, trailing_zeros}
use Rattle.std.proofs.lemmas.Bool.{cases_eq}
use Rattle.std.proofs.lemmas.Nat.Bits.{bit_at-lt, bit_at_and, bit_at_clear_other}
use Rattle.std.proofs.lemmas.Option.{slice_get_within}
use Rattle.chem_core.specs.Molecule.{Molecule}
use Rattle.smarts_parse.specs.declared.pattern.AtomPrim.{AtomPrim}
use Rattle.smarts_parse.specs.Pattern.{Prim, Term}
use Rattle.smarts_parse.specs.Truth.{AtomTrue}
use Rattle.matcher.specs.Candidates.{IsTruth}
use Rattle.matcher.specs.Partial.{Parts}
use Rattle.matcher.proofs.Lowest.{done_more, lower_none, lowest_is, other_bit, without}

-- The atoms that are left are still to be asked, and are set; the lowest n bits are done. Of the others those are set
-- at which the expression is true.
pub record IsHalfTruth (parts : Parts) (m : Molecule) (t : Term AtomPrim) (block within n left word : ℕ) : Type 0 where
  pub done : (i : ℕ) → i < n → i < 64 → bit_at left i ≡ 0
  pub inside : (i : ℕ) → i < 64 → bit_at left i ≡ 1 → 64 * block + i < length m.atoms
  pub waits : (i : ℕ) → i < 64 → bit_at left i ≡ 1 → (bit_at within i ≡ 1) × (bit_at word i ≡ 1)
  pub asked : (i : ℕ) → i < 64 → bit_at left i ≡ 0
      → bit_at word i ≡ 1 ↔ ((bit_at within i ≡ 1) × AtomTrue parts t m (64 * block + i))

-- none is asked yet
pub half_none : (parts : Parts) (m : Molecule) (p : AtomPrim) (block within all : ℕ)
    → ((i : ℕ) → i < 64 → bit_at all i ≡ 1 ↔ 64 * block + i < length m.atoms)
    → IsHalfTruth parts m (Prim p) block within 0 (bit_and within all) (bit_and within all)
half_none parts m p block within all inside = record {
  done = λ i l. absurd (omega arith);
  inside = λ i l t.
      let both = bit_at_and within all i in
      let one = bit_at-lt within i in
      let two = bit_at-lt all i in
      (inside i l).0 (omega arith);
  waits = λ i l t.
      let both = bit_at_and within all i in
      let one = bit_at-lt within i in
      let two = bit_at-lt all i in
      (omega arith, t);
  asked = λ i l none. (
    λ t. absurd (omega arith),
    λ w.
        let both = bit_at_and within all i in
        let mine = w.0 in
        let inner = (inside i l).1 (slice_get_within m.atoms (64 * block + i) w.1.0 w.1.1) in
        absurd (omega arith),
  );
}

-- the atom of the lowest bit is asked, and the expression is true there
pub half_true : (parts : Parts) (m : Molecule) (t : Term AtomPrim) (block within n left word : ℕ) → left < 2 ^ 64
    → trailing_zeros w64 left < 64 → AtomTrue parts t m (64 * block + trailing_zeros w64 left)
    → IsHalfTruth parts m t block within n left word
    → IsHalfTruth parts m t block within (n + 1) (without left (trailing_zeros w64 left)) word
half_true parts m t block within n left word room low holds h =
    let bit : ℕ = trailing_zeros w64 left in
    let other = bit_at_clear_other w64 left bit low in
    let is : bit_at left bit ≡ 1 = lowest_is left room low in
    record {
      done = done_more left n room low h.done;
      inside = λ i l s. h.inside i l (sym (other i l (other_bit left bit i low s)) ∙ s);
      waits = λ i l s. h.waits i l (sym (other i l (other_bit left bit i low s)) ∙ s);
      asked = λ i l s. elim (cases_eq i bit) [
        | inl e ↦ subst (λ k. bit_at word k ≡ 1 ↔ ((bit_at within k ≡ 1) × AtomTrue parts t m (64 * block + k)))
            (sym e) (λ _. ((h.waits bit low is).0, holds), λ _. (h.waits bit low is).1)
        | inr apart ↦ h.asked i l (sym (other i l apart) ∙ s)
      ];
    }

-- and it is not
pub half_false : (parts : Parts) (m : Molecule) (t : Term AtomPrim) (block within n left word : ℕ) → left < 2 ^ 64
    → trailing_zeros w64 left < 64 → (AtomTrue parts t m (64 * block + trailing_zeros w64 left) → ⊥)
    → IsHalfTruth parts m t block within n left word → IsHalfTruth parts m t block within (n + 1)
    (without left (trailing_zeros w64 left)) (without word (trailing_zeros w64 left))
half_false parts m t block within n left word room low none h =
    let bit : ℕ = trailing_zeros w64 left in
    let other = bit_at_clear_other w64 left bit low in
    let kept = bit_at_clear_other w64 word bit low in
    record {
      done = done_more left n room low h.done;
      inside = λ i l s. h.inside i l (sym (other i l (other_bit left bit i low s)) ∙ s);
      waits = λ i l s.
          let old = h.waits i l (sym (other i l (other_bit left bit i low s)) ∙ s) in
          (old.0, kept i l (other_bit left bit i low s) ∙ old.1);
      asked = λ i l s. elim (cases_eq i bit) [
        | inl e ↦ subst (λ k. bit_at (without word bit) k ≡ 1
            ↔ ((bit_at within k ≡ 1) × AtomTrue parts t m (64 * block + k)))
            (sym e) (λ w. absurd (other_bit word bit bit low w refl), λ w. absurd (none w.1))
        | inr apart ↦
            let both = h.asked i l (sym (other i l apart) ∙ s) in
            (λ w. both.0 (sym (kept i l apart) ∙ w), λ w. kept i l apart ∙ both.1 w)
      ];
    }

-- all are asked, where none is left
pub half_whole : (parts : Parts) (m : Molecule) (t : Term AtomPrim) (block within n left word : ℕ) → 64 ≤ n
    → IsHalfTruth parts m t block within n left word → IsTruth parts m t block within word
half_whole parts m t block within n left word enough h i l = h.asked i l (h.done i (omega arith) l)

pub half_all : (parts : Parts) (m : Molecule) (t : Term AtomPrim) (block within n left word : ℕ) → left < 2 ^ 64
    → 64 ≤ trailing_zeros w64 left → IsHalfTruth parts m t block within n left word
    → IsTruth parts m t block within word
half_all parts m t block within n left word room none h i l = h.asked i l (lower_none left room i l (omega arith))

-- the atom of the lowest bit is one of the molecule's
pub next_inside : (parts : Parts) (m : Molecule) (t : Term AtomPrim) (block within n left word : ℕ) → left < 2 ^ 64
    → trailing_zeros w64 left < 64 → IsHalfTruth parts m t block within n left word
    → 64 * block + trailing_zeros w64 left < length m.atoms
next_inside parts m t block within n left word room low h = h.inside (trailing_zeros w64 left) low
    (lowest_is left room low)
