-- At which atoms of a block some embedding of a graph begins: the candidates of its first place are asked in turn.
use Rattle.std.proofs.Common.{◌≡◌, ◌↔◌, ◌+◌, ◌*◌, ◌^◌, ◌<◌, ◌≤◌, ◌∙◌, ℕ, List, [], ◌∷◌, bit_and, length, slice_get, Some, inl, inr, refl, subst, sym, arith, w64}
use Rattle.std.specs.Int.{bit_at, trailing_zeros}
use Rattle.std.proofs.lemmas.Bool.{cases_eq}
use Rattle.std.proofs.lemmas.Nat.Bits.{bit_at-lt, bit_at_and, bit_at_clear_other}
use Rattle.std.proofs.lemmas.Option.{slice_get_within}
use Rattle.chem_core.specs.declared.mol.Atom.{Atom}
use Rattle.chem_core.specs.Molecule.{Molecule}
use Rattle.chem_core.specs.Symbols.{class_of}
use Rattle.smarts_parse.specs.Pattern.{GraphTerm}
use Rattle.matcher.specs.Candidates.{AreTruthsIn, IsCandidate}
use Rattle.matcher.specs.Partial.{CanComplete, IsSearchable, Parts}
use Rattle.matcher.specs.Parts.{AreBeginnings}
use Rattle.matcher.proofs.Lowest.{done_more, lower_none, lowest_is, other_bit, without}
use Rattle.matcher.proofs.OnlyAtoms.{one_completes}
use Rattle.matcher.proofs.Standing.{no_begin}

-- the word has the atoms of the block at which the first place may stand
abbrev pub AreFirst : Molecule → List ℕ → ℕ → ℕ → Type 0
AreFirst m words block all = (i : ℕ) → i < 64
    → bit_at all i ≡ 1 ↔ (64 * block + i < length m.atoms) × IsCandidate words 0 (64 * block + i)

-- they are read from the first place's word
pub first_read : (m : Molecule) (words : List ℕ) (block word all : ℕ)
    → ((i : ℕ) → i < 64 → bit_at word i ≡ 1 ↔ IsCandidate words 0 (64 * block + i))
    → ((i : ℕ) → i < 64 → bit_at all i ≡ 1 ↔ 64 * block + i < length m.atoms)
    → AreFirst m words block (bit_and word all)
first_read m words block word all read inside i l =
    let both = bit_at_and word all i in
    let one = bit_at-lt word i in
    let two = bit_at-lt all i in (
      λ t. let here : bit_at word i ≡ 1 = omega arith in ((inside i l).0 (omega arith), (read i l).0 here),
      λ w.
          let in_all = (inside i l).1 w.0 in
          let here = (read i l).1 w.1 in
          omega arith,
    )

-- Of all atoms of a word those that are left are still to be asked, and are held; the lowest n bits are done. Of the
-- others that are of the classes those are held at which some embedding begins.
pub record AreAsked (parts : Parts) (g : GraphTerm) (m : Molecule) (classes block n all left held : ℕ) : Type 0 where
  pub done : (i : ℕ) → i < n → i < 64 → bit_at left i ≡ 0
  pub among : (i : ℕ) → i < 64 → bit_at left i ≡ 1 → bit_at all i ≡ 1
  pub waits : (i : ℕ) → i < 64 → bit_at left i ≡ 1 → bit_at held i ≡ 1
  pub asked : (i : ℕ) (x : Atom) → i < 64 → bit_at left i ≡ 0 → slice_get m.atoms (64 * block + i) ≡ Some x
      → bit_at classes (class_of x) ≡ 1 → bit_at held i ≡ 1 ↔ CanComplete parts g m ((64 * block + i) ∷ [])

-- no embedding begins at another atom
not_first : (parts : Parts) (g : GraphTerm) (m : Molecule) (words : List ℕ) (block all i : ℕ) → 0 < length g.atoms
    → AreTruthsIn parts g m words → AreFirst m words block all → i < 64 → 64 * block + i < length m.atoms
    → (bit_at all i ≡ 1 → ⊥) → CanComplete parts g m ((64 * block + i) ∷ []) → ⊥
not_first parts g m words block all i some truths first l within none w =
    no_begin parts g m words [] 0 (64 * block + i) truths refl some within (λ h. none ((first i l).1 (within, h))) w

-- a graph of one atom has an embedding at each candidate
pub one_begins : (parts : Parts) (g : GraphTerm) (m : Molecule) (words : List ℕ) (classes block all : ℕ)
    → IsSearchable g → length g.atoms ≡ 1 → AreTruthsIn parts g m words → AreFirst m words block all
    → AreBeginnings parts g m classes block all
one_begins parts g m words classes block all graph one truths first i x l get may =
    let a : ℕ = 64 * block + i in
    let within : a < length m.atoms = slice_get_within m.atoms a x get in (
      λ t. one_completes parts g m a graph one within ((truths 0 a (omega arith) within).0 ((first i l).0 t).1),
      λ w. elim (cases_eq (bit_at all i) 1) [
        | inl is ↦ is
        | inr none ↦ absurd (not_first parts g m words block all i (omega arith) truths first l within none w)
      ],
    )

-- all at which an embedding begins are known
pub all_begin : (parts : Parts) (g : GraphTerm) (m : Molecule) (words : List ℕ) (classes block all found : ℕ)
    → 0 < length g.atoms → AreTruthsIn parts g m words → AreFirst m words block all
    → ((i : ℕ) → i < 64
    → bit_at found i ≡ 1 ↔ (bit_at all i ≡ 1) × CanComplete parts g m ((64 * block + i) ∷ []))
    → AreBeginnings parts g m classes block found
all_begin parts g m words classes block all found some truths first h i x l get may =
    let within : 64 * block + i < length m.atoms = slice_get_within m.atoms (64 * block + i) x get in (
      λ t. ((h i l).0 t).1,
      λ w. elim (cases_eq (bit_at all i) 1) [
        | inl is ↦ (h i l).1 (is, w)
        | inr none ↦ absurd (not_first parts g m words block all i some truths first l within none w)
      ],
    )

-- none is asked yet, and no embedding begins at the atoms that are left out
pub asked_near : (parts : Parts) (g : GraphTerm) (m : Molecule) (words : List ℕ) (classes block all near : ℕ)
    → 0 < length g.atoms → AreTruthsIn parts g m words → AreFirst m words block all
    → ((i : ℕ) → i < 64 → bit_at near i ≡ 1 → bit_at all i ≡ 1)
    → ((i : ℕ) → i < 64 → bit_at all i ≡ 1 → CanComplete parts g m ((64 * block + i) ∷ []) → bit_at near i ≡ 1)
    → AreAsked parts g m classes block 0 all near near
asked_near parts g m words classes block all near some truths first within begins = record {
  done = λ i l. absurd (omega arith);
  among = λ i l h. within i l h;
  waits = λ i l h. h;
  asked = λ i x l none get may.
      let inside : 64 * block + i < length m.atoms = slice_get_within m.atoms (64 * block + i) x get in (
        λ t. absurd (omega arith),
        λ w. elim (cases_eq (bit_at all i) 1) [
          | inl is ↦ begins i l is w
          | inr out ↦ absurd (not_first parts g m words block all i some truths first l inside out w)
        ],
      );
}

-- the atom of the lowest bit is asked, and some embedding begins there, or it is of another class
pub asked_held : (parts : Parts) (g : GraphTerm) (m : Molecule) (classes block n all left held : ℕ) → left < 2 ^ 64
    → trailing_zeros w64 left < 64
    → ((x : Atom) → slice_get m.atoms (64 * block + trailing_zeros w64 left) ≡ Some x
    → bit_at classes (class_of x) ≡ 1 → CanComplete parts g m ((64 * block + trailing_zeros w64 left) ∷ []))
    → AreAsked parts g m classes block n all left held
    → AreAsked parts g m classes block (n + 1) all (without left (trailing_zeros w64 left)) held
asked_held parts g m classes block n all left held room low begins h =
    let bit : ℕ = trailing_zeros w64 left in
    let other = bit_at_clear_other w64 left bit low in
    let is : bit_at left bit ≡ 1 = lowest_is left room low in
    record {
      done = done_more left n room low h.done;
      among = λ i l t. h.among i l (sym (other i l (other_bit left bit i low t)) ∙ t);
      waits = λ i l t. h.waits i l (sym (other i l (other_bit left bit i low t)) ∙ t);
      asked = λ i x l t get may. elim (cases_eq i bit) [
        | inl e ↦ (
          λ _. subst (λ k. CanComplete parts g m ((64 * block + k) ∷ [])) (sym e)
              (begins x (subst (λ k. slice_get m.atoms (64 * block + k) ≡ Some x) e get) may),
          λ _. subst (λ k. bit_at held k ≡ 1) (sym e) (h.waits bit low is),
        )
        | inr apart ↦ h.asked i x l (sym (other i l apart) ∙ t) get may
      ];
    }

-- and none begins there
pub asked_out : (parts : Parts) (g : GraphTerm) (m : Molecule) (classes block n all left held : ℕ) → left < 2 ^ 64
    → trailing_zeros w64 left < 64
    → (CanComplete parts g m ((64 * block + trailing_zeros w64 left) ∷ []) → ⊥)
    → AreAsked parts g m classes block n all left held → AreAsked parts g m classes block (n + 1) all
    (without left (trailing_zeros w64 left)) (without held (trailing_zeros w64 left))
asked_out parts g m classes block n all left held room low none h =
    let bit : ℕ = trailing_zeros w64 left in
    let other = bit_at_clear_other w64 left bit low in
    let kept = bit_at_clear_other w64 held bit low in
    record {
      done = done_more left n room low h.done;
      among = λ i l t. h.among i l (sym (other i l (other_bit left bit i low t)) ∙ t);
      waits = λ i l t. kept i l (other_bit left bit i low t)
          ∙ h.waits i l (sym (other i l (other_bit left bit i low t)) ∙ t);
      asked = λ i x l t get may. elim (cases_eq i bit) [
        | inl e ↦ (
          λ s. absurd (other_bit held bit i low s e),
          λ w. absurd (none (subst (λ k. CanComplete parts g m ((64 * block + k) ∷ [])) e w)),
        )
        | inr apart ↦
            let both = h.asked i x l (sym (other i l apart) ∙ t) get may in
            (λ s. both.0 (sym (kept i l apart) ∙ s), λ w. kept i l apart ∙ both.1 w)
      ];
    }

-- all are asked, where none is left
pub asked_whole : (parts : Parts) (g : GraphTerm) (m : Molecule) (classes block n all left held : ℕ) → 64 ≤ n
    → AreAsked parts g m classes block n all left held → AreBeginnings parts g m classes block held
asked_whole parts g m classes block n all left held enough h i x l get may = h.asked i x l
    (h.done i (omega arith) l) get may

pub asked_all : (parts : Parts) (g : GraphTerm) (m : Molecule) (classes block n all left held : ℕ) → left < 2 ^ 64
    → 64 ≤ trailing_zeros w64 left → AreAsked parts g m classes block n all left held
    → AreBeginnings parts g m classes block held
asked_all parts g m classes block n all left held room none h i x l get may = h.asked i x l
    (lower_none left room i l (omega arith)) get may

-- the atom of the lowest bit is one of the molecule's, and a candidate
pub next_first : (parts : Parts) (g : GraphTerm) (m : Molecule) (words : List ℕ) (classes block n all left held : ℕ)
    → left < 2 ^ 64 → trailing_zeros w64 left < 64 → AreFirst m words block all
    → AreAsked parts g m classes block n all left held
    → (64 * block + trailing_zeros w64 left < length m.atoms)
    × IsCandidate words 0 (64 * block + trailing_zeros w64 left)
next_first parts g m words classes block n all left held room low first h =
    let bit : ℕ = trailing_zeros w64 left in
    (first bit low).0 (h.among bit low (lowest_is left room low))
