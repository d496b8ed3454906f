-- Symbols of atoms as bytes, and the classes of a list with one atom more.
use Rattle.std.proofs.Common.{◌≡◌, ◌≢◌, ◌↔◌, ◌*◌, ◌^◌, ◌%◌, ◌<◌, ◌≤◌, ◌∙◌, ◌++◌, ℕ, Bool, false, true, List, [], ◌∷◌, inl, inr, bit_or, cond, eqb, get_or, length, w64, refl, sym, ap, arith}
use Rattle.std.specs.Prelude.{IsSomeAnd, None, Option, Some, slice_get}
use Rattle.std.specs.Int.{bit_at}
use Rattle.std.proofs.lemmas.Bool.{cases_eq}
use Rattle.std.proofs.lemmas.Bool.Decides.{nat_tests}
use Rattle.std.proofs.lemmas.List.Elements.{Contains-append_left, Contains-push, Contains-push_cases}
use Rattle.std.proofs.lemmas.Nat.Bits.{bit_at_set_same, bit_at_set_other}
use Rattle.std.proofs.lemmas.Option.{slice_get-get_or}
use Rattle.chem_core.specs.declared.mol.Atom.{Atom}
use Rattle.chem_core.specs.Inside.{code, code_in}
use Rattle.chem_core.specs.Symbols.{HasClass, class_of}

-- another symbol is another byte
same-symbol : (m n : ℕ) (a b : Bool) → code m a ≡ code n b → (m ≡ n) × (a ≡ b)
same-symbol m n true true e = (omega arith, refl)
same-symbol m n true false e = absurd (omega arith)
same-symbol m n false true e = absurd (omega arith)
same-symbol m n false false e = (omega arith, refl)

-- no symbol is the byte that stands where there is no atom
no-symbol : (n : ℕ) (b : Bool) → n ≤ 103 → 255 ≢ code n b
no-symbol n true few e = omega arith
no-symbol n false few e = omega arith

-- a byte is that of a symbol exactly where an atom has the symbol
pub has-symbol : (place : Option Atom) (n : ℕ) (b : Bool) → n ≤ 103
    → code_in place ≡ code n b ↔ IsSomeAnd place (λ x. (x.number ≡ n) × (x.aromatic ≡ b))
has-symbol None n b few = (no-symbol n b few, λ none. absurd none)
has-symbol (Some x) n b few = (same-symbol x.number n x.aromatic b, λ same. λ i. code (same.0 i) (same.1 i))

-- what a bit of a comparison says
pub one-if-equal : (bit a b : ℕ) → bit ≡ cond (eqb a b) 1 0 → bit ≡ 1 ↔ a ≡ b
one-if-equal bit a b is = (λ one. grind (arith, nat_tests), λ same. grind (arith, nat_tests))

-- the byte of the atom at a place
pub code-there : (atoms : List Atom) (i : ℕ) (d : Atom) → i < length atoms
    → code_in (slice_get atoms i) ≡ code (get_or atoms i d).number (get_or atoms i d).aromatic
code-there atoms i d within = ap code_in (slice_get-get_or atoms i d within)

-- the bit of one atom more
pub one-class-more : (before after : List Atom) (x : Atom) (word class : ℕ) → after ≡ before ++ x ∷ []
    → class ≡ class_of x → class < 64 → ((c : ℕ) → c < 64 → bit_at word c ≡ 1 ↔ HasClass before c) → (c : ℕ) → c < 64
    → bit_at (bit_or word (1 * 2 ^ class % 2 ^ 64)) c ≡ 1 ↔ HasClass after c
one-class-more before after x word class more is few known c low =
    elim (cases_eq c class) [
      | inl same ↦ (
        λ _. (x, rw more (Contains-push before x), sym (same ∙ is)),
        λ _. rw same (bit_at_set_same w64 word class few),
      )
      | inr other ↦
          let kept = bit_at_set_other w64 word class few c other in (
            λ set.
                let found = (known c low).0 (sym kept ∙ set) in
                (found.0, rw more (Contains-append_left before (x ∷ []) found.0 found.1), found.2),
            λ found.
                kept ∙ (known c low).1 (
                  found.0,
                  elim (Contains-push_cases before x found.0 (rw more at found.1)) [
                    | inl there ↦ there
                    | inr last ↦ absurd (other (sym found.2 ∙ sym (ap class_of last) ∙ sym is))
                  ],
                  found.2,
                ),
          )
    ]
