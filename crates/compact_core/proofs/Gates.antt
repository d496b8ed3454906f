-- The first byte of a disk.
use Rattle.std.proofs.Common.{◌≡◌, ◌≢◌, ◌⊎◌, inl, inr, ◌≤◌, ℕ, min, List, [], ◌∷◌, ◌++◌, length, take, drop, refl, sym, ◌∙◌, ap, subst, arith, length-take, take-append-drop}
use Rattle.std.proofs.lemmas.List.{take-take}
use Rattle.std.proofs.lemmas.Bool.{cases_eq}
use Rattle.disk_edge.specs.Disk.{Torn}
use Rattle.journal_core.specs.Fronts.{IsOpen}
use Rattle.journal_core.proofs.FrontLaws.{begins_open, is_long}
use Rattle.journal_core.specs.declared.format.TheConstants.{OPEN}

-- a list of at most one byte is this one or not
pub firsts : (l k : List ℕ) → (take 1 l ≡ take 1 k) ⊎ (take 1 l ≢ take 1 k)
firsts [] [] = inl refl
firsts [] (b ∷ k) = inr (λ e. cc e)
firsts (a ∷ l) [] = inr (λ e. cc e)
firsts (a ∷ l) (b ∷ k) = elim (cases_eq a b) [
  | inl same ↦ inl (ap (λ (x : ℕ). x ∷ []) same)
  | inr differs ↦ inr (λ (e : a ∷ [] ≡ b ∷ []). differs (cc e))
]

no_bytes : (d : List ℕ) → take 1 d ≡ [] → length d ≡ 0
no_bytes [] e = refl
no_bytes (b ∷ d) e = cc e

-- Where the gate is written, and what a read gives begins with an open one or has none, an image that is open was one.
module _ (images : List ℕ → Type 0) (l : List ℕ)
    (loose : (c e : List ℕ) → images c → take 1 c ≢ take 1 l → Torn 0 1 c e → images e)
    (begins : (take 1 l ≡ OPEN ∷ []) ⊎ (l ≡ [])) where
  same_gate : (d e : List ℕ) → images d → Torn 0 1 d e → IsOpen e → take 1 d ≡ OPEN ∷ [] → images e
  same_gate d e image torn is_open gate =
      let front : take 1 d ≡ take 1 e = gate ∙ sym (begins_open e is_open) in
      let same : d ≡ e = sym (take-append-drop 1 d) ∙ ap (λ (k : List ℕ). k ++ drop 1 d) front
      ∙ ap (λ (k : List ℕ). take 1 e ++ k) (sym torn.after) ∙ take-append-drop 1 e in
      subst images same image

  pub gate_written : (d e : List ℕ) → images d → Torn 0 1 d e → IsOpen e → images e
  gate_written d e image torn is_open = elim (firsts d l) [
    | inr differs ↦ loose d e image differs torn
    | inl same ↦ elim begins [
      | inl gate ↦ same_gate d e image torn is_open (same ∙ gate)
      | inr none ↦
          let empty = no_bytes d (same ∙ ap (λ (k : List ℕ). take 1 k) none) in
          absurd (omega (arith, empty, torn.no_longer, is_long e is_open))
    ]
  ]

-- a write behind the gate leaves it
pub gate_kept : (at n gate : ℕ) (d c : List ℕ) → 1 ≤ at → Torn at n d c → take 1 d ≡ gate ∷ [] → take 1 c ≡ gate ∷ []
gate_kept at n gate d c le torn is =
    let some : 1 ≤ length d = omega (arith, ap length is, length-take 1 d) in
    sym (take-take 1 (min at (length d)) c (omega (arith, le, some))) ∙ ap (λ (k : List ℕ). take 1 k) torn.before
    ∙ take-take 1 at d le ∙ is

pub same_byte : (a b : ℕ) → a ∷ [] ≡ b ∷ [] → a ≡ b
same_byte a b is = cc is

-- what begins with a gate that is not open is not open
pub not_open : (gate : ℕ) (c : List ℕ) → gate ≢ OPEN → take 1 c ≡ gate ∷ [] → IsOpen c → ⊥
not_open gate c shut is is_open = shut (same_byte gate OPEN (sym is ∙ begins_open c is_open))

pub closed_not_open : (c : List ℕ) → take 1 c ≢ OPEN ∷ [] → IsOpen c → ⊥
closed_not_open c closed is_open = closed (begins_open c is_open)

pub no_gate : (l : List ℕ) → length l ≡ 0 → take 1 l ≢ OPEN ∷ []
no_gate l none is = omega (arith, none, ap length is, length-take 1 l)
