-- Whether a print holds what is wanted is decided.
use Rattle.std.proofs.Common.{◌≡◌, ◌⊎◌, ◌∙◌, Bool, false, inl, inr, List, [], ◌∷◌, refl, suc, sym, true, zero, ℕ}
use Rattle.std.proofs.lemmas.Bool.{true≢false}
use Rattle.chem_core.specs.Bits.{HasBit}
use Rattle.store_machine.specs.Structures.{IsScreened}
use Rattle.store_core.specs.Records.{IsRecord, RecordTerm}
use Rattle.store_core.proofs.Screened.{OneStructure, screened}

-- every bit that is wanted is there
abbrev AreIn : List Bool → List Bool → Type 0
AreIn want print = (bit : ℕ) → HasBit want bit → HasBit print bit

none-of : (bit : ℕ) → HasBit [] bit → ⊥
none-of bit h = true≢false (sym h)

first-bit : List Bool → Bool
first-bit [] = false
first-bit (b ∷ bs) = b

other-bits : List Bool → List Bool
other-bits [] = []
other-bits (b ∷ bs) = bs

others : (print : List Bool) (bit : ℕ) → HasBit print (suc bit) → HasBit (other-bits print) bit
unfolding other-bits
others [] bit h = h
others (b ∷ bs) bit h = h

all-of : (print : List Bool) (bit : ℕ) → HasBit (other-bits print) bit → HasBit print (suc bit)
unfolding other-bits
all-of [] bit h = h
all-of (b ∷ bs) bit h = h

first : (print : List Bool) → HasBit print 0 → first-bit print ≡ true
unfolding first-bit
first [] h = h
first (b ∷ bs) h = h

has-first : (print : List Bool) → first-bit print ≡ true → HasBit print 0
unfolding first-bit
has-first [] h = h
has-first (b ∷ bs) h = h

join : (w : Bool) (ws print : List Bool) → (w ≡ true → first-bit print ≡ true) → AreIn ws (other-bits print)
    → AreIn (w ∷ ws) print
join w ws print f i zero h = has-first print (f h)
join w ws print f i (suc k) h = all-of print k (i k h)

decide : (want print : List Bool) → AreIn want print ⊎ ¬ AreIn want print
decide [] print = inl (λ bit h. absurd (none-of bit h))
decide (w ∷ ws) print =
    elim (decide ws (other-bits print)) [
      | inl i ↦ go w (first-bit print) refl i
      | inr n ↦ inr (λ h. n (λ bit b. others print bit (h (suc bit) b)))
    ]
  where
    go : (w b : Bool) → first-bit print ≡ b → AreIn ws (other-bits print)
        → AreIn (w ∷ ws) print ⊎ ¬ AreIn (w ∷ ws) print
    go false b e i = inl (join false ws print (λ q. absurd (true≢false (sym q))) i)
    go true true e i = inl (join true ws print (λ _. e) i)
    go true false e i = inr (λ h. true≢false (sym (first print (h 0 refl)) ∙ e))

pub decide-record : OneStructure → (want : List Bool) (r : RecordTerm) → IsRecord r
    → IsScreened want r.format r.text ⊎ ¬ IsScreened want r.format r.text
decide-record one want r is =
    let both = screened one r.format r.text r.mol r.print want is.structure is.print in
    elim (decide want r.print) [
      | inl i ↦ inl (both.0 i)
      | inr n ↦ inr (λ s. n (both.1 s))
    ]
