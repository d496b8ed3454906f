-- Which slots are free.
use Rattle.std.proofs.Common.{◌≡◌, ◌++◌, ◌==◌, ◌∙◌, Bool, cond, eqb-true, eq-eqb, false, filter, List, [], ◌∷◌, None, refl, Some, sym, true, ℕ}
use Rattle.std.proofs.lemmas.Bool.{cond_both, cond-false, false_from_ne_true, true≢false}
use Rattle.store_machine.specs.Machine.{pin_in}
use Rattle.store_machine.specs.declared.machine.Held.{Held}

-- a free slot is not that of the first pin, and is free among the others
pub pin_in-parts : (slot : ℕ) (q : Held) (qs : List Held) → pin_in slot (q ∷ qs) ≡ None
    → ((q.slot == slot) ≡ false) × (pin_in slot qs ≡ None)
pin_in-parts slot q qs h =
    elim (q.slot == slot) as (λ b. cond b (Some q) (pin_in slot qs) ≡ None → (b ≡ false) × (pin_in slot qs ≡ None))
    [ true ↦ λ e. cc_pair e | false ↦ λ e. (refl, e) ] h
  where
    cc_pair : Some q ≡ None → (true ≡ false) × (pin_in slot qs ≡ None)
    cc_pair e = absurd cc

pub other-way : (a b : ℕ) → (a == b) ≡ false → (b == a) ≡ false
other-way a b e = false_from_ne_true (b == a) (λ t. true≢false (sym (eq-eqb a b (sym (eqb-true b a t))) ∙ e))

-- a free slot is free among fewer pins
pub pin_in-filtered : (slot : ℕ) (keeps : Held → Bool) (ps : List Held) → pin_in slot ps ≡ None
    → pin_in slot (filter keeps ps) ≡ None
pin_in-filtered slot keeps [] h = refl
pin_in-filtered slot keeps (p ∷ ps) h =
    let parts = pin_in-parts slot p ps h in
    let rest = pin_in-filtered slot keeps ps parts.1 in
    cond_both (keeps p) (p ∷ filter keeps ps) (filter keeps ps) (λ l. pin_in slot l ≡ None)
    (λ _. cond-false (p.slot == slot) (Some p) (pin_in slot (filter keeps ps)) parts.0 ∙ rest) (λ _. rest)

-- and with a pin more in another slot
pub pin_in-free : (slot : ℕ) (p : Held) (ps : List Held) → (p.slot == slot) ≡ false → pin_in slot ps ≡ None
    → pin_in slot (ps ++ p ∷ []) ≡ None
pin_in-free slot p [] apart h = cond-false (p.slot == slot) (Some p) None apart
pin_in-free slot p (q ∷ qs) apart h =
    let parts = pin_in-parts slot q qs h in
    cond-false (q.slot == slot) (Some q) (pin_in slot (qs ++ p ∷ [])) parts.0 ∙ pin_in-free slot p qs apart parts.1
