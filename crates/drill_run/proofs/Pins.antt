-- The pins of the cursors of all sessions.
use Rattle.std.proofs.Common.{◌≡◌, ◌⊎◌, ◌++◌, ◌∙◌, ap, append_assoc, inl, inr, List, [], ◌∷◌, refl, subst, sym, ℕ}
use Rattle.session_acts.specs.Cursors.{Cursor}
use Rattle.session_acts.specs.Pins.{AreHeld, HasSlot, SameOthers}
use Rattle.session_acts.specs.Watching.{Standing}
use Rattle.session_acts.proofs.Held.{slot-left, slot-right}
use Rattle.session_run.specs.Responds.{KeepsPins}
use Rattle.drill_run.specs.Acts.{AllKept, all_of}

slot-cases : (xs ys : List Cursor) (s : ℕ) → HasSlot (xs ++ ys) s → HasSlot xs s ⊎ HasSlot ys s
slot-cases [] ys s h = inr h
slot-cases (x ∷ xs) ys s (inl e) = inl (inl e)
slot-cases (x ∷ xs) ys s (inr h) = elim (slot-cases xs ys s h) [ inl a ↦ inl (inr a) | inr b ↦ inr b ]

pub held-left : (a : ℕ → ℕ → Type 0) (xs ys : List Cursor) → AreHeld a (xs ++ ys) → AreHeld a xs
held-left a [] ys h = tt
held-left a (x ∷ xs) ys h = (h.0, λ k. h.1 (slot-left xs ys x.slot k), held-left a xs ys h.2)

held-right : (a : ℕ → ℕ → Type 0) (xs ys : List Cursor) → AreHeld a (xs ++ ys) → AreHeld a ys
held-right a [] ys h = h
held-right a (x ∷ xs) ys h = held-right a xs ys h.2

slots-apart : (a : ℕ → ℕ → Type 0) (xs ys : List Cursor) → AreHeld a (xs ++ ys) → (s : ℕ) → HasSlot xs s
    → HasSlot ys s → ⊥
slots-apart a [] ys h s k m = k
slots-apart a (x ∷ xs) ys h s (inl e) m =
    h.1 (slot-right xs ys x.slot (subst (λ (n : ℕ). HasSlot ys n) (sym e) m))
slots-apart a (x ∷ xs) ys h s (inr k) m = slots-apart a xs ys h.2 s k m

held-joined : (a : ℕ → ℕ → Type 0) (xs ys : List Cursor) → AreHeld a xs → AreHeld a ys
    → ((s : ℕ) → HasSlot xs s → HasSlot ys s → ⊥) → AreHeld a (xs ++ ys)
held-joined a [] ys h k apart = k
held-joined a (x ∷ xs) ys h k apart = (
  h.0,
  λ m. elim (slot-cases xs ys x.slot m) [ inl l ↦ h.1 l | inr r ↦ apart x.slot (inl refl) r ],
  held-joined a xs ys h.2 k (λ s l r. apart s (inr l) r),
)

module _ (old new : ℕ → ℕ → Type 0) (cs cs' : List Cursor) (others : SameOthers old cs new cs') where
  -- other cursors keep their pins, and their slots stay apart from those of the cursors that moved
  others-held : (xs : List Cursor) → AreHeld old xs → ((s : ℕ) → HasSlot xs s → HasSlot cs s → ⊥) → AreHeld new xs
      × ((s : ℕ) → HasSlot xs s → HasSlot cs' s → ⊥)
  others-held [] h apart = (tt, λ s k m. k)
  others-held (x ∷ xs) h apart =
      let own = (others x.slot x.version).1 (h.0, λ k. apart x.slot (inl refl) k) in
      let more = others-held xs h.2 (λ s k m. apart s (inr k) m) in (
        (own.0, h.1, more.0),
        λ s k m. elim k [ inl e ↦ own.1 (subst (λ (n : ℕ). HasSlot cs' n) (sym e) m) | inr r ↦ more.1 s r m ],
      )

  -- among them stand those that moved
  pub among-held : (xs ys : List Cursor) → AreHeld new cs' → AreHeld old (xs ++ (cs ++ ys))
      → AreHeld new (xs ++ (cs' ++ ys))
  among-held xs ys moved h =
      let right = held-right old xs (cs ++ ys) h in
      let before = others-held xs (held-left old xs (cs ++ ys) h)
      (λ s k m. slots-apart old xs (cs ++ ys) h s k (slot-left cs ys s m)) in
      let after = others-held ys (held-right old cs ys right) (λ s k m. slots-apart old cs ys right s m k) in
      held-joined new xs (cs' ++ ys) before.0 (held-joined new cs' ys moved after.0 (λ s k m. after.1 s m k))
      (λ s k m. elim (slot-cases cs' ys s m) [
        | inl l ↦ before.1 s k l
        | inr r ↦ slots-apart old xs (cs ++ ys) h s k (slot-right cs ys s r)
      ])

pub all-append : (xs ys : AllKept) → all_of (xs ++ ys) ≡ all_of xs ++ all_of ys
all-append [] ys = refl
all-append (x ∷ xs) ys =
    ap (λ (l : List Cursor). x.cursors ++ l) (all-append xs ys) ∙ sym (append_assoc x.cursors (all_of xs) (all_of ys))

-- the pins of one session, among those of all
pub session-held : (a : ℕ → ℕ → Type 0) (before after : AllKept) (k : Standing)
    → AreHeld a (all_of (before ++ k ∷ after)) → AreHeld a k.cursors
session-held a before after k h =
    held-left a k.cursors (all_of after) (held-right a (all_of before) (k.cursors ++ all_of after)
    (subst (AreHeld a) (all-append before (k ∷ after)) h))

pub sessions-held : (old new : ℕ → ℕ → Type 0) (before after : AllKept) (k k' : Standing)
    → KeepsPins old k.cursors new k'.cursors → AreHeld old (all_of (before ++ k ∷ after))
    → AreHeld new (all_of (before ++ k' ∷ after))
sessions-held old new before after k k' keeps h =
    subst (AreHeld new) (sym (all-append before (k' ∷ after)))
    (among-held old new k.cursors k'.cursors keeps.others (all_of before) (all_of after) keeps.are_held
    (subst (AreHeld old) (all-append before (k ∷ after)) h))
