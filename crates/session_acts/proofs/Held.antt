-- Pins that are held: after calls, and of cursors.
use Rattle.std.proofs.Common.{◌≡◌, ◌⊎◌, ◌++◌, ◌∙◌, inl, inr, List, [], ◌∷◌, refl, subst, sym, ℕ}
use Rattle.store_core.specs.Calls.{SameHeld}
pub use Rattle.par_search.proofs.Held.{held-same as same_held, held-more as same_held-more, not_raised-same}
use Rattle.session_acts.specs.Cursors.{Calls, Cursor}
use Rattle.session_acts.specs.Pins.{AreApart, AreHeld, Effect, HasSlot, HeldAfter, HeldBy, IsApart, Leaves, MovePins, Returns, SameOthers, Takes, effect}

by-under : (a b : ℕ → ℕ → Type 0) (e : Effect) → ((s v : ℕ) → a s v → b s v) → (s v : ℕ) → HeldBy a e s v
    → HeldBy b e s v
by-under a b (Takes slot version) u s v (inl h) = inl (u s v h)
by-under a b (Takes slot version) u s v (inr e) = inr e
by-under a b (Returns slot) u s v h = (u s v h.0, h.1)
by-under a b Leaves u s v h = u s v h

pub after-under : (a b : ℕ → ℕ → Type 0) (cs : Calls) → ((s v : ℕ) → a s v → b s v) → (s v : ℕ) → HeldAfter a cs s v
    → HeldAfter b cs s v
after-under a b [] u s v h = u s v h
after-under a b (c ∷ cs) u s v h =
    after-under (HeldBy a (effect c.0 c.1)) (HeldBy b (effect c.0 c.1)) cs (by-under a b (effect c.0 c.1) u) s v h

after-same : (a b : ℕ → ℕ → Type 0) (cs : Calls) → SameHeld a b → SameHeld (HeldAfter a cs) (HeldAfter b cs)
after-same a b cs h s v =
    (after-under b a cs (λ t w. (h t w).0) s v, after-under a b cs (λ t w. (h t w).1) s v)

pub after-append : (a : ℕ → ℕ → Type 0) (xs ys : Calls) → HeldAfter a (xs ++ ys) ≡ HeldAfter (HeldAfter a xs) ys
after-append a [] ys = refl
after-append a (x ∷ xs) ys = after-append (HeldBy a (effect x.0 x.1)) xs ys

by-apart : (a b : ℕ → ℕ → Type 0) (e : Effect) → ((s v : ℕ) → a s v → b s v) → IsApart b e → IsApart a e
by-apart a b (Takes slot version) u f = λ other h. f other (u slot other h)
by-apart a b (Returns slot) u f = tt
by-apart a b Leaves u f = tt

after-apart : (a b : ℕ → ℕ → Type 0) (cs : Calls) → ((s v : ℕ) → a s v → b s v) → AreApart b cs → AreApart a cs
after-apart a b [] u f = tt
after-apart a b (c ∷ cs) u f = (
  by-apart a b (effect c.0 c.1) u f.0,
  after-apart (HeldBy a (effect c.0 c.1)) (HeldBy b (effect c.0 c.1)) cs (by-under a b (effect c.0 c.1) u) f.1,
)

pub apart-more : (a : ℕ → ℕ → Type 0) (xs ys : Calls) → AreApart a xs → AreApart (HeldAfter a xs) ys
    → AreApart a (xs ++ ys)
apart-more a [] ys f g = g
apart-more a (x ∷ xs) ys f g = (f.0, apart-more (HeldBy a (effect x.0 x.1)) xs ys f.1 g)

pub apart-parts : (a : ℕ → ℕ → Type 0) (xs ys : Calls) → AreApart a (xs ++ ys)
    → AreApart a xs × AreApart (HeldAfter a xs) ys
apart-parts a [] ys f = (tt, f)
apart-parts a (x ∷ xs) ys f = let r = apart-parts (HeldBy a (effect x.0 x.1)) xs ys f.1 in ((f.0, r.0), r.1)

pub moves-none : (a : ℕ → ℕ → Type 0) → MovePins [] a a
moves-none a = record { now = same_held a; apart = tt }

pub moves-more : (a b c : ℕ → ℕ → Type 0) (xs ys : Calls) → MovePins xs a b → MovePins ys b c → MovePins (xs ++ ys) a c
moves-more a b c xs ys m n = record {
  now = same_held-more (HeldAfter a (xs ++ ys)) (HeldAfter b ys) c
      (subst (λ (f : ℕ → ℕ → Type 0). SameHeld f (HeldAfter b ys)) (sym (after-append a xs ys))
      (after-same (HeldAfter a xs) b ys m.now)) n.now;
  apart = apart-more a xs ys m.apart (after-apart (HeldAfter a xs) b ys (λ s v. (m.now s v).1) n.apart);
}

-- calls that leave the pins
abbrev pub Leave : Calls → Type 0
Leave [] = Unit {0}
Leave (c ∷ cs) = (effect c.0 c.1 ≡ Leaves) × Leave cs

pub leave-same : (a : ℕ → ℕ → Type 0) (cs : Calls) → Leave cs → SameHeld a (HeldAfter a cs)
leave-same a [] l = same_held a
leave-same a (c ∷ cs) l =
    subst (λ (e : Effect). SameHeld a (HeldAfter (HeldBy a e) cs)) (sym l.0) (leave-same a cs l.1)

pub leave-apart : (a : ℕ → ℕ → Type 0) (cs : Calls) → Leave cs → AreApart a cs
leave-apart a [] l = tt
leave-apart a (c ∷ cs) l =
    subst (λ (e : Effect). IsApart a e × AreApart (HeldBy a e) cs) (sym l.0) (tt, leave-apart a cs l.1)

pub leave-moves : (a b : ℕ → ℕ → Type 0) (cs : Calls) → Leave cs → SameHeld a b → MovePins cs a b
leave-moves a b cs l h = record {
  now = λ s v. (
    λ x. (leave-same a cs l s v).1 ((h s v).0 x),
    λ x. (h s v).1 ((leave-same a cs l s v).0 x),
  );
  apart = leave-apart a cs l;
}

-- Cursors that stand behind each other
pub slot-left : (xs ys : List Cursor) (s : ℕ) → HasSlot xs s → HasSlot (xs ++ ys) s
slot-left [] ys s h = absurd h
slot-left (x ∷ xs) ys s (inl e) = inl e
slot-left (x ∷ xs) ys s (inr h) = inr (slot-left xs ys s h)

pub slot-right : (xs ys : List Cursor) (s : ℕ) → HasSlot ys s → HasSlot (xs ++ ys) s
slot-right [] ys s h = h
slot-right (x ∷ xs) ys s h = inr (slot-right xs ys s h)

slot-cases : (xs ys : List Cursor) (s : ℕ) → HasSlot (xs ++ ys) s → HasSlot xs s ⊎ HasSlot ys s
slot-cases [] ys s h = inr h
slot-cases (x ∷ xs) ys s (inl e) = inl (inl e)
slot-cases (x ∷ xs) ys s (inr h) = elim (slot-cases xs ys s h) [ inl a ↦ inl (inr a) | inr b ↦ inr b ]

slot-without : (xs ys : List Cursor) (c : Cursor) (s : ℕ) → HasSlot (xs ++ ys) s → HasSlot (xs ++ c ∷ ys) s
slot-without xs ys c s h =
    elim (slot-cases xs ys s h) [ inl a ↦ slot-left xs (c ∷ ys) s a | inr b ↦ slot-right xs (c ∷ ys) s (inr b) ]

slot-with : (xs ys : List Cursor) (c : Cursor) (s : ℕ) → HasSlot (xs ++ c ∷ ys) s → (c.slot ≡ s) ⊎ HasSlot (xs ++ ys) s
slot-with xs ys c s h =
    elim (slot-cases xs (c ∷ ys) s h) [
      | inl a ↦ inr (slot-left xs ys s a)
      | inr b ↦ elim b [ inl e ↦ inl e | inr k ↦ inr (slot-right xs ys s k) ]
    ]

moved_slot : (xs ys : List Cursor) (c c' : Cursor) (s : ℕ) → c'.slot ≡ c.slot → HasSlot (xs ++ c' ∷ ys) s
    → HasSlot (xs ++ c ∷ ys) s
moved_slot xs ys c c' s e k =
    elim (slot-with xs ys c' s k) [
      | inl q ↦ slot-right xs (c ∷ ys) s (inl (sym e ∙ q))
      | inr m ↦ slot-without xs ys c s m
    ]

-- their pins
pub held-same : (a b : ℕ → ℕ → Type 0) (cursors : List Cursor) → SameHeld a b → AreHeld a cursors → AreHeld b cursors
held-same a b [] h k = tt
held-same a b (c ∷ cs) h k = ((h c.slot c.version).1 k.0, k.1, held-same a b cs h k.2)

pub held-at : (a : ℕ → ℕ → Type 0) (before after : List Cursor) (c : Cursor) → AreHeld a (before ++ c ∷ after)
    → a c.slot c.version
held-at a [] after c h = h.0
held-at a (b ∷ bs) after c h = held-at a bs after c h.2

apart-all : (a : ℕ → ℕ → Type 0) (slot : ℕ) (cs : List Cursor) → ¬ HasSlot cs slot → AreHeld a cs
    → AreHeld (HeldBy a (Returns slot)) cs
apart-all a slot [] none h = tt
apart-all a slot (c ∷ cs) none h =
    ((h.0, λ e. none (inl (sym e))), h.1, apart-all a slot cs (λ k. none (inr k)) h.2)

pub held-without : (a : ℕ → ℕ → Type 0) (before after : List Cursor) (c : Cursor) → AreHeld a (before ++ c ∷ after)
    → AreHeld (HeldBy a (Returns c.slot)) (before ++ after)
held-without a [] after c h = apart-all a c.slot after h.1 h.2
held-without a (b ∷ bs) after c h = (
  (h.0, λ e. h.1 (slot-right bs (c ∷ after) b.slot (inl e))),
  λ k. h.1 (slot-without bs after c b.slot k),
  held-without a bs after c h.2,
)

pub held-added : (a : ℕ → ℕ → Type 0) (cursors : List Cursor) (c : Cursor) → IsApart a (Takes c.slot c.version)
    → AreHeld a cursors → AreHeld (HeldBy a (Takes c.slot c.version)) (cursors ++ c ∷ [])
held-added a [] c apart h = (inr (refl, refl), λ k. k, tt)
held-added a (d ∷ ds) c apart h = (
  inl h.0,
  λ k. elim (slot-cases ds (c ∷ []) d.slot k) [
    | inl m ↦ h.1 m
    | inr m ↦ elim m [ inl e ↦ apart d.version (subst (λ (s : ℕ). a s d.version) (sym e) h.0) | inr n ↦ n ]
  ],
  held-added a ds c apart h.2,
)

pub held-moved : (a : ℕ → ℕ → Type 0) (before after : List Cursor) (c c' : Cursor) → c'.slot ≡ c.slot
    → c'.version ≡ c.version → AreHeld a (before ++ c ∷ after) → AreHeld a (before ++ c' ∷ after)
held-moved a [] after c c' e f h = (
  subst (λ (s : ℕ). a s c'.version) (sym e) (subst (λ (v : ℕ). a c.slot v) (sym f) h.0),
  λ k. h.1 (subst (λ (s : ℕ). HasSlot after s) e k),
  h.2,
)
held-moved a (b ∷ bs) after c c' e f h =
    (h.0, λ k. h.1 (moved_slot bs after c c' b.slot e k), held-moved a bs after c c' e f h.2)

-- the pins of others
pub same_others : (a b : ℕ → ℕ → Type 0) (cursors : List Cursor) → SameHeld a b → SameOthers a cursors b cursors
same_others a b cursors h slot version = (λ x. ((h slot version).0 x.0, x.1), λ x. ((h slot version).1 x.0, x.1))

pub same_others-more : (a b c : ℕ → ℕ → Type 0) (xs ys zs : List Cursor) → SameOthers a xs b ys → SameOthers b ys c zs
    → SameOthers a xs c zs
same_others-more a b c xs ys zs h k slot version =
    (λ x. (h slot version).0 ((k slot version).0 x), λ x. (k slot version).1 ((h slot version).1 x))

pub others-without : (a : ℕ → ℕ → Type 0) (before after : List Cursor) (c : Cursor)
    → SameOthers a (before ++ c ∷ after) (HeldBy a (Returns c.slot)) (before ++ after)
others-without a before after c slot version = (
  λ x. (x.0.0, λ h. elim (slot-with before after c slot h) [ inl e ↦ x.0.1 e | inr m ↦ x.1 m ]),
  λ x. (
    (x.0, λ e. x.1 (slot-right before (c ∷ after) slot (inl e))),
    λ h. x.1 (slot-without before after c slot h),
  ),
)

pub others-added : (a : ℕ → ℕ → Type 0) (cursors : List Cursor) (c : Cursor) → IsApart a (Takes c.slot c.version)
    → SameOthers a cursors (HeldBy a (Takes c.slot c.version)) (cursors ++ c ∷ [])
others-added a cursors c apart slot version = (
  λ x. elim x.0 [
    | inl h ↦ (h, λ k. x.1 (slot-left cursors (c ∷ []) slot k))
    | inr e ↦ absurd (x.1 (slot-right cursors (c ∷ []) slot (inl (sym e.0))))
  ],
  λ x. (
    inl x.0,
    λ k. elim (slot-cases cursors (c ∷ []) slot k) [
      | inl m ↦ x.1 m
      | inr m ↦ elim m [ inl e ↦ apart version (subst (λ (s : ℕ). a s version) (sym e) x.0) | inr n ↦ n ]
    ],
  ),
)

pub others-moved : (a : ℕ → ℕ → Type 0) (before after : List Cursor) (c c' : Cursor) → c'.slot ≡ c.slot
    → SameOthers a (before ++ c ∷ after) a (before ++ c' ∷ after)
others-moved a before after c c' e slot version = (
  λ x. (x.0, λ k. x.1 (moved_slot before after c' c slot (sym e) k)),
  λ x. (x.0, λ k. x.1 (moved_slot before after c c' slot e k)),
)
