-- The versions that a state keeps: each that is in use. One more may be used beside them.
use Rattle.std.proofs.Common.{◌≡◌, ◌++◌, arith, Contains, IfSome, inl, inr, List, [], ◌∷◌, map, None, Option, refl, Some, subst, sym, ℕ}
use Rattle.std.proofs.lemmas.List.Elements.{Contains-append_cases, Contains-append_left, Contains-append_right, Contains-push}
use Rattle.store_machine.specs.History.{head}
use Rattle.store_machine.specs.Kept.{IsNeeded, IsPast, copied, in_use}
use Rattle.store_machine.specs.Laws.{IsSound}
use Rattle.store_machine.specs.declared.machine.Copying.{Copying}
use Rattle.store_machine.specs.declared.machine.Entry.{Entry}
use Rattle.store_machine.specs.declared.machine.History.{History}
use Rattle.store_machine.specs.declared.machine.State.{State}
use Rattle.store_core.specs.Copied.{KeepsCopied, KeepsUsed, KeepsVersion}
use Rattle.store_core.specs.Stored.{StandsFor, StoreTerm, alone, served}
use Rattle.store_machine.proofs.Members.{contains-here, contains-split}

abbrev pinned : State → List ℕ
pinned s = map (λ p. p.version) s.pins

abbrev behind : Option Copying → ℕ → List ℕ
behind copy last = copied copy ++ last ∷ []

-- of a pin, of a copy, or the head
pin-used : (s : State) (v : ℕ) → Contains (pinned s) v → Contains (in_use s) v
pin-used s v c = Contains-append_left (pinned s) (behind s.copy (head s.history)) v c

head-used : (s : State) → Contains (in_use s) (head s.history)
head-used s = Contains-append_right (pinned s) (behind s.copy (head s.history)) (head s.history)
    (Contains-push (copied s.copy) (head s.history))

copy-used : (s : State) (copy : Copying) → s.copy ≡ Some copy → Contains (in_use s) copy.version
copy-used s copy is = Contains-append_right (pinned s) (behind s.copy (head s.history)) copy.version
    (Contains-append_left (copied s.copy) (head s.history ∷ []) copy.version
    (subst (λ (o : Option Copying). Contains (copied o) copy.version) (sym is)
    (contains-here copy.version copy.version [] refl)))

-- and each is one of these
pub at-copy : (P : ℕ → Type 0) (o : Option Copying) → IfSome o (λ copy. P copy.version) → (v : ℕ)
    → Contains (copied o) v → P v
at-copy P None holds v c = absurd (omega (arith, c.1))
at-copy P (Some copy) holds v c = elim (contains-split copy.version v [] c)
    [ inl e ↦ subst P e holds | inr none ↦ absurd (omega (arith, none.1)) ]

module _ (s : State) (P : ℕ → Type 0) (of-pins : (v : ℕ) → Contains (pinned s) v → P v)
    (of-copy : (v : ℕ) → Contains (copied s.copy) v → P v) (last : P (head s.history)) where
  pub each-used : (v : ℕ) → Contains (in_use s) v → P v
  each-used v c = elim (Contains-append_cases (pinned s) (behind s.copy (head s.history)) v c) [
    | inl pin ↦ of-pins v pin
    | inr rest ↦ elim (Contains-append_cases (copied s.copy) (head s.history ∷ []) v rest) [
      | inl copy ↦ of-copy v copy
      | inr here ↦ elim (contains-split (head s.history) v [] here)
          [ inl e ↦ subst P e last | inr none ↦ absurd (omega (arith, none.1)) ]
    ]
  ]

past-used : (s : State) → IsSound s → (v : ℕ) → Contains (in_use s) v → IsPast s v
past-used s h = each-used s (IsPast s) h.pins (at-copy (IsPast s) s.copy h.bases.copy) (omega arith, omega arith)

pub used-kept : KeepsUsed
used-kept s v h serves used = (
  past-used s h v used,
  λ entry n. h.kept serves entry (record {
    at = v;
    used = used;
    status = n.status;
    state = elim (contains-split v n.at [] n.used)
        [ inl e ↦ rw e n.state | inr none ↦ absurd (omega (arith, none.1)) ];
    made = n.made;
  }),
)

pub copied-kept : KeepsCopied
copied-kept s h serves = (refl, go s.copy refl)
  where
    go : (o : Option Copying) → s.copy ≡ o → IfSome o (λ copy. KeepsVersion s copy.version)
    go None e = tt
    go (Some copy) e = used-kept s copy.version h serves (copy-used s copy e)

-- what is needed at one of some versions is needed at this one
pub one-version : {h : History} {versions : List ℕ} {entry : Entry} (n : IsNeeded h versions entry)
    → IsNeeded h (n.at ∷ []) entry
one-version n = record {
  at = n.at;
  used = contains-here n.at n.at [] refl;
  status = n.status;
  state = n.state;
  made = n.made;
}

module _ (store : StoreTerm) (s : State) (h : StandsFor store (served s)) where
  -- what is kept by a store of its pins and its head
  pub pin-kept : (v : ℕ) → Contains (pinned s) v → KeepsVersion s v
  pin-kept v c = used-kept (alone (served s)) v h.sound refl (pin-used (alone (served s)) v c)

  pub head-kept : KeepsVersion s (head s.history)
  head-kept = used-kept (alone (served s)) (head s.history) h.sound refl (head-used (alone (served s)))

  -- the state alone, with a copy of a version
  abbrev pub with-copy : ℕ → State
  with-copy v = record (alone (served s)) { copy = Some (record { version = v; left = 0 }) }

  pub with-copy-used : (v : ℕ) → Contains (in_use (with-copy v)) v
  with-copy-used v = copy-used (with-copy v) (record { version = v; left = 0 }) refl

  pub with-copy-sound : (v : ℕ) → KeepsVersion s v → IsSound (with-copy v)
  with-copy-sound v keeps = record {
    history = h.sound.history;
    doubt = tt;
    slots = h.sound.slots;
    pins = h.sound.pins;
    bases = record { base = h.sound.bases.base; copy = keeps.0; finish = tt };
    kept = λ _ entry n. (each-used (with-copy v) (KeepsVersion s) pin-kept
        (at-copy (KeepsVersion s) (with-copy v).copy keeps) head-kept n.at n.used).1 entry (one-version n);
    made = λ _. h.sound.made refl;
  }
