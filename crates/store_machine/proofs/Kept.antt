-- Each row of the table keeps that what is needed is kept, and that each version in use is one that the history has.
use Rattle.std.proofs.Common.{refl, ◌≡◌, ◌+◌, ◌++◌, ◌⊎◌, ◌∙◌, ap, append_assoc, arith, Bool, Contains, filter, inl, inr, le_of_eq, List, [], ◌∷◌, map, MatchOption, None, Option, option_map, Some, subst, sym, ℕ}
use Rattle.std.specs.FinMap.{get}
use Rattle.std.proofs.lemmas.List.{map-append}
use Rattle.std.proofs.lemmas.List.Elements.{Contains-append_cases, Contains-append_left, Contains-append_right, Contains-push}
use Rattle.store_machine.specs.History.{grown, head, id_of, made_at, snapshot}
use Rattle.store_machine.specs.Machine.{committed, one_more}
use Rattle.store_machine.specs.declared.machine.Status.{Status}
use Rattle.store_machine.specs.Kept.{BasesArePast, IsPast, KeepsNeeded, PinsThePast, copied, in_use}
use Rattle.store_machine.specs.declared.machine.Change.{Change}
use Rattle.store_machine.specs.declared.machine.Copying.{Copying}
use Rattle.store_machine.specs.declared.machine.Entry.{Entry}
use Rattle.store_machine.specs.declared.machine.Held.{Held}
use Rattle.store_machine.specs.declared.machine.State.{State}
use Rattle.store_machine.proofs.Members.{contains-filtered, contains-here, contains-last, contains-split}
use Rattle.store_machine.proofs.PagesRead.{snapshots-stay}
use Rattle.store_machine.proofs.Pushed.{changed, head-grown, snapshot-pushed}

abbrev versions : List Held → List ℕ
versions ps = map (λ p. p.version) ps

-- the versions that pins and a copy use
abbrev pub held : List Held → Option Copying → List ℕ
held ps copy = versions ps ++ copied copy

abbrev used : List Held → Option Copying → ℕ → List ℕ
used ps copy last = versions ps ++ (copied copy ++ last ∷ [])

-- a version in use is one of those or the head
used-cases : (ps : List Held) (copy : Option Copying) (last v : ℕ) → Contains (used ps copy last) v
    → Contains (held ps copy) v ⊎ (last ≡ v)
used-cases ps copy last v c = contains-last last v (held ps copy)
    (subst (λ l. Contains l v) (sym (append_assoc (versions ps) (copied copy) (last ∷ []))) c)

pub held-used : (s : State) (v : ℕ) → Contains (held s.pins s.copy) v → Contains (in_use s) v
held-used s v c = subst (λ l. Contains l v)
    (append_assoc (versions s.pins) (copied s.copy) (head s.history ∷ []))
    (Contains-append_left (held s.pins s.copy) (head s.history ∷ []) v c)

pub head-used : (s : State) → Contains (in_use s) (head s.history)
head-used s = subst (λ l. Contains l (head s.history))
    (append_assoc (versions s.pins) (copied s.copy) (head s.history ∷ []))
    (Contains-push (held s.pins s.copy) (head s.history))

pub pin-used : (s : State) (v : ℕ) → Contains (versions s.pins) v → Contains (in_use s) v
pin-used s v c = held-used s v (Contains-append_left (versions s.pins) (copied s.copy) v c)

copy-used : (s : State) (v : ℕ) → Contains (copied s.copy) v → Contains (in_use s) v
copy-used s v c = held-used s v (Contains-append_right (versions s.pins) (copied s.copy) v c)

-- each of them is one that the history has
copied-past : (s : State) (copy : Option Copying) → MatchOption copy (Unit {0}) (λ c. IsPast s c.version) → (v : ℕ)
    → Contains (copied copy) v → IsPast s v
copied-past s None past v c = absurd (omega (arith, c.1))
copied-past s (Some copy) past v c = elim (contains-split copy.version v [] c)
    [ inl e ↦ subst (IsPast s) e past | inr none ↦ absurd (omega (arith, none.1)) ]

held-past : (s : State) → PinsThePast s → BasesArePast s → (v : ℕ) → Contains (held s.pins s.copy) v → IsPast s v
held-past s past bases v c = elim (Contains-append_cases (versions s.pins) (copied s.copy) v c)
    [ inl pin ↦ past v pin | inr copy ↦ copied-past s s.copy bases.copy v copy ]

pub in_use-past : (s : State) (v : ℕ) → PinsThePast s → BasesArePast s → Contains (in_use s) v → IsPast s v
in_use-past s v past bases c = elim (used-cases s.pins s.copy (head s.history) v c)
    [ inl u ↦ held-past s past bases v u | inr h ↦ (omega (arith, h), le_of_eq (sym h)) ]

pinned-kept : (s : State) (at : ℕ) (entry : Entry) (status : Status) → KeepsNeeded s → Contains (in_use s) at
    → get (snapshot s.history at) entry.id ≡ Some status → made_at status ≡ entry.version → Contains s.kept entry
pinned-kept s at entry status keeps used state made = keeps entry
    (record { at = at; used = used; status = status; state = state; made = made })

same-entry : (entry : Entry) (id version : ℕ) → id ≡ entry.id → version ≡ entry.version
    → record { id = id; version = version } ≡ entry
same-entry entry id version e f = λ i. record { id = e i; version = f i }

commit-needed : (s : State) (c : Change) (version : ℕ) → version ≡ head s.history + 1
    → ((v : ℕ) → Contains (held s.pins s.copy) v → IsPast s v) → KeepsNeeded s
    → (entry : Entry) (at : ℕ) (status : Status)
    → Contains (held s.pins s.copy) at ⊎ (head (grown s.history (c ∷ [])) ≡ at)
    → get (snapshot (grown s.history (c ∷ [])) at) entry.id ≡ Some status → made_at status ≡ entry.version
    → Contains (s.kept ++ record { id = id_of c; version = version } ∷ []) entry
commit-needed s c version e past keeps entry at status (inl used) state made =
    let before : get (snapshot s.history at) entry.id ≡ Some status = ap (λ m. get m entry.id)
    (sym (snapshots-stay s.history (c ∷ []) at (past at used).1)) ∙ state in
    Contains-append_left s.kept _ entry (pinned-kept s at entry status keeps
    (held-used s at used) before made)
commit-needed s c version e past keeps entry at status (inr here) state made =
    let is : at ≡ version = omega (arith, e, head-grown s.history (c ∷ []), here) in
    let after = snapshot-pushed s.history c version e in
    elim (changed version c (snapshot s.history (head s.history)) entry.id status (ap (λ m. get m entry.id) (sym after)
    ∙ (ap (λ k. get (snapshot (grown s.history (c ∷ [])) k) entry.id) (sym is) ∙ state))) [
      | inl new ↦ Contains-append_right s.kept _ entry
          (contains-here _ entry [] (same-entry entry (id_of c) version new.0 (new.1 ∙ made)))
      | inr old ↦ Contains-append_left s.kept _ entry
          (pinned-kept s (head s.history) entry status keeps (head-used s) old made)
    ]

-- a copy that takes one item more is of the same version
copied-more : (copy : Option Copying) → copied (option_map one_more copy) ≡ copied copy
copied-more None = refl
copied-more (Some copy) = refl

pub commit-kept : (s : State) (c : Change) → PinsThePast s → BasesArePast s → KeepsNeeded s
    → KeepsNeeded (committed s c)
commit-kept s c past bases keeps entry n =
    let last : ℕ = head (grown s.history (c ∷ [])) in
    commit-needed s c (head s.history + 1) refl (held-past s past bases) keeps entry n.at n.status
    (used-cases s.pins s.copy last n.at (subst (λ l. Contains (versions s.pins ++ (l ++ last ∷ [])) n.at)
    (copied-more s.copy) n.used)) n.state n.made

-- a version that the history had is one that it has after a commit
grown-past : (s : State) (c : Change) (v : ℕ) → IsPast s v → IsPast (committed s c) v
grown-past s c v past = (past.0, omega (arith, past.1, head-grown s.history (c ∷ [])))

more-past : (s : State) (c : Change) (copy : Option Copying) → MatchOption copy (Unit {0}) (λ x. IsPast s x.version)
    → MatchOption (option_map one_more copy) (Unit {0}) (λ x. IsPast (committed s c) x.version)
more-past s c None past = tt
more-past s c (Some copy) past = grown-past s c copy.version past

pub commit-bases : (s : State) (c : Change) → BasesArePast s → BasesArePast (committed s c)
commit-bases s c bases = record {
  base = grown-past s c s.base bases.base;
  copy = more-past s c s.copy bases.copy;
  finish = tt;
}

pub commit-past : (s : State) (c : Change) → PinsThePast s → PinsThePast (committed s c)
commit-past s c past v held =
    let was = past v held in (was.0, omega (arith, was.1, head-grown s.history (c ∷ [])))

-- other pins, or another copy, all of versions in use before
abbrev pub UsesLess : State → List Held → Option Copying → Type 0
UsesLess s ps copy = (v : ℕ) → Contains (held ps copy) v → Contains (in_use s) v

pub pins-kept : (s : State) (ps : List Held) (copy : Option Copying) → UsesLess s ps copy → KeepsNeeded s
    → KeepsNeeded (record s { pins = ps; copy = copy })
pins-kept s ps copy less keeps entry n =
    pinned-kept s n.at entry n.status keeps
    (elim (used-cases ps copy (head s.history) n.at n.used) [
      | inl u ↦ less n.at u
      | inr h ↦ subst (Contains (in_use s)) h (head-used s)
    ]) n.state n.made

pub pins-past : (s : State) (ps : List Held) (copy : Option Copying) → UsesLess s ps copy → PinsThePast s
    → BasesArePast s → PinsThePast (record s { pins = ps; copy = copy })
pins-past s ps copy less past bases v c = in_use-past s v past bases
    (less v (Contains-append_left (versions ps) (copied copy) v c))

-- other pins beside the same copy, and another copy beside the same pins
pub pins-less : (s : State) (ps : List Held) → ((v : ℕ) → Contains (versions ps) v → Contains (in_use s) v)
    → UsesLess s ps s.copy
pins-less s ps less v c = elim (Contains-append_cases (versions ps) (copied s.copy) v c)
    [ inl pin ↦ less v pin | inr copy ↦ copy-used s v copy ]

pub copy-less : (s : State) (copy : Option Copying) → ((v : ℕ) → Contains (copied copy) v → Contains (in_use s) v)
    → UsesLess s s.pins copy
copy-less s copy less v c = elim (Contains-append_cases (versions s.pins) (copied copy) v c)
    [ inl pin ↦ pin-used s v pin | inr one ↦ less v one ]

-- a pin more, at the head
pub pushed-in_use : (s : State) (p : Held) → p.version ≡ head s.history → (v : ℕ)
    → Contains (versions (s.pins ++ p ∷ [])) v → Contains (in_use s) v
pushed-in_use s p e v c =
    elim (contains-last p.version v (versions s.pins)
    (subst (λ l. Contains l v) (map-append (λ (q : Held). q.version) s.pins (p ∷ [])) c)) [
      | inl u ↦ pin-used s v u
      | inr h ↦ subst (Contains (in_use s)) (sym e ∙ h) (head-used s)
    ]

pub filtered-in_use : (s : State) (p : Held → Bool) (v : ℕ) → Contains (versions (filter p s.pins)) v
    → Contains (in_use s) v
filtered-in_use s p v c = pin-used s v (contains-filtered (λ q. q.version) p v s.pins c)

-- no copy, one of a version in use, or one that starts at the head
pub none-used : (s : State) → (v : ℕ) → Contains (copied None) v → Contains (in_use s) v
none-used s v c = absurd (omega (arith, c.1))

pub one-used : (s : State) (copy : Copying) → Contains (in_use s) copy.version → (v : ℕ)
    → Contains (copied (Some copy)) v → Contains (in_use s) v
one-used s copy there v c = elim (contains-split copy.version v [] c)
    [ inl e ↦ subst (Contains (in_use s)) e there | inr none ↦ absurd (omega (arith, none.1)) ]

pub copy-version-used : (s : State) (copy : Copying) → s.copy ≡ Some copy → Contains (in_use s) copy.version
copy-version-used s copy is = copy-used s copy.version
    (subst (λ (o : Option Copying). Contains (copied o) copy.version) (sym is)
    (contains-here copy.version copy.version [] refl))
