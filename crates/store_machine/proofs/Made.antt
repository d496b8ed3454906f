-- The entries that a history has made: those of the states of its snapshots, and each is no later than the state that
-- follows it.
use Rattle.std.proofs.Common.{ap, ◌≡◌, ◌+◌, ◌++◌, ◌-◌, ◌<◌, ◌≤◌, ◌⊎◌, ◌∙◌, arith, cond, false, inl, inr, length, List, [], ◌∷◌, nat_cmp, Option, refl, Some, subst, suc, sym, take, true, zero, ℕ}
use Rattle.std.specs.Cmp.{nat_cmp_total}
use Rattle.std.specs.FinMap.{get, get-insert, insert}
use Rattle.std.specs.Ordering.{eq_by_cmp}
use Rattle.std.proofs.lemmas.Bool.{cond-true}
use Rattle.store_machine.specs.History.{AreAllowed, IsHistory, IsId, IsValid, Snapshot, after_change, after_changes, base_states, id_of, made_at, snapshot}
use Rattle.store_machine.specs.declared.machine.Status.{Status}
use Rattle.store_machine.specs.declared.machine.Status.TheVariants.{Live, Withdrawn}
use Rattle.store_machine.specs.Made.{HasMade, IsMade}
use Rattle.store_machine.specs.Laws.{StatesStay}
use Rattle.store_machine.specs.declared.machine.Change.{Change}
use Rattle.store_machine.specs.declared.machine.History.{History}
use Rattle.store_machine.specs.declared.machine.Change.TheVariants.{Register, Revise, Withdraw}
use Rattle.store_machine.proofs.Pushed.{changed}

pub same-tied : (a b : ℕ) → a ≡ b → eq_by_cmp nat_cmp a b ≡ true
same-tied a b e = ap (λ c. eq_by_cmp nat_cmp a c) (sym e) ∙ tied a
  where
    tied : (a : ℕ) → eq_by_cmp nat_cmp a a ≡ true
    tied a = grind arith

-- a state that was made at a version or later
abbrev pub Since : ℕ → Option Status → Type 0
Since version now = (status : Status) × (now ≡ Some status) × (version ≤ made_at status)

inserted-since : (states : Snapshot) (key : ℕ) (new : Status) (id version : ℕ) → version ≤ made_at new
    → Since version (get states id) → Since version (get (insert states key new) id)
inserted-since states key new id version le since =
    subst (Since version) (sym (get-insert nat_cmp_total states key new id))
    (elim (eq_by_cmp nat_cmp id key) as (λ b. Since version (cond b (Some new) (get states id)))
    [ true ↦ (new, refl, le) | false ↦ since ])

changed-since : (after : ℕ) (c : Change) (states : Snapshot) (id version : ℕ) → version ≤ after
    → Since version (get states id) → Since version (get (after_change after c states) id)
changed-since after (Register key format text) states id version le since = inserted-since states key
    (Live after format text) id version le since
changed-since after (Revise key format text) states id version le since = inserted-since states key
    (Live after format text) id version le since
changed-since after (Withdraw key) states id version le since = inserted-since states key
    (Withdrawn after) id version le since

later-since : (after : ℕ) (cs : List Change) (states : Snapshot) (id version : ℕ) → version ≤ after
    → Since version (get states id) → Since version (get (after_changes after cs states) id)
later-since after [] states id version le since = since
later-since after (c ∷ cs) states id version le since =
    later-since (after + 1) cs (after_change (after + 1) c states) id version (omega (arith, le))
    (changed-since (after + 1) c states id version (omega (arith, le)) since)

inserted-here : (states : Snapshot) (key : ℕ) (new : Status) (id : ℕ) → key ≡ id
    → Since (made_at new) (get (insert states key new) id)
inserted-here states key new id e = (
  new,
  get-insert nat_cmp_total states key new id
      ∙ cond-true (eq_by_cmp nat_cmp id key) (Some new) (get states id) (same-tied id key (sym e)),
  omega arith,
)

changed-here : (after : ℕ) (c : Change) (states : Snapshot) (id : ℕ) → id_of c ≡ id
    → Since after (get (after_change after c states) id)
changed-here after (Register key format text) states id e = inserted-here states key (Live after format text) id e
changed-here after (Revise key format text) states id e = inserted-here states key (Live after format text) id e
changed-here after (Withdraw key) states id e = inserted-here states key (Withdrawn after) id e

made-since : (after : ℕ) (cs : List Change) (states : Snapshot) (id version : ℕ) → IsMade after cs id version
    → Since version (get (after_changes after cs states) id)
made-since after [] states id version m = absurd m
made-since after (c ∷ cs) states id version (inl here) =
    later-since (after + 1) cs (after_change (after + 1) c states) id version (omega (arith, here.1))
    (subst (λ k. Since k (get (after_change (after + 1) c states) id)) here.1
    (changed-here (after + 1) c states id here.0))
made-since after (c ∷ cs) states id version (inr later) = made-since (after + 1) cs
    (after_change (after + 1) c states) id version later

state-made : (after : ℕ) (cs : List Change) (states : Snapshot) (id : ℕ) (status : Status)
    → get (after_changes after cs states) id ≡ Some status
    → IsMade after cs id (made_at status) ⊎ (get states id ≡ Some status)
state-made after [] states id status e = inr e
state-made after (c ∷ cs) states id status e =
    elim (state-made (after + 1) cs (after_change (after + 1) c states) id status e) [
      | inl later ↦ inl (inr later)
      | inr now ↦ elim (changed (after + 1) c states id status now) [ inl new ↦ inl (inl new) | inr old ↦ inr old ]
    ]

pub made-after : (after : ℕ) (cs : List Change) (id version : ℕ) → IsMade after cs id version → after < version
made-after after [] id version m = absurd m
made-after after (c ∷ cs) id version (inl here) = omega (arith, here.1)
made-after after (c ∷ cs) id version (inr later) = let less = made-after (after + 1) cs id version later
    in omega (arith, less)

-- of the first n changes
made-taken : (n after : ℕ) (cs : List Change) (id version : ℕ) → IsMade after cs id version → version ≤ after + n
    → IsMade after (take n cs) id version
made-taken n after [] id version m le = absurd m
made-taken zero after (c ∷ cs) id version m le = absurd (omega (arith, le, made-after after (c ∷ cs) id version m))
made-taken (suc n) after (c ∷ cs) id version (inl here) le = inl here
made-taken (suc n) after (c ∷ cs) id version (inr later) le = inr
    (made-taken n (after + 1) cs id version later (omega (arith, le)))

taken-made : (n after : ℕ) (cs : List Change) (id version : ℕ) → IsMade after (take n cs) id version
    → IsMade after cs id version × (version ≤ after + n)
taken-made zero after cs id version m = absurd m
taken-made (suc n) after [] id version m = absurd m
taken-made (suc n) after (c ∷ cs) id version (inl here) = (inl here, omega (arith, here.1))
taken-made (suc n) after (c ∷ cs) id version (inr later) = let rest = taken-made n (after + 1) cs id version later
    in (inr rest.0, omega (arith, rest.1))

pub made-appended : (after : ℕ) (cs more : List Change) (id version : ℕ) → IsMade after cs id version
    → IsMade after (cs ++ more) id version
made-appended after [] more id version m = absurd m
made-appended after (c ∷ cs) more id version (inl here) = inl here
made-appended after (c ∷ cs) more id version (inr later) = inr (made-appended (after + 1) cs more id version later)

pub made-pushed : (after : ℕ) (cs : List Change) (c : Change) (version : ℕ) → version ≡ after + length cs + 1
    → IsMade after (cs ++ c ∷ []) (id_of c) version
made-pushed after [] c version e = inl (refl, omega (arith, e))
made-pushed after (x ∷ xs) c version e = inr (made-pushed (after + 1) xs c version (omega (arith, e)))

-- the state of a snapshot was made, at or before its version
pub snapshot-made : (h : History) (v id : ℕ) (status : Status) → IsHistory h → h.version ≤ v
    → get (snapshot h v) id ≡ Some status → HasMade h id (made_at status) × (made_at status ≤ v)
snapshot-made h v id status good from e =
    elim (state-made h.version (take (v - h.version) h.commits) (base_states h) id status e) [
      | inl m ↦
          let p = taken-made (v - h.version) h.version h.commits id (made_at status) m in
          (inl p.0, omega (arith, p.1, from))
      | inr there ↦ let until = (good.states id status there).until
          in (inr (status, there, refl), omega (arith, until, from))
    ]

-- what was made at or before a version is no later than the state there
pub made-before : (h : History) (v id version : ℕ) → IsHistory h → HasMade h id version → version ≤ v
    → Since version (get (snapshot h v) id)
made-before h v id version good (inl m) le =
    made-since h.version (take (v - h.version) h.commits) (base_states h) id version
    (made-taken (v - h.version) h.version h.commits id version m (omega (arith, le)))
made-before h v id version good (inr (status, there, at)) le =
    let until = (good.states id status there).until in
    later-since h.version (take (v - h.version) h.commits) (base_states h) id version (omega (arith, until, at))
    (status, there, omega (arith, at))

earlier : (n m after : ℕ) (cs : List Change) (states : Snapshot) (id : ℕ) (status : Status) → n ≤ m
    → made_at status ≤ after + n
    → get (after_changes after (take m cs) states) id ≡ Some status
    → get (after_changes after (take n cs) states) id ≡ Some status
earlier zero m after cs states id status le made e =
    elim (state-made after (take m cs) states id status e) [
      | inl late ↦ absurd (omega (arith, made, made-after after (take m cs) id (made_at status) late))
      | inr now ↦
          now
    ]
earlier (suc n) zero after cs states id status le made e = absurd (omega (arith, le))
earlier (suc n) (suc m) after [] states id status le made e = e
earlier (suc n) (suc m) after (c ∷ cs) states id status le made e =
    earlier n m (after + 1) cs (after_change (after + 1) c states) id status (omega (arith, le)) (omega (arith, made)) e

-- it was made by no more commits than the snapshot has
past-made : (h : History) (v id : ℕ) (status : Status) → IsHistory h → get (snapshot h v) id ≡ Some status
    → made_at status - h.version ≤ v - h.version
past-made h v id status good e =
    elim (state-made h.version (take (v - h.version) h.commits) (base_states h) id status e) [
      | inl m ↦
          let p = taken-made (v - h.version) h.version h.commits id (made_at status) m in
          omega (arith, p.1)
      | inr there ↦ let until = (good.states id status there).until in omega (arith, until)
    ]

-- a state is that of the snapshot at which it was made
pub state-then : (h : History) (v id : ℕ) (status : Status) → IsHistory h → get (snapshot h v) id ≡ Some status
    → get (snapshot h (made_at status)) id ≡ Some status
state-then h v id status good e =
    earlier (made_at status - h.version) (v - h.version) h.version h.commits (base_states h) id status
    (past-made h v id status good e) (omega arith) e

valid-id : (c : Change) → IsValid c → IsId (id_of c)
valid-id (Register id format text) valid = valid.0
valid-id (Revise id format text) valid = valid.0
valid-id (Withdraw id) valid = valid

made-valid : (after : ℕ) (cs : List Change) (states : Snapshot) (id version : ℕ) → AreAllowed after cs states
    → IsMade after cs id version → IsId id
made-valid after [] states id version all m = absurd m
made-valid after (c ∷ cs) states id version all (inl here) = subst IsId here.0 (valid-id c all.0)
made-valid after (c ∷ cs) states id version all (inr later) = made-valid (after + 1) cs
    (after_change (after + 1) c states) id version all.2 later

-- an identifier that has a state is in range
pub state-valid : (h : History) (v id : ℕ) (status : Status) → IsHistory h → get (snapshot h v) id ≡ Some status
    → IsId id
state-valid h v id status good e =
    elim (state-made h.version (take (v - h.version) h.commits) (base_states h) id status e) [
      | inl m ↦ made-valid h.version h.commits (base_states h) id (made_at status) good.allowed
          (taken-made (v - h.version) h.version h.commits id (made_at status) m).0
      | inr there ↦ (good.states id status there).in_range
    ]

-- its version is at least 1
state-since : (h : History) (v id : ℕ) (status : Status) → IsHistory h → get (snapshot h v) id ≡ Some status
    → 1 ≤ made_at status
state-since h v id status good e =
    elim (state-made h.version (take (v - h.version) h.commits) (base_states h) id status e) [
      | inl m ↦
          let late = made-after h.version (take (v - h.version) h.commits) id (made_at status) m in
          omega (arith, late)
      | inr there ↦ (good.states id status there).since
    ]

pub states-stay : StatesStay
states-stay h v id status good e = (
  state-valid h v id status good e,
  state-since h v id status good e,
  λ from. (snapshot-made h v id status good from e).1,
  state-then h v id status good e,
)
