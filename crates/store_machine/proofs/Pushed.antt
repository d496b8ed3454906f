-- One commit more: the snapshot that it makes, and that the history stays allowed.
use Rattle.std.proofs.Common.{◌≡◌, ◌+◌, ◌++◌, ◌-◌, ◌⊎◌, ◌∙◌, ap, arith, cond, Equal, false, Greater, inl, inr, is_eq, length, length-append, Less, List, [], ◌∷◌, nat_cmp, None, Option, Ordering, refl, Some, subst, sym, true, ℕ}
use Rattle.std.proofs.Math.Seq.{take_all}
use Rattle.std.specs.Cmp.{nat_cmp_total}
use Rattle.std.specs.FinMap.{get, get-insert, insert, nat_cmp-IsAntisymmetric}
use Rattle.std.specs.Ordering.{eq_by_cmp}
use Rattle.store_machine.specs.History.{AreAllowed, IsAllowed, IsHistory, IsValid, Snapshot, after_change, after_changes, base_states, grown, head, id_of, made_at, snapshot}
use Rattle.store_machine.specs.declared.machine.Status.{Status}
use Rattle.store_machine.specs.declared.machine.Status.TheVariants.{Live, Withdrawn}
use Rattle.store_machine.specs.Laws.{CommitsChange}
use Rattle.store_machine.specs.declared.machine.Change.{Change}
use Rattle.store_machine.specs.declared.machine.History.{History}
use Rattle.store_machine.specs.declared.machine.Change.TheVariants.{Register, Revise, Withdraw}

after_changes-pushed : (version : ℕ) (cs : List Change) (c : Change) (states : Snapshot)
    → after_changes version (cs ++ c ∷ []) states ≡ after_change (version + length cs + 1) c
    (after_changes version cs states)
after_changes-pushed version [] c states = ap (λ v. after_change v c states) (omega arith)
after_changes-pushed version (x ∷ xs) c states =
    after_changes-pushed (version + 1) xs c (after_change (version + 1) x states)
    ∙ ap (λ v. after_change v c (after_changes (version + 1) xs (after_change (version + 1) x states)))
    (omega arith)

pub snapshot-head : (h : History) → snapshot h (head h) ≡ after_changes h.version h.commits (base_states h)
snapshot-head h = ap (λ cs. after_changes h.version cs (base_states h))
    (take_all (head h - h.version) h.commits (omega arith))

pub head-grown : (h : History) (more : List Change) → head (grown h more) ≡ head h + length more
head-grown h more = omega (arith, length-append h.commits more)

pub snapshot-pushed : (h : History) (c : Change) (v : ℕ) → v ≡ head h + 1
    → snapshot (grown h (c ∷ [])) v ≡ after_change v c (snapshot h (head h))
snapshot-pushed h c v e =
    let long : v ≡ head (grown h (c ∷ [])) = omega (arith, e, length-append h.commits (c ∷ [])) in
    let all : Snapshot = after_changes h.version h.commits (base_states h) in
    ap (λ k. snapshot (grown h (c ∷ [])) k) long ∙ (snapshot-head (grown h (c ∷ []))
    ∙ (after_changes-pushed h.version h.commits c (base_states h)
    ∙ (ap (λ k. after_change k c all) (sym e) ∙ ap (after_change v c) (sym (snapshot-head h)))))

AreAllowed-pushed : (version : ℕ) (cs : List Change) (c : Change) (states : Snapshot)
    → AreAllowed version cs states → IsValid c → IsAllowed (after_changes version cs states) c
    → AreAllowed version (cs ++ c ∷ []) states
AreAllowed-pushed version [] c states all valid allowed = (valid, allowed, tt)
AreAllowed-pushed version (x ∷ xs) c states all valid allowed = (
  all.0,
  all.1,
  AreAllowed-pushed (version + 1) xs c
      (after_change (version + 1) x states) all.2 valid allowed,
)

pub IsHistory-pushed : (h : History) (c : Change) → IsHistory h → IsValid c → IsAllowed (snapshot h (head h)) c
    → IsHistory (grown h (c ∷ []))
IsHistory-pushed h c good valid allowed = record {
  base = good.base;
  states = good.states;
  allowed = AreAllowed-pushed h.version h.commits c (base_states h) good.allowed valid
      (subst (λ states. IsAllowed states c) (snapshot-head h) allowed);
}

-- a state after a change is the changed one, or was there before
abbrev pub IsNewOrOld : ℕ → Change → Snapshot → ℕ → Status → Type 0
IsNewOrOld version c states id status = ((id_of c ≡ id) × (version ≡ made_at status)) ⊎ (get states id ≡ Some status)

made_in : Option Status → ℕ
made_in None = 0
made_in (Some status) = made_at status

pub made-same : (a b : Status) → Some a ≡ Some b → made_at a ≡ made_at b
unfolding made_in
made-same a b e = ap made_in e

pub same-key : (a b : ℕ) (o : Ordering) → nat_cmp a b ≡ o → is_eq o ≡ true → b ≡ a
same-key a b Less e h = cc
same-key a b Equal e h = sym (nat_cmp-IsAntisymmetric a b e)
same-key a b Greater e h = cc

inserted : (states : Snapshot) (key : ℕ) (now : Status) (id : ℕ) (status : Status)
    → get (insert states key now) id ≡ Some status
    → ((key ≡ id) × (made_at now ≡ made_at status)) ⊎ (get states id ≡ Some status)
inserted states key now id status e =
    elim (eq_by_cmp nat_cmp id key) as (λ b. eq_by_cmp nat_cmp id key ≡ b
    → cond b (Some now) (get states id) ≡ Some status → ((key ≡ id) × (made_at now ≡ made_at status))
    ⊎ (get states id ≡ Some status)) [
      | true ↦ λ t f. inl (same-key id key (nat_cmp id key) refl t, made-same now status f)
      | false ↦ λ t f. inr f
    ] refl (sym (get-insert nat_cmp_total states key now id) ∙ e)

pub changed : (version : ℕ) (c : Change) (states : Snapshot) (id : ℕ) (status : Status)
    → get (after_change version c states) id ≡ Some status → IsNewOrOld version c states id status
changed version (Register key format text) states id status e = inserted states key
    (Live version format text) id status e
changed version (Revise key format text) states id status e = inserted states key (Live version format text) id status e
changed version (Withdraw key) states id status e = inserted states key (Withdrawn version) id status e

pub commits-change : CommitsChange
commits-change h c = snapshot-pushed h c (head h + 1) refl
