-- What a store in which one identifier alone may have what is wanted is after a call, and what a fetch reads there.
use Rattle.std.proofs.Common.{◌≡◌, ◌+◌, ◌≤◌, ◌⊎◌, ◌∙◌, All, AllPairs, ◌≢◌, ap, arith, Bool, Contains, inl, inr, length, List, [], ◌∷◌, nat_cmp, Ok, Option, refl, Some, subst, sym, true, ℕ}
use Rattle.std.proofs.lemmas.Bool.{cond-true}
use Rattle.std.proofs.lemmas.List.Elements.{Contains-push_cases}
use Rattle.std.specs.Arc.{arc_value}
use Rattle.std.specs.Cmp.{nat_cmp_total}
use Rattle.std.specs.FinMap.{get, get-insert}
use Rattle.std.specs.Ordering.{eq_by_cmp}
use Rattle.snap_registry.specs.declared.Pin.{Pin}
use Rattle.mol_finish.specs.declared.fault.Format.{Format}
use Rattle.store_machine.specs.Answers.{IsAnswer}
use Rattle.store_machine.specs.History.{grown, head, snapshot}
use Rattle.store_machine.specs.Laws.{CommitsChange, SnapshotsStay}
use Rattle.store_machine.specs.Machine.{CommitGives, FetchGives, PinGives, committed}
use Rattle.store_machine.specs.Structures.{IsScreened}
use Rattle.store_machine.specs.declared.machine.Change.TheVariants.{Register}
use Rattle.store_machine.specs.declared.machine.Entry.{Entry}
use Rattle.store_machine.specs.declared.machine.Event.TheVariants as event
use Rattle.store_machine.specs.declared.machine.Reply.TheVariants as reply
use Rattle.store_machine.specs.declared.machine.State.{State}
use Rattle.store_machine.specs.declared.machine.Status.TheVariants.{Live}
use Rattle.store_core.specs.Calls.{Calls, IsTaken}
use Rattle.store_core.specs.Kept.{HasPrint}
use Rattle.store_rows.specs.Only.{AreOf, HasOnly}
use Rattle.store_core.specs.Records.{IsRecord, Shared, founds}
use Rattle.store_core.specs.Replies.{commit_calls, fetch_calls, pin_calls}
use Rattle.store_core.specs.Steps.{AreSteps}
use Rattle.store_core.specs.Stored.{IsAt, StandsFor, StoreTerm, Stretches, served}
use Rattle.store_core.specs.declared.words.Change.TheVariants as asked
use Rattle.store_core.proofs.Screened.{OneStructure, screened}
use Rattle.store_core.proofs.OneStep.{step-of}

tied : (a : ℕ) → eq_by_cmp nat_cmp a a ≡ true
tied a = grind arith

-- a registration of a text that lacks what is wanted, or is under the identifier
module _ (snapshots : SnapshotsStay) (change : CommitsChange) (want : List Bool) (only : ℕ) (store : StoreTerm)
    (s : State) (h : StandsFor store (served s)) (id : ℕ) (format : Format) (text : List ℕ)
    (lacks : (id ≡ only) ⊎ ¬ IsScreened want format text) where
  older : AreOf want only s → (e : Entry) → Contains s.kept e
      → IsAnswer (IsScreened want) (grown s.history (Register id format text ∷ [])) e.version e.id → e.id ≡ only
  older found e c a =
      let x = (h.kept.exactly e).0 c in
      let early = (h.chains e.id).late x.0 x.1 in
      let le : e.version ≤ head s.history = omega (arith, early, x.2) in
      found e c (record {
        version = a.version;
        format = a.format;
        text = a.text;
        state = ap (λ m. get m e.id) (sym (snapshots s.history (Register id format text ∷ []) e.version le)) ∙ a.state;
        asked = a.asked;
      })

  new-text : IsAnswer (IsScreened want) (grown s.history (Register id format text ∷ [])) (head s.history + 1) id
      → IsScreened want format text
  new-text a =
      let states = snapshot s.history (head s.history) in
      let status = Live (head s.history + 1) format text in
      let is : get (snapshot (grown s.history (Register id format text ∷ [])) (head s.history + 1)) id ≡ Some status =
      ap (λ m. get m id) (change s.history (Register id format text))
      ∙ (get-insert nat_cmp_total states id status id
      ∙ cond-true (eq_by_cmp nat_cmp id id) (Some status) (get states id) (tied id)) in
      let same : Some (Live a.version a.format a.text) ≡ Some status = sym a.state ∙ is in
      let f : a.format ≡ format = cc in
      let t : a.text ≡ text = cc in
      subst (λ x. IsScreened want x text) f (subst (λ x. IsScreened want a.format x) t a.asked)

  newest : (e : Entry) → record { id = id; version = head s.history + 1 } ≡ e
      → IsAnswer (IsScreened want) (grown s.history (Register id format text ∷ [])) e.version e.id → e.id ≡ only
  newest e is a =
      let b = subst (λ (x : Entry).
      IsAnswer (IsScreened want) (grown s.history (Register id format text ∷ [])) x.version x.id) (sym is) a in
      elim lacks [ inl same ↦ sym (ap (λ (x : Entry). x.id) is) ∙ same | inr lack ↦ absurd (lack (new-text b)) ]

  grown-only : AreOf want only s → AreOf want only (committed s (Register id format text))
  grown-only found e c a =
      let cases = Contains-push_cases s.kept (record { id = id; version = head s.history + 1 }) e c in
      elim cases [ inl old ↦ older found e old a | inr is ↦ newest e is a ]

lacking : OneStructure → (want : List Bool) (only : ℕ) (r : Shared) → IsRecord (arc_value r)
    → ((arc_value r).id ≡ only) ⊎ ¬ HasPrint want (Some r)
    → ((arc_value r).id ≡ only) ⊎ ¬ IsScreened want (arc_value r).format (arc_value r).text
lacking one want only r is (inl same) = inl same
lacking one want only r is (inr lack) =
    let x = arc_value r in
    inr (λ s. lack ((screened one x.format x.text x.mol x.print want is.structure is.print).1 s))

pub registered-only : SnapshotsStay → CommitsChange → OneStructure → (want : List Bool) (only : ℕ) (old new : StoreTerm)
    (r : Shared) (version : ℕ) → IsRecord (arc_value r) → ((arc_value r).id ≡ only) ⊎ ¬ HasPrint want (Some r)
    → ((s : State) → IsAt old s → Calls Stretches (λ _. true) old new s (commit_calls (asked.Register r) (Ok version)))
    → HasOnly old want only → HasOnly new want only
registered-only snapshots change one want only old new r version is lacks calls h =
    let s = h.0 in
    let c = calls s h.1 in
    let x = arc_value r in
    let told = Register x.id x.format x.text in
    let step = step-of old new s (event.Commit told) (reply.Committed version) c in
    let gives : CommitGives s told (reply.Committed version) c.after = step.gives.1 in
    let then : AreOf want only (committed s told) =
    grown-only snapshots change want only old s h.1.stands x.id x.format x.text
    (lacking one want only r is lacks) h.2 in (
      c.after,
      c.stands.ends,
      subst (AreOf want only) (sym gives.2) then,
    )

pinned-only : (want : List Bool) (only : ℕ) (old new : StoreTerm) (p : Pin)
    → ((s : State) → IsAt old s → Calls Stretches (λ _. true) old new s (pin_calls (Ok (Some p))))
    → HasOnly old want only → HasOnly new want only
pinned-only want only old new p calls h =
    let s = h.0 in
    let c = calls s h.1 in
    let step = step-of old new s event.Pin (reply.Pinned p.slot p.version) c in
    let gives : PinGives s step.owner (reply.Pinned p.slot p.version) c.after = step.gives.1 in (
      c.after,
      c.stands.ends,
      subst (AreOf want only) (sym gives.4) h.2,
    )

fetched-only : (want : List Bool) (only : ℕ) (old new : StoreTerm) (slot : ℕ) (from limit : ℕ) (records : List Shared)
    (last : Bool)
    → ((s : State) → IsAt old s
    → Calls Stretches (λ _. true) old new s (fetch_calls slot want from limit records (Ok last)))
    → HasOnly old want only → HasOnly new want only
fetched-only want only old new slot from limit records last calls h =
    let s = h.0 in
    let c = calls s h.1 in
    let step = step-of old new s (event.Fetch slot want from limit) (reply.Page (founds records) last) c in
    let gives : FetchGives s step.owner slot want from limit (reply.Page (founds records) last) c.after =
    step.gives.1 in (
      c.after,
      c.stands.ends,
      subst (AreOf want only) (sym gives.3) h.2,
    )

-- entries of one identifier, no two of which are of one
at-most-one : (only : ℕ) (es : List Entry) → All (λ (e : Entry). e.id ≡ only) es
    → AllPairs (λ (x y : Entry). x.id ≢ y.id) es → length es ≤ 1
at-most-one only [] same apart = omega arith
at-most-one only (x ∷ []) same apart = omega arith
at-most-one only (x ∷ (y ∷ zs)) same apart =
    let a : x.id ≡ only = same 0 x (omega arith) in
    let b : y.id ≡ only = same 1 x (omega arith) in
    absurd (apart 0 1 x (omega arith) (omega arith) (a ∙ sym b))

pub one-is-read : (want : List Bool) (only : ℕ) (old new : StoreTerm) (slot from limit : ℕ) (records : List Shared)
    (last : Bool) (before after : ℕ)
    → ((s : State) → IsAt old s
    → Calls Stretches (λ _. true) old new s (fetch_calls slot want from limit records (Ok last)))
    → ((s : State) → IsAt new s → AreSteps s from want before after)
    → HasOnly old want only → after ≤ before + 1
one-is-read want only old new slot from limit records last before after calls steps h =
    let n = fetched-only want only old new slot from limit records last calls h in
    let r = steps n.0 n.1 in
    let same : All (λ (e : Entry). e.id ≡ only) r.entries =
    λ k d within. let each = r.each k d within in n.2 _ each.1 each.2 in
    let few = at-most-one only r.entries same r.apart in
    omega (arith, few, r.count)

-- the answer of a `?` is a pin
pub taken : (o : Option Pin) (p : Pin) → o ≡ Some p → IsTaken (Ok o) p.slot p.version
taken o p is = subst (λ (x : Option Pin). IsTaken (Ok x) p.slot p.version) (sym is) (refl, refl)

pub pinned-some : (want : List Bool) (only : ℕ) (old new : StoreTerm) (o : Option Pin) (p : Pin) → o ≡ Some p
    → ((s : State) → IsAt old s → Calls Stretches (λ _. true) old new s (pin_calls (Ok o)))
    → HasOnly old want only → HasOnly new want only
pinned-some want only old new o p is calls h =
    pinned-only want only old new p
    (subst (λ (x : Option Pin). (s : State) → IsAt old s → Calls Stretches (λ _. true) old new s (pin_calls (Ok x)))
    is calls) h
