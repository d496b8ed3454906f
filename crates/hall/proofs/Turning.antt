-- A turn of a pass is a part of the history with the one call of the pass at its end, or with none where all turns were
-- taken.
use Rattle.std.proofs.Common.{◌≡◌, ◌≤◌, ◌++◌, ◌&&◌, ◌∙◌, ap, append_assoc, arith, Bool, false, inl, inr, if◌then◌else◌, length, length-append, List, [], ◌∷◌, refl, subst, sym, true, ℕ}
use Rattle.disk_edge.specs.Disk.{DiskModel}
use Rattle.store_machine.specs.Laws.{PinsStay}
use Rattle.store_machine.specs.Machine.{Holds}
use Rattle.store_machine.specs.Runs.{IsCalm, IsRun, calls_of, is_call}
use Rattle.store_machine.specs.Searches.{KeepsPin}
use Rattle.store_machine.specs.declared.machine.Event.{Event}
use Rattle.store_machine.specs.declared.machine.Reply.{Reply}
use Rattle.store_machine.specs.declared.machine.State.{State}
use Rattle.store_machine.specs.declared.machine.Step.{Step}
use Rattle.turn_gate.specs.Numbers.{has, own}
use Rattle.turn_gate.specs.Passes as gate
use Rattle.turn_gate.specs.Steps.{Sat}
use Rattle.turn_gate.specs.declared.gate.Pass.{Pass}
use Rattle.turn_gate.proofs.Lists.{has_head, single_is}
use Rattle.hall.specs.declared.hall.Hall.{Hall}
use Rattle.hall.specs.declared.hall.HallPass.{HallPass}
use Rattle.hall.specs.declared.kept.Kept.{Kept}
use Rattle.hall.specs.declared.kept.Origin.{Origin}
use Rattle.hall.specs.Answers.{HasPins, IsAnswered, Made, Takes, TheCalls}
use Rattle.hall.specs.Desks.{IsAt, Stays, Stretches}
use Rattle.hall.specs.Histories.{Adds, KeptFor, MayAsk, MayTell, Tells, after, told_of}
use Rattle.hall.specs.Passes.{HoldsPin, IsFrom, IsOf, by, known}
use Rattle.hall.proofs.Asking.{may-call}
use Rattle.hall.proofs.Calls.{IsCall}
use Rattle.hall.proofs.Numbers.{no-calls}
use Rattle.hall.proofs.Pins.{held-before, took-one}
use Rattle.hall.proofs.Runs.{call_of, calm-parts, run-parts}

pub calls-append : (mine : ℕ → Bool) (xs ys : List Step) → calls_of mine (xs ++ ys) ≡ calls_of mine xs
    ++ calls_of mine ys
calls-append mine [] ys = refl
calls-append mine (x ∷ xs) ys = chosen (is_call x.event && mine x.owner) (call_of x) (calls_of mine xs)
    (calls_of mine ys) (calls_of mine (xs ++ ys)) (calls-append mine xs ys)
  where
    chosen : (b : Bool) (c : Event × Reply) (us vs ws : TheCalls) → ws ≡ us ++ vs
        → (if b then c ∷ ws else ws) ≡ (if b then c ∷ us else us) ++ vs
    chosen true c us vs ws e = ap (λ l. c ∷ l) e
    chosen false c us vs ws e = e

-- others' events, and then one of its own
own-last : (ns : List ℕ) (xs : List Step) (x : Step) → own by ns xs ≡ [] → is_call x.event ≡ true
    → has ns x.owner ≡ true → calls_of (has ns) (xs ++ x ∷ []) ≡ call_of x ∷ []
own-last ns xs x others call mine =
    calls-append (has ns) xs (x ∷ [])
    ∙ (ap (λ (l : TheCalls). l ++ calls_of (has ns) (x ∷ [])) (no-calls ns xs others)
    ∙ (ap (λ (b : Bool). if b && has ns x.owner then call_of x ∷ [] else []) call
    ∙ ap (λ (b : Bool). if b then call_of x ∷ [] else []) mine))

last-calm : (xs : List Step) (x : Step) → IsCalm (xs ++ x ∷ []) → is_call x.event ≡ true
last-calm xs x c = (calm-parts xs (x ∷ []) c).1.0

-- a pass is at some state
pub is-at : {D : Type 0} (h : Hall D) (p : HallPass D) → IsOf h p → (s : State) × IsAt p s
is-at h p of =
    let origin = single_is (known p).origin of.placed in
    (after origin.0.state (known p).seen, (origin.0, origin.1, refl))

module _ {D : Type 0} (model : DiskModel D) where
  abbrev Seat : Type 0
  Seat = Sat (Kept D) Step (Origin D)

  -- the pass has seen more of the history, for which what is under the gate stands
  pub record Turned (p q : HallPass D) (xs : List Step) : Type 0 where
    pub origin : Origin D
    pub kept : Kept D
    pub of : IsFrom origin p
    pub seen : (known q).seen ≡ (known p).seen ++ xs
    pub stays : Stays p q
    pub standing : KeptFor model origin kept ((known p).seen ++ xs)

  stretch-of : (p q : HallPass D) (xs : List Step) (t : Turned p q xs) (s : State) → IsAt p s
      → Stretches p q s xs (after t.origin.state ((known p).seen ++ xs))
  stretch-of p q xs t s at =
      let same : at.0 ≡ t.origin = cc (t.of, at.1) in
      let here : s ≡ after t.origin.state (known p).seen =
      at.2 ∙ ap (λ (o : Origin D). after o.state (known p).seen) same in
      let all = t.standing.stands in
      record {
        begins = at;
        ends = (t.origin, t.stays.origin ∙ t.of, ap (after t.origin.state) (sym t.seen));
        seen = t.seen;
        stays = t.stays;
        run = subst (λ (u : State). IsRun u xs (after t.origin.state ((known p).seen ++ xs))) (sym here)
            (run-parts (known p).seen xs t.origin.state (after t.origin.state ((known p).seen ++ xs)) all.run).1;
        calm = (calm-parts (known p).seen xs all.calm).1;
      }

  made-of : (p q : HallPass D) (xs : List Step) (calls : TheCalls) → Turned p q xs
      → calls_of (has (known p).numbers) xs ≡ calls → Made p q calls
  made-of p q xs calls t own s at = record {
    steps = xs;
    after = after t.origin.state ((known p).seen ++ xs);
    stands = stretch-of p q xs t s at;
    own = own;
  }

  -- what the calls of a pass tell of its pins
  pub pins-of : PinsStay → (h : Hall D) (p q : HallPass D) (calls : TheCalls) → IsOf h p → Made p q calls
      → HasPins p q calls
  pins-of stay h p q calls of made =
      let origin = single_is (known p).origin of.placed in
      let o : Origin D = origin.0 in
      let s : State = after o.state (known p).seen in
      let got = made s (o, origin.1, refl) in
      let st = got.stands in
      let t : State = got.after in
      let ends = st.ends in
      let same : ends.0 ≡ o = cc (ends.1, st.stays.origin, origin.1) in
      let there : t ≡ after o.state (known q).seen =
      ends.2 ∙ ap (λ (i : Origin D). after i.state (known q).seen) same in
      let from : IsFrom o q = st.stays.origin ∙ origin.1 in
      let mine = has (known p).numbers in
      let owned : (n : ℕ) → mine n ≡ true → has (known q).numbers n ≡ true =
      λ n is. ap (λ (l : List ℕ). has l n) st.stays.numbers ∙ is in
      let old : (slot version n : ℕ) → mine n ≡ true → Holds s slot n version → HoldsPin p slot version =
      λ slot version n is held. record { origin = o; of = origin.1; owner = n; own = is; held = held } in
      let new : (slot version n : ℕ) → mine n ≡ true → Holds t slot n version → HoldsPin q slot version =
      λ slot version n is held. record {
        origin = o;
        of = from;
        owner = n;
        own = owned n is;
        held = subst (λ (u : State). Holds u slot n version) there held;
      } in
      let was : (slot version : ℕ) (k : HoldsPin p slot version) → Holds s slot k.owner version =
      λ slot version k.
      let here : k.origin ≡ o = cc (k.of, origin.1) in
      subst (λ (i : Origin D). Holds (after i.state (known p).seen) slot k.owner version) here k.held in
      record {
        before = λ slot version k.
            let here : k.origin ≡ o = cc (k.of, from) in
            let held : Holds t slot k.owner version = subst (λ (u : State). Holds u slot k.owner version)
            (ap (λ (i : Origin D). after i.state (known q).seen) here ∙ sym there) k.held in
            let is : mine k.owner ≡ true = ap (λ (l : List ℕ). has l k.owner) (sym st.stays.numbers) ∙ k.own in
            elim (held-before mine got.steps s t slot k.owner version st.run st.calm is held) [
              | inl b ↦ inl (old slot version k.owner is b.0, subst (KeepsPin slot) got.own b.1)
              | inr b ↦ inr (subst (λ cs. Takes cs slot version) got.own b)
            ];
        kept = λ slot version k keeps. new slot version k.owner k.own
            (stay s t got.steps mine slot k.owner version st.run st.calm k.own (was slot version k)
            (subst (KeepsPin slot) (sym got.own) keeps));
        took = λ slot version e.
            let one = took-one mine stay got.steps s t slot version st.run st.calm (got.own ∙ e) in (
              new slot version one.owner one.is one.held,
              λ other k. one.apart k.owner other k.own (was slot other k),
            );
      }

  stays-of : (h : Hall D) (p q : HallPass D) → IsOf h p → IsOf h q → (known q).origin ≡ (known p).origin
      → (known q).numbers ≡ (known p).numbers → (known q).given ≡ (known p).given
      → (known q).turns ≡ (known p).turns → length (known q).seen ≤ (known q).turns → Stays p q
  stays-of h p q a b origin numbers given turns few = record {
    of = λ k is. record {
      same = b.same ∙ (sym a.same ∙ is.same);
      limit = turns ∙ is.limit;
      placed = b.placed;
      numbered = b.numbered;
      settled = b.settled;
      out = b.out;
      empty = b.empty;
    };
    origin = origin;
    numbers = numbers;
    given = given;
    turns = turns;
    within = λ _. few;
  }

  -- all turns were taken
  pub gave-up : PinsStay → (h : Hall D) (p q : HallPass D) → IsOf h p → IsOf h q
      → gate.AllTaken (KeptFor model) by h.gate.turns p.pass q.pass → IsAnswered p q [] true
  gave-up stay h p q a b taken =
      let seen : (known q).seen ≡ (known p).seen ++ taken.more = ap (λ (k : Seat). k.0.seen) taken.sees in
      let turns : (known q).turns ≡ (known p).turns = ap (λ (k : Seat). k.0.turns) taken.sees in
      let t : Turned p q taken.more = record {
        origin = taken.origin;
        kept = taken.value;
        of = taken.of;
        seen = seen;
        stays = stays-of h p q a b (ap (λ (k : Seat). k.0.origin) taken.sees)
            (ap (λ (k : Seat). k.0.numbers) taken.sees) (ap (λ (k : Seat). k.0.given) taken.sees) turns
            (let full : length (known q).seen ≡ (known q).turns = ap length seen ∙ (taken.full ∙ sym b.limit) in
            omega (arith, full));
        standing = taken.standing;
      } in
      let made : Made p q [] = made-of p q taken.more [] t (no-calls (known p).numbers taken.more taken.others) in
      record {
        made = made;
        pins = pins-of stay h p q [] a made;
        worn = (λ _. refl, λ _. ap length seen ∙ (taken.full ∙ sym b.limit));
        last = λ is. absurd (no is);
      }
    where
      no : true ≡ false → ⊥
      no f = cc f

  -- a pin of the pass is held when its turn begins
  pub held-at : PinsStay → (p : HallPass D) (n : Pass (Kept D) Step (Origin D)) (v : Kept D) (slot version : ℕ)
      (sees : gate.Sees (KeptFor model) by p.pass v n) (k : HoldsPin p slot version)
      → Holds (after sees.origin.state ((known p).seen ++ sees.more)) slot k.owner version
  held-at stay p n v slot version sees k =
      let o : Origin D = sees.origin in
      let all = sees.standing.stands in
      let before : State = after o.state (known p).seen in
      let end : State = after o.state ((known p).seen ++ sees.more) in
      let same : k.origin ≡ o = cc (k.of, sees.of) in
      let held : Holds before slot k.owner version =
      subst (λ (i : Origin D). Holds (after i.state (known p).seen) slot k.owner version) same k.held in
      stay before end sees.more (has (known p).numbers) slot k.owner version
      (run-parts (known p).seen sees.more o.state end all.run).1 (calm-parts (known p).seen sees.more all.calm).1 k.own
      held
      (subst (KeepsPin slot) (sym (no-calls (known p).numbers sees.more sees.others)) tt)

  -- the event by which a turn is ended
  names-of : (p : HallPass D) (n : Pass (Kept D) Step (Origin D)) (v w : Kept D) (owner : ℕ)
      (sees : gate.Sees (KeptFor model) by p.pass v n) → Adds model v w → has (known p).numbers owner ≡ true
      → MayTell (after sees.origin.state ((known p).seen ++ sees.more)) owner w
      → gate.Names (KeptFor model) Tells by n w
  names-of p n v w owner sees adds mine may =
      let o : Origin D = sees.origin in
      let more = adds o ((known p).seen ++ sees.more) owner sees.standing may in
      let seen : (gate.known n).seen ≡ (known p).seen ++ sees.more = ap (λ (k : Seat). k.0.seen) sees.sees in
      let numbers : (gate.known n).numbers ≡ (known p).numbers = ap (λ (k : Seat). k.0.numbers) sees.sees in
      record {
        origin = o;
        event = more.0;
        of = ap (λ (k : Seat). k.0.origin) sees.sees ∙ sees.of;
        told = more.2;
        is_own = ap (λ (l : List ℕ). has l (by more.0)) numbers ∙ (ap (has (known p).numbers) more.1 ∙ mine);
        standing = subst (λ (l : List Step). KeptFor model o w (l ++ more.0 ∷ [])) (sym seen) more.3;
      }

  -- it is of a number of the pass that may ask it
  pub names-call : (p : HallPass D) (n : Pass (Kept D) Step (Origin D)) (u v w : Kept D) (e : Event) (calls : TheCalls)
      (worn : Bool) (owner : ℕ) (sees : gate.Sees (KeptFor model) by p.pass v n) → u ≡ v → Adds model u w
      → IsCall e calls worn → worn ≡ false → told_of w ≡ calls → has (known p).numbers owner ≡ true
      → MayAsk (after sees.origin.state ((known p).seen ++ sees.more)) owner e
      → gate.Names (KeptFor model) Tells by n w
  names-call p n u v w e calls worn owner sees same adds is not_worn told mine may =
      names-of p n v w owner sees (subst (λ (k : Kept D). Adds model k w) same adds) mine
      (may-call w e calls worn is not_worn told (after sees.origin.state ((known p).seen ++ sees.more)) owner may)

  -- or of its first number, where anybody may ask it
  pub names-anyones : (h : Hall D) (p : HallPass D) (n : Pass (Kept D) Step (Origin D)) (u v w : Kept D) (e : Event)
      (calls : TheCalls) (worn : Bool) → IsOf h p → gate.Sees (KeptFor model) by p.pass v n → u ≡ v → Adds model u w
      → IsCall e calls worn → worn ≡ false → told_of w ≡ calls → ((s : State) (owner : ℕ) → MayAsk s owner e)
      → gate.Names (KeptFor model) Tells by n w
  names-anyones h p n u v w e calls worn of sees same adds is not_worn told may =
      let number = has_head (known p).numbers of.numbered in
      names-call p n u v w e calls worn number.0 sees same adds is not_worn told number.1
      (may (after sees.origin.state ((known p).seen ++ sees.more)) number.0)

  -- the turn is over
  ended : PinsStay → (h : Hall D) (p q : HallPass D) (n : Pass (Kept D) Step (Origin D)) (v w : Kept D) (count : ℕ)
      (calls : TheCalls) (answer : Bool) → IsOf h p → IsOf h q → gate.InTurn h.gate n count
      → gate.Sees (KeptFor model) by p.pass v n → gate.Added (KeptFor model) Tells by n w q.pass
      → told_of w ≡ calls → answer ≡ false → IsAnswered p q calls answer
  ended stay h p q n v w count calls answer a b turn sees added told not_worn =
      let e : Step = added.names.event in
      let xs : List Step = sees.more ++ e ∷ [] in
      let seen-n : (gate.known n).seen ≡ (known p).seen ++ sees.more = ap (λ (k : Seat). k.0.seen) sees.sees in
      let numbers-n : (gate.known n).numbers ≡ (known p).numbers = ap (λ (k : Seat). k.0.numbers) sees.sees in
      let origin-n : (gate.known n).origin ≡ (known p).origin = ap (λ (k : Seat). k.0.origin) sees.sees in
      let given-n : (gate.known n).given ≡ (known p).given = ap (λ (k : Seat). k.0.given) sees.sees in
      let turns-n : (gate.known n).turns ≡ (known p).turns = ap (λ (k : Seat). k.0.turns) sees.sees in
      let all : (gate.known n).seen ++ e ∷ [] ≡ (known p).seen ++ xs =
      ap (λ (l : List Step). l ++ e ∷ []) seen-n ∙ append_assoc (known p).seen sees.more (e ∷ []) in
      let t : Turned p q xs = record {
        origin = added.names.origin;
        kept = w;
        of = sym origin-n ∙ added.names.of;
        seen = ap (λ (k : Seat). k.0.seen) added.sees ∙ all;
        stays = stays-of h p q a b (ap (λ (k : Seat). k.0.origin) added.sees ∙ origin-n)
            (ap (λ (k : Seat). k.0.numbers) added.sees ∙ numbers-n)
            (ap (λ (k : Seat). k.0.given) added.sees ∙ given-n) (ap (λ (k : Seat). k.0.turns) added.sees ∙ turns-n)
            (let long = ap length (ap (λ (k : Seat). k.0.seen) added.sees) in
            let parts = length-append (gate.known n).seen (e ∷ []) in
            omega (arith, long, parts, turn.counted, turn.room, b.limit));
        standing = subst (KeptFor model added.names.origin w) all added.names.standing;
      } in
      let calm : IsCalm xs = (calm-parts (known p).seen xs t.standing.stands.calm).1 in
      let mine : has (known p).numbers (by e) ≡ true =
      ap (λ (l : List ℕ). has l (by e)) (sym numbers-n) ∙ added.names.is_own in
      let made : Made p q calls = made-of p q xs calls t
      (own-last (known p).numbers sees.more e sees.others (last-calm sees.more e calm) mine
      ∙ (sym added.names.told ∙ told)) in
      record {
        made = made;
        pins = pins-of stay h p q calls a made;
        worn = (
          λ was.
              let long = ap length seen-n in
              let parts = length-append (known p).seen sees.more in
              absurd (omega (arith, was, long, parts, turn.counted, turn.room, a.limit)),
          λ is. absurd (no (sym not_worn ∙ is)),
        );
        last = λ _. record {
          before = (gate.known n).seen;
          event = e;
          seen = ap (λ (k : Seat). k.0.seen) added.sees;
          own = ap (λ (l : List ℕ). has l (by e)) t.stays.numbers ∙ mine;
          call = sym told ∙ added.names.told;
        };
      }
    where
      no : false ≡ true → ⊥
      no f = cc f

module _ {D : Type 0} (model : DiskModel D) where
  -- the same, by what the pass is equal to
  pub ended-as : PinsStay → (h : Hall D) (p q : HallPass D) (n : Pass (Kept D) Step (Origin D)) (v w : Kept D)
      (count : ℕ)
      (calls : TheCalls) (answer : Bool) → IsOf h p → IsOf h q → gate.InTurn h.gate n count
      → gate.Sees (KeptFor model) by p.pass v n → (r : Pass (Kept D) Step (Origin D))
      → gate.Added (KeptFor model) Tells by n w r → r ≡ q.pass → told_of w ≡ calls → answer ≡ false
      → IsAnswered p q calls answer
  ended-as stay h p q n v w count calls answer a b turn sees r added same told not_worn = ended model stay h p q n v w
      count calls answer a b turn sees
      (subst (λ (x : Pass (Kept D) Step (Origin D)). gate.Added (KeptFor model) Tells by n w x) same added) told
      not_worn
