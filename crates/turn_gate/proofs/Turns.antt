-- What the steps of a turn, and of the start, tell together.
use Rattle.std.proofs.Common.{◌≡◌, ℕ, ◌<◌, ◌≤◌, List, [], ◌∷◌, ◌++◌, length, ap, sym, ◌∙◌, subst, arith, Option, Some, None}
use Rattle.atomic_table.specs.Table.{Step, rest}
use Rattle.turn_gate.specs.declared.known.Known.{Known}
use Rattle.turn_gate.specs.declared.gate.Gate.{Gate}
use Rattle.turn_gate.specs.declared.gate.Pass.{Pass}
use Rattle.turn_gate.specs.Steps.{Sat, sat, Picks, Looks, Adds, at_stage, having_seen, opened}
use Rattle.turn_gate.specs.Passes.{IsOf, InTurn, Begins, Sees, AllTaken, Added, known, sat_of}

abbrev option_or : {V : Type 0} → V → Option V → V
option_or d None = d
option_or d (Some x) = x

abbrev value_or : {V : Type 0} → V → List (ℕ × Option V) → V
value_or d [] = d
value_or d (y ∷ ys) = option_or d y.1

abbrev one : {V : Type 0} → V → List (ℕ × Option V)
one x = (0, Some x) ∷ []

-- what is held is one value
one_value : {V : Type 0} (x y : V) → one x ≡ one y → x ≡ y
one_value x y e = ap (value_or x) e

module _ {V E O : Type 0} (g : Gate V E O) (p q : Pass V E O) (seen : List E) where
  -- the steps of a turn leave the pass of its gate: where it gives up, where it begins, and where it ends
  pub of_later : IsOf g p → q.seat.table_id ≡ p.seat.table_id → sat_of q ≡ sat (having_seen seen 0 (known p)) []
      → IsOf g q
  of_later of same is = record {
    same = same ∙ of.same;
    limit = ap (λ (k : Sat V E O). k.0.turns) is ∙ of.limit;
    placed = ap (λ (k : Sat V E O). length k.0.origin) is ∙ of.placed;
    numbered = (let lt = of.numbered in let e = ap (λ (k : Sat V E O). length k.0.numbers) is in omega (arith, lt, e));
    settled = ap (λ (k : Sat V E O). length k.0.parts) is ∙ of.settled;
    out = ap (λ (k : Sat V E O). k.0.stage) is;
    empty = ap (λ (k : Sat V E O). length k.1) is;
  }

  pub in_later : (count : ℕ) → IsOf g p → q.seat.table_id ≡ p.seat.table_id
      → sat_of q ≡ sat (having_seen seen 2 (known p)) ((0, None) ∷ []) → count ≡ length (known q).seen
      → count < g.turns → InTurn g q count
  in_later count of same is long room = record {
    same = same ∙ of.same;
    limit = ap (λ (k : Sat V E O). k.0.turns) is ∙ of.limit;
    placed = ap (λ (k : Sat V E O). length k.0.origin) is ∙ of.placed;
    numbered = (let lt = of.numbered in let e = ap (λ (k : Sat V E O). length k.0.numbers) is in omega (arith, lt, e));
    settled = ap (λ (k : Sat V E O). length k.0.parts) is ∙ of.settled;
    stage = ap (λ (k : Sat V E O). k.0.stage) is;
    holds = ap (λ (k : Sat V E O). k.1) is;
    counted = long;
    room = room;
  }

  pub out_later : (count : ℕ) → InTurn g p count → q.seat.table_id ≡ p.seat.table_id
      → sat_of q ≡ sat (having_seen seen 0 (known p)) [] → IsOf g q
  out_later count of same is = record {
    same = same ∙ of.same;
    limit = ap (λ (k : Sat V E O). k.0.turns) is ∙ of.limit;
    placed = ap (λ (k : Sat V E O). length k.0.origin) is ∙ of.placed;
    numbered = (let lt = of.numbered in let e = ap (λ (k : Sat V E O). length k.0.numbers) is in omega (arith, lt, e));
    settled = ap (λ (k : Sat V E O). length k.0.parts) is ∙ of.settled;
    out = ap (λ (k : Sat V E O). k.0.stage) is;
    empty = ap (λ (k : Sat V E O). length k.1) is;
  }

module _ {V E O : Type 0} (stands : O → V → List E → Type 0) where
  pub begins_of : (st : Step (Option V)) (m : Sat V E O) (p : Pass V E O) (x : V) (turns found : ℕ)
      → m ≡ sat (opened x turns) [] → Picks stands st m found (sat_of p) → Begins stands x turns p
  begins_of st m p x turns found is picked =
      let now : Picks stands st (sat (opened x turns) []) found (sat_of p) =
      subst (λ (k : Sat V E O). Picks stands st k found (sat_of p)) is picked in
      let same : now.1 ≡ x = cc now.2 in
      record {
        origin = now.0;
        standing = subst (λ (y : V). stands now.0 y []) same now.3;
        is = ap (λ (k : Sat V E O). k.0) now.4;
      }

module _ {V E O : Type 0} (stands : O → V → List E → Type 0) (tells : V → E → Type 0) (number : E → ℕ) where
  pub added_of : (st : Step (Option V)) (p q : Pass V E O) (l : Sat V E O) (x : V) (c : ℕ) (n : Sat V E O)
      → l ≡ sat (known p) ((0, Some x) ∷ []) → Adds stands tells number st l c n → sat_of q ≡ sat (at_stage 0 n.0) []
      → Added stands tells number p x q
  added_of st p q l x c n held added is =
      let now : Adds stands tells number st (sat (known p) (one x)) c n =
      subst (λ (k : Sat V E O). Adds stands tells number st k c n) held added in
      let same : now.value ≡ x = sym (one_value x now.value now.held) in
      record {
        names = record {
          origin = now.origin;
          event = now.event;
          of = now.of;
          told = subst (λ (y : V). tells y now.event) same now.told;
          is_own = now.is_own;
          standing = subst (λ (y : V). stands now.origin y ((known p).seen ++ now.event ∷ [])) same now.standing;
        };
        sees = is ∙ ap (λ (k : Sat V E O). sat (at_stage 0 k.0) []) now.sees;
      }

module _ {V E O : Type 0} (stands : O → V → List E → Type 0) (number : E → ℕ) where
  pub sees_of : (st : Step (Option V)) (p q : Pass V E O) (l n : Sat V E O) (found : ℕ) (r : Option V) (x : V)
      → l ≡ sat (at_stage 1 (known p)) [] → Looks stands number st l found n
      → n.1 ≡ (0, r) ∷ rest n.1 → sat_of q ≡ sat n.0 ((0, None) ∷ rest n.1) → r ≡ Some x → Sees stands number p x q
  sees_of st p q l n found r x taken looked had is got =
      let now : Looks stands number st (sat (at_stage 1 (known p)) []) found n =
      subst (λ (k : Sat V E O). Looks stands number st k found n) taken looked in
      let away : n.1 ≡ (0, Some now.value) ∷ [] = ap (λ (k : Sat V E O). k.1) now.sees in
      let same : now.value ≡ x = ap (value_or x) (sym away ∙ had) ∙ ap (option_or x) got in
      record {
        origin = now.origin;
        more = now.more;
        of = now.of;
        sees = is ∙ ap (λ (k : Sat V E O). sat k.0 ((0, None) ∷ rest k.1)) now.sees;
        others = now.others;
        standing = subst (λ (y : V). stands now.origin y ((known p).seen ++ now.more)) same now.standing;
      }

  pub long_of : (st : Step (Option V)) (m l n p : Sat V E O) (found : ℕ) → l ≡ sat (at_stage 1 m.0) []
      → Looks stands number st l found n → p.0 ≡ n.0 → found ≡ length p.0.seen
  long_of st m l n p found taken looked is =
      let now : Looks stands number st (sat (at_stage 1 m.0) []) found n =
      subst (λ (k : Sat V E O). Looks stands number st k found n) taken looked in
      sym now.long ∙ sym (ap (λ (v : Known V E O). length v.seen) is ∙
      ap (λ (k : Sat V E O). length k.0.seen) now.sees)

  pub all_of : (st : Step (Option V)) (p q : Pass V E O) (l n : Sat V E O) (found turns : ℕ)
      → l ≡ sat (at_stage 1 (known p)) [] → Looks stands number st l found n → sat_of q ≡ sat (at_stage 0 n.0) []
      → turns ≤ found → (known p).turns ≡ turns → AllTaken stands number turns p q
  all_of st p q l n found turns taken looked is full limit =
      let now : Looks stands number st (sat (at_stage 1 (known p)) []) found n =
      subst (λ (k : Sat V E O). Looks stands number st k found n) taken looked in
      record {
        origin = now.origin;
        value = now.value;
        more = now.more;
        of = now.of;
        sees = is ∙ ap (λ (k : Sat V E O). sat (at_stage 0 k.0) []) now.sees;
        others = now.others;
        standing = now.standing;
        full = (let long = now.long in let most = now.most in omega (arith, long, most, full, limit));
      }
