-- Where a pass is whole, the value is at home and stands for what the pass has seen.
use Rattle.std.proofs.Common.{◌≡◌, ℕ, zero, suc, ◌<◌, ◌≤◌, true, List, [], ◌∷◌, ◌++◌, refl, ap, sym, ◌∙◌, subst, ⊎_elim, arith, lt_of_not-le, Option, Some}
use Rattle.std.proofs.lemmas.List.{append-nil}
use mathlib.Core.Logic.{dite}
use native.Mathlib.Decide.{dec_le}
use Rattle.std.specs.Option.{IsSome}
use mathlib.Core.Option.{some, some-injective}
use lib.ListN.{get_elem?}
use Rattle.atomic_table.specs.Table.{State, Final, Seen}
use Rattle.turn_gate.specs.declared.known.Known.{Known}
use Rattle.turn_gate.specs.Numbers.{has, own}
use Rattle.turn_gate.specs.Rules.{OneHistory}
use Rattle.turn_gate.proofs.Lists.{not_here, of_tail, of_self}
use Rattle.turn_gate.proofs.Keeps.{in_turn, one_origin}

idle_by : (stage : ℕ) → (0 < stage → ⊥) → stage ≡ 0
idle_by zero busy = refl
idle_by (suc n) busy = absurd (busy (omega arith))

-- where all numbers that were given are known, and none of them has more, there is no more
nothing : {E : Type 0} (number : E → ℕ) (ns : List ℕ) (given : ℕ) (h seen rest : List E) → h ≡ seen ++ rest
    → own number ns rest ≡ []
    → ((n : ℕ) → n < given → has ns n ≡ true) → ((n : ℕ) → given ≤ n → own number (n ∷ []) h ≡ []) → rest ≡ []
nothing number ns given h seen [] is none all named = refl
nothing number ns given h seen (e ∷ es) is none all named =
    let here = has (number e ∷ []) (number e) in
    let after = own number (number e ∷ []) es in
    dite (dec_le given (number e))
    (λ ge.
    let no : own number (number e ∷ []) (seen ++ e ∷ es) ≡ [] = ap (own number (number e ∷ [])) (sym is) ∙
    named (number e) ge in
    absurd (not_here here e after (of_tail number (number e ∷ []) seen (e ∷ es) no) (of_self (number e))))
    (λ lt. absurd (not_here (has ns (number e)) e (own number ns es) none (all (number e) (lt_of_not-le lt))))

module _ {V E O : Type 0} (stands : O → V → List E → Type 0) (number : E → ℕ) (first : V) (turns : ℕ) where
  closes : (id : ℕ) (v : Known V E O) (o : O) → v.stage ≡ 0 → v.origin ≡ o ∷ [] → 0 < v.given
      → ((n : ℕ) → n < v.given → has v.numbers n ≡ true)
      → (s : State (Option V) (Known V E O)) → OneHistory stands number first turns s → get_elem? s.views id ≡ some v
      → (x : V) × (s.homes ≡ some (Some x) ∷ []) × stands o x v.seen
  closes id v o out of root every s kept at =
      let was = kept.knows id v at in
      let c = kept.course in
      let all : v.given ≡ c.given = ⊎_elim (λ z. absurd (omega (arith, z))) (λ u. u.0) was.roots in
      let none : c.stage ≡ 0 = idle_by c.stage (λ busy.
      let h = (kept.held busy).1 in
      let u = in_turn number first turns (let e = h.2 in omega (arith, e)) (kept.knows c.who h.0 h.1) in
      let p = (kept.knows c.who h.0 h.1).mine u.3.0 u.3.1 in
      let q = was.mine u.3.0 (every u.3.0 (let lt = p.0 in omega (arith, all))) in
      let same : h.0 ≡ v = some-injective h.0 v (sym h.1 ∙
      (ap (λ (k : ℕ). get_elem? s.views k) (sym p.1 ∙ q.1) ∙ at)) in
      let e : h.0.stage ≡ 0 = ap (λ (x : Known V E O). x.stage) same ∙ out in
      omega (arith, e, h.2)) in
      let home = kept.home (omega (arith, none)) in
      let none_left : was.rest ≡ [] = nothing number v.numbers c.given c.history v.seen was.rest was.seen_is
      was.others
      (λ n lt. every n (omega (arith, all, lt))) kept.named in
      let seen : c.history ≡ v.seen = was.seen_is ∙
      (ap (λ (l : List E). v.seen ++ l) none_left ∙ append-nil v.seen) in (
        home.0,
        home.1,
        subst (λ (h : List E). stands o home.0 h) seen
            (subst (λ (p : O). stands p home.0 c.history) (one_origin number first turns o of was) home.2),
      )

  -- the closed table has it in its slot, and what is taken out of the slot is the value
  pub taken : (id : ℕ) (v : Known V E O) (o : O) → v.stage ≡ 0 → v.origin ≡ o ∷ [] → 0 < v.given
      → ((n : ℕ) → n < v.given → has v.numbers n ≡ true)
      → (ws : List ℕ) (xs : List (Option V)) → Final (Seen (OneHistory stands number first turns) id v) ws xs
      → (r : Option V) → get_elem? xs 0 ≡ some r → (x : V) × (r ≡ Some x) × stands o x v.seen
  taken id v o out of root every ws xs final r is =
      let c = closes id v o out of root every final.0 final.1.0 final.1.1 in
      let there : get_elem? xs 0 ≡ some (Some c.0) = final.4 0 (Some c.0) (ap (λ l. get_elem? l 0) c.1) in
      (c.0, some-injective r (Some c.0) (sym is ∙ there), c.2)

pub is_there : {A : Type 0} (r : Option A) (x : A) → r ≡ Some x → IsSome r
is_there {A} r x e = subst (λ (q : Option A). IsSome q) (sym e) refl

pub the_value : {A : Type 0} (r : Option A) (x y : A) → r ≡ Some x → r ≡ Some y → x ≡ y
the_value r x y e f = cc (e, f)
