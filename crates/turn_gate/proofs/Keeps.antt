-- Taking the holder word keeps the rule. What a view in a turn, or in none, knows of the turn that is on.
use Rattle.std.proofs.Common.{◌≡◌, ◌≢◌, ℕ, zero, suc, ◌<◌, ◌≤◌, ◌==◌, Bool, true, false, List, [], ◌∷◌, set, get_or, refl, ap, sym, ◌∙◌, subst, inl, inr, ⊎_elim, arith, Option, MatchBool}
use Rattle.std.proofs.lemmas.Bool.Decides.{nat_tests}
use mathlib.Core.Option.{some}
use lib.ListN.{get_elem?}
use prog.Atomic.{either}
use Rattle.atomic_table.specs.Table.{State, Step, Act, keeps, Valid, stepped, carried_after, Allows}
use Rattle.atomic_table.proofs.Lists.{set_again}
use Rattle.turn_gate.specs.declared.known.Known.{Known}
use Rattle.turn_gate.specs.Numbers.{has, times}
use Rattle.turn_gate.specs.Rules.{AreAll, Course, Knows, OneHistory}
use Rattle.turn_gate.specs.Steps.{Sat, sat, Takes, at_stage}
use Rattle.turn_gate.proofs.Lists.{refits}
use Rattle.turn_gate.proofs.Seats.{at_own, at_still}

idle : (stage holder : ℕ) → (stage ≡ 0 → holder ≡ 0) → (0 < stage → holder ≡ 1) → holder ≡ 0 → stage ≡ 0
idle zero holder free held none = refl
idle (suc n) holder free held none = let one = held (omega arith) in absurd (omega arith)

zero_is : (n : ℕ) → (n == 0) ≡ true → n ≡ 0
zero_is n is = grind (arith, nat_tests)

module _ {E O : Type 0} where
  -- the turn goes to a seat, at a stage
  abbrev pub turned_to : ℕ → ℕ → Course E O → Course E O
  turned_to who stage c = record c { who = who; stage = stage }

module _ {V E O : Type 0} (number : E → ℕ) (first : V) (turns : ℕ) where
  abbrev Fits : Course E O → ℕ → Known V E O → Type 0
  Fits = Knows number first turns

  -- a view outside a turn fits whoever has it
  pub rests : {c : Course E O} {k : ℕ} {v : Known V E O} (who stage : ℕ) → v.stage ≡ 0 → Fits c k v
      → Fits (turned_to who stage c) k v
  rests who stage none t = record {
    first_is = t.first_is;
    turns_is = t.turns_is;
    origin_is = t.origin_is;
    rest = t.rest;
    seen_is = t.seen_is;
    others = t.others;
    mine = t.mine;
    turn = inl none;
    parts = t.parts;
    roots = t.roots;
  }

  -- no view has the turn while the stage is 0
  pub out_of : {c : Course E O} {k : ℕ} {v : Known V E O} → c.stage ≡ 0 → Fits c k v → v.stage ≡ 0
  out_of none t = ⊎_elim (λ z. z) (λ u. u.1 ∙ none) t.turn

  -- nor has a view that is not the holder's
  pub not_who : {c : Course E O} {k : ℕ} {v : Known V E O} → k ≢ c.who → Fits c k v → v.stage ≡ 0
  not_who ne t = ⊎_elim (λ z. z) (λ u. absurd (ne u.0)) t.turn

  -- the view of a pass in its turn is the holder's
  pub in_turn : {c : Course E O} {k : ℕ} {v : Known V E O} → 0 < v.stage → Fits c k v
      → (k ≡ c.who) × (v.stage ≡ c.stage) × (2 ≤ c.stage → v.seen ≡ c.history)
      × ((n : ℕ) × (has v.numbers n ≡ true))
  in_turn in_it t = ⊎_elim (λ z. absurd (omega (arith, z))) (λ u. u) t.turn

  -- the origin that a view has is the gate's
  pub one_origin : {c : Course E O} {k : ℕ} {v : Known V E O} (o : O) → v.origin ≡ o ∷ [] → Fits c k v
      → c.origin ≡ o
  one_origin {c} {k} {v} o of t = sym (subst (λ (os : List O). AreAll c.origin os) of t.origin_is).0

module _ {V E O : Type 0} (stands : O → V → List E → Type 0) (number : E → ℕ) (first : V) (turns : ℕ) where
  abbrev pub Holds : State (Option V) (Known V E O) → Type 0
  Holds = OneHistory stands number first turns

  takes_by : (id : ℕ) (m : Sat V E O) → m.0.stage ≡ 0 → (n : ℕ) → has m.0.numbers n ≡ true
      → (s : State (Option V) (Known V E O)) → Holds s → get_elem? s.views id ≡ some m.0 → (b : Bool)
      → (get_or s.words 1 0 == 0) ≡ b
      → (w : Known V E O) × (a : Act (Option V)) × Valid s.homes m.1 a
      × Holds (stepped s 1 (either b 1 (get_or s.words 1 0)) id m.1 w a)
      × MatchBool b (sat w (carried_after m.1 a) ≡ sat (at_stage 1 m.0) m.1) (sat w (carried_after m.1 a) ≡ m)
  takes_by id m out n has_n s kept at true is =
      let word : get_or s.words 1 0 ≡ kept.holder = ap (λ (l : List ℕ). get_or l 1 0) kept.words in
      let none : kept.course.stage ≡ 0 = idle kept.course.stage kept.holder kept.free (λ h. (kept.held h).0)
      (sym word ∙ zero_is (get_or s.words 1 0) is) in
      let w : Known V E O = at_stage 1 m.0 in
      let c : Course E O = turned_to id 1 kept.course in
      let was = kept.knows id m.0 at in (
        w,
        keeps,
        tt,
        record {
          course = c;
          holder = 1;
          begins = kept.begins;
          bounded = kept.bounded;
          words = ap (λ (l : List ℕ). set l 1 1) kept.words;
          free = λ e. absurd (omega arith);
          held = λ _. (refl, at_own s.views id m.0 w (λ v. v.stage) 1 at refl);
          home = λ _. kept.home (omega arith);
          knows = refits (Knows number first turns c) s.views id w
              (record {
                first_is = was.first_is;
                turns_is = was.turns_is;
                origin_is = was.origin_is;
                rest = was.rest;
                seen_is = was.seen_is;
                others = was.others;
                mine = was.mine;
                turn = inr (refl, refl, (λ h. absurd (omega arith)), (n, has_n));
                parts = was.parts;
                roots = was.roots;
              })
              (λ k v ne e. let f = kept.knows k v e in
              rests number first turns id 1 (out_of number first turns none f) f);
          longest = let l = kept.longest in
              (l.0, at_still s.views id l.0 m.0 w (λ v. v.seen) kept.course.history at refl l.1);
          rooted = (
            kept.rooted.0,
            at_still s.views id kept.course.root m.0 w (λ v. v.given) kept.course.given at refl kept.rooted.1,
          );
          had = λ k lt. at_still s.views id (kept.course.owner k) m.0 w (λ v. times k v.numbers) 1 at refl
              (kept.had k lt);
          named = kept.named;
        },
        refl,
      )
  takes_by id m out n has_n s kept at false is = (
    m.0,
    keeps,
    tt,
    subst (λ (l : List (Known V E O)). Holds record {
      words = set s.words 1 (get_or s.words 1 0);
      homes = s.homes;
      views = l;
    }) (sym (set_again s.views id m.0 at)) (subst (λ (l : List ℕ). Holds record {
      words = l;
      homes = s.homes;
      views = s.views;
    }) (kept.words ∙
        sym (ap (λ (l : List ℕ). set l 1 (get_or l 1 0)) kept.words)) kept),
    refl,
  )

  pub takes : (slots id : ℕ) (m : Sat V E O) (st : Step (Option V)) → m.0.stage ≡ 0 → (n : ℕ)
      → has m.0.numbers n ≡ true → Allows Holds slots id m 1 (λ n. either (n == 0) 1 n) (Takes st m)
  takes slots id m st out n has_n s kept wide at lt = takes_by id m out n has_n s kept at (get_or s.words 1 0 == 0) refl
