-- The table at the start meets the rule, and its first pass may pick the origin.
use Rattle.std.proofs.Common.{◌≡◌, ℕ, zero, suc, ◌<◌, ◌==◌, List, [], ◌∷◌, map, set, get_or, refl, ap, sym, subst, inl, inr, ⊎_elim, arith, Option, Some}
use mathlib.Core.Option.{some, some-injective, some-ne-none}
use lib.ListN.{get_elem?}
use Rattle.atomic_table.specs.Table.{Step, keeps, Allows, opening}
use Rattle.turn_gate.specs.declared.known.Known.{Known}
use Rattle.turn_gate.specs.Numbers.{times}
use Rattle.turn_gate.specs.Rules.{At, Course, Knows, OneHistory}
use Rattle.turn_gate.specs.Steps.{Sat, Picks, opened, placed}
use Rattle.turn_gate.proofs.Lists.{refits, same_by}
use Rattle.turn_gate.proofs.Seats.{at_still}

module _ {V E O : Type 0} (stands : O → V → List E → Type 0) (number : E → ℕ) where
  abbrev new : O → Course E O
  new origin = record { origin = origin; history = []; given = 1; owner = λ _. 0; root = 0; who = 0; stage = 0 }

  only : (first : V) (origin : O) (turns k : ℕ) (v : Known V E O) → get_elem? (opened first turns ∷ []) k ≡ some v
      → Knows number first turns (new origin) k v
  only first origin turns zero v e = subst (λ (u : Known V E O). Knows number first turns (new origin) 0 u)
      (some-injective (opened first turns) v e)
      (record {
        first_is = inr refl;
        turns_is = inr refl;
        origin_is = tt;
        rest = [];
        seen_is = refl;
        others = refl;
        mine = λ n h. (let z = same_by (0 == n) 0 n refl h in omega (arith, z), refl);
        turn = inl refl;
        parts = tt;
        roots = inr (refl, refl);
      })
  only first origin turns (suc k) v e = absurd (some-ne-none v (sym e))

  zero_once : (first : V) (turns n : ℕ) → n < 1
      → At {E = E} {O = O} (opened first turns ∷ []) 0 (λ v. times n v.numbers) 1
  zero_once first turns zero lt = (opened first turns, refl, refl)
  zero_once first turns (suc n) lt = absurd (omega (arith, lt))

  pub opens : (first : V) (origin : O) (turns : ℕ) (items : List (Option V)) → stands origin first []
      → items ≡ Some first ∷ []
      → OneHistory stands number first turns (opening (0 ∷ 0 ∷ []) items (opened {E = E} {O = O} first turns))
  opens first origin turns items begins is = record {
    course = new origin;
    holder = 0;
    begins = begins;
    bounded = omega arith;
    words = refl;
    free = λ _. refl;
    held = λ h. absurd (omega arith);
    home = λ _. (first, ap (map some) is, begins);
    knows = only first origin turns;
    longest = (0, (opened first turns, refl, refl));
    rooted = (omega arith, (opened first turns, refl, refl));
    had = zero_once first turns;
    named = λ n ge. refl;
  }

  pub picks : (first : V) (turns slots id : ℕ) (m : Sat V E O) (st : Step (Option V)) (x : V)
      → m.0.first ≡ x ∷ [] → m.0.stage ≡ 0
      → Allows (OneHistory stands number first turns) slots id m 0 (λ n. n) (Picks stands st m)
  picks first turns slots id m st x of out s kept wide at lt =
      let was = kept.knows id m.0 at in
      let c : Course E O = kept.course in
      let w : Known V E O = placed c.origin m.0 in
      let same : first ≡ x = ⊎_elim (λ z. absurd (cc (of, z))) (λ u. cc (of, u)) was.first_is in (
        w,
        keeps,
        tt,
        record {
          course = c;
          holder = kept.holder;
          begins = kept.begins;
          bounded = kept.bounded;
          words = ap (λ (l : List ℕ). set l 0 (get_or l 0 0)) kept.words;
          free = kept.free;
          held = λ busy. let h = kept.held busy in
              (h.0, at_still s.views id c.who m.0 w (λ v. v.stage) c.stage at refl h.1);
          home = kept.home;
          knows = refits (Knows number first turns c) s.views id w
              (record {
                first_is = was.first_is;
                turns_is = was.turns_is;
                origin_is = (refl, tt);
                rest = was.rest;
                seen_is = was.seen_is;
                others = was.others;
                mine = was.mine;
                turn = inl out;
                parts = was.parts;
                roots = was.roots;
              })
              (λ k v ne e. kept.knows k v e);
          longest = let l = kept.longest in
              (l.0, at_still s.views id l.0 m.0 w (λ v. v.seen) c.history at refl l.1);
          rooted = (kept.rooted.0, at_still s.views id c.root m.0 w (λ v. v.given) c.given at refl kept.rooted.1);
          had = λ n lt. at_still s.views id (c.owner n) m.0 w (λ v. times n v.numbers) 1 at refl (kept.had n lt);
          named = kept.named;
        },
        (c.origin, x, of, subst (λ (y : V). stands c.origin y []) same kept.begins, refl),
      )
