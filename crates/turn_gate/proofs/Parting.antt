-- A split of a pass keeps the rule.
use Rattle.std.proofs.Common.{◌≡◌, ◌≢◌, ℕ, ◌+◌, ◌<◌, ◌==◌, Bool, true, false, List, [], ◌∷◌, ◌++◌, length, set, refl, ap, sym, ◌∙◌, subst, inl, inr, ⊎_elim, arith, if◌then◌else◌}
use mathlib.Core.Logic.{dite}
use mathlib.Core.Option.{some}
use native.Mathlib.Decide.{ℕ_discrete}
use Rattle.std.proofs.lemmas.Bool.Decides.{nat_tests}
use lib.ListN.{get_elem?}
use Rattle.atomic_table.specs.Table.{Splits}
use Rattle.atomic_table.proofs.Lists.{at_last}
use Rattle.turn_gate.specs.declared.known.Known.{Known}
use Rattle.turn_gate.specs.Numbers.{own, times}
use Rattle.turn_gate.specs.Rules.{At, Course, Knows, OneHistory}
use Rattle.turn_gate.specs.Steps.{giving, given_to}
use Rattle.turn_gate.proofs.Lists.{refits, at_new, same_by, of_tail, set_length, times_one}
use Rattle.turn_gate.proofs.Seats.{at_own, at_more, at_grown}

-- the seat of a number, where one was given anew
abbrev pub owner_with : (ℕ → ℕ) → ℕ → ℕ → ℕ → ℕ
owner_with owner new seat n = if n == new then seat else owner n

with_old : (b : Bool) (n new seat k : ℕ) → (n == new) ≡ b → n < new → (if b then seat else k) ≡ k
with_old true n new seat k is lt = let e = same_by true n new is refl in absurd (omega arith)
with_old false n new seat k is lt = refl

never : (n m : ℕ) → (n == m) ≡ false → n ≡ m → ⊥
never n m is e = grind (arith, nat_tests)

with_new : (b : Bool) (n new seat k : ℕ) → (n == new) ≡ b → n ≡ new → (if b then seat else k) ≡ seat
with_new true n new seat k is e = refl
with_new false n new seat k is e = absurd (never n new is e)

module _ {V E O : Type 0} (stands : O → V → List E → Type 0) (number : E → ℕ) (first : V) (turns : ℕ) where
  pub splits : (id : ℕ) (v : Known V E O) → 0 < v.given → v.stage ≡ 0
      → Splits (OneHistory stands number first turns) id v (giving v) (given_to v)
  splits id v root out s kept at =
      let was = kept.knows id v at in
      let mine : (v.given ≡ kept.course.given) × (id ≡ kept.course.root) =
      ⊎_elim (λ z. absurd (omega (arith, z))) (λ u. u) was.roots in
      let l : List (Known V E O) = set s.views id (giving v) in
      let count : length l ≡ length s.views = set_length s.views id (giving v) in
      let seat : ℕ = length s.views in
      let c : Course E O = record kept.course {
        given = kept.course.given + 1;
        owner = owner_with kept.course.owner kept.course.given seat;
      } in
      let P : ℕ → Known V E O → Type 0 = Knows number first turns c in
      let old_owner : (n : ℕ) → n < kept.course.given → c.owner n ≡ kept.course.owner n =
      λ n lt. with_old (n == kept.course.given) n kept.course.given seat (kept.course.owner n) refl lt in
      let new_owner : (n : ℕ) → n ≡ kept.course.given → c.owner n ≡ seat =
      λ n e. with_new (n == kept.course.given) n kept.course.given seat (kept.course.owner n) refl e in
      let left : P id (giving v) = record {
        first_is = was.first_is;
        turns_is = was.turns_is;
        origin_is = was.origin_is;
        rest = was.rest;
        seen_is = was.seen_is;
        others = was.others;
        mine = λ n h. let t = was.mine n h in (omega (arith, t.0), old_owner n t.0 ∙ t.1);
        turn = was.turn;
        parts = was.parts;
        roots = inr (ap (λ n. n + 1) mine.0, mine.1);
      } in
      let old : (k : ℕ) (u : Known V E O) → k ≢ id → get_elem? s.views k ≡ some u → P k u =
      λ k u ne e. let f = kept.knows k u e in
      record {
        first_is = f.first_is;
        turns_is = f.turns_is;
        origin_is = f.origin_is;
        rest = f.rest;
        seen_is = f.seen_is;
        others = f.others;
        mine = λ n h. let t = f.mine n h in (omega (arith, t.0), old_owner n t.0 ∙ t.1);
        turn = f.turn;
        parts = f.parts;
        roots = ⊎_elim (λ z. inl z) (λ r. absurd (ne (r.1 ∙ sym mine.1))) f.roots;
      } in
      let none : own number (v.given ∷ []) kept.course.history ≡ [] =
      kept.named v.given (omega (arith, mine.0)) in
      let right : P seat (given_to v) = record {
        first_is = was.first_is;
        turns_is = was.turns_is;
        origin_is = was.origin_is;
        rest = was.rest;
        seen_is = was.seen_is;
        others = of_tail number (v.given ∷ []) v.seen was.rest (ap (own number (v.given ∷ [])) (sym was.seen_is) ∙
            none);
        mine = λ n h. let e : v.given ≡ n = same_by (v.given == n) v.given n refl h in
            (omega (arith, mine.0, e), new_owner n (sym e ∙ mine.0));
        turn = inl refl;
        parts = tt;
        roots = inl refl;
      } in
      record {
        course = c;
        holder = kept.holder;
        begins = kept.begins;
        bounded = kept.bounded;
        words = kept.words;
        free = kept.free;
        held = λ busy. let h = kept.held busy in
            (h.0, at_grown s.views id c.who v (giving v) (given_to v) (λ u. u.stage) c.stage at refl h.1);
        home = kept.home;
        knows = λ k u e. ⊎_elim (λ t. refits P s.views id (giving v) left old k u t.1)
            (λ t. subst (λ (w : Known V E O). P k w) t.1
            (subst (λ (j : ℕ). P j (given_to v)) (sym (t.0 ∙ count)) right))
            (at_new l (given_to v) u k e);
        longest = let t = kept.longest in
            (t.0, at_grown s.views id t.0 v (giving v) (given_to v) (λ u. u.seen) c.history at refl t.1);
        rooted = (
          omega arith,
          subst (λ (k : ℕ). At (l ++ given_to v ∷ []) k (λ u. u.given) c.given) mine.1
              (at_more l id (given_to v) (λ u. u.given) c.given
              (at_own s.views id v (giving v) (λ u. u.given) c.given at (ap (λ n. n + 1) mine.0))),
        );
        had = λ n lt. dite (ℕ_discrete n kept.course.given)
            (λ e. subst (λ (k : ℕ). At (l ++ given_to v ∷ []) k (λ u. times n u.numbers) 1) (sym (new_owner n e)) (
              given_to v,
              at_last l (given_to v) seat count,
              subst (λ (k : ℕ). times n (k ∷ []) ≡ 1) (e ∙ sym mine.0) (times_one n),
            ))
            (λ ne. let less : n < kept.course.given = omega (arith, lt, ne) in
            subst (λ (k : ℕ). At (l ++ given_to v ∷ []) k (λ u. times n u.numbers) 1) (sym (old_owner n less))
            (at_grown s.views id (kept.course.owner n) v (giving v) (given_to v) (λ u. times n u.numbers) 1 at refl
            (kept.had n less)));
        named = λ n ge. kept.named n (omega arith);
      }
