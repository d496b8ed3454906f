-- Seeing the history, adding an event and giving the value back keep the rule.
use Rattle.std.proofs.Common.{◌≡◌, ℕ, ◌+◌, ◌<◌, ◌≤◌, true, List, [], ◌∷◌, ◌++◌, length, set, get_or, refl, ap, sym, ◌∙◌, subst, inl, inr, ⊎_elim, arith, Option, Some, append_assoc, length-append}
use Rattle.std.proofs.lemmas.List.{append-nil}
use mathlib.Core.Option.{some}
use mathlib.Core.Option as maybe
use lib.ListN.{get_elem?}
use Rattle.atomic_table.specs.Table.{Step, keeps, takes as takes_slot, gives, Allows, put_back, rest}
use Rattle.turn_gate.specs.declared.known.Known.{Known}
use Rattle.turn_gate.specs.Numbers.{has, own, times}
use Rattle.turn_gate.specs.Rules.{Course, Knows, PartsKnow}
use Rattle.turn_gate.specs.Steps.{Sat, sat, Looks, Adds, Releases, at_stage, having_seen}
use Rattle.turn_gate.proofs.Lists.{refits, of_skip, of_other, set_one, parts_more}
use Rattle.turn_gate.proofs.Seats.{at_own, at_still}
use Rattle.turn_gate.proofs.Keeps.{Holds, rests, not_who, in_turn, one_origin, turned_to}

module _ {V E O : Type 0} (stands : O → V → List E → Type 0) (tells : V → E → Type 0) (number : E → ℕ) (first : V)
    (turns : ℕ) where
  pub looks : (slots id : ℕ) (m : Sat V E O) (st : Step (Option V)) (o : O) → m.0.stage ≡ 1 → m.0.origin ≡ o ∷ []
      → 0 < m.0.turns → m.1 ≡ []
      → Allows (Holds stands number first turns) slots id m 0 (λ n. n) (Looks stands number st m)
  looks slots id m st o in_it of limited empty s kept wide at lt =
      let was = kept.knows id m.0 at in
      let mine = in_turn number first turns (omega (arith, in_it)) was in
      let home = kept.home (omega (arith, in_it, mine.1)) in
      let same : kept.course.origin ≡ o = one_origin number first turns o of was in
      let seen : List E = m.0.seen ++ was.rest in
      let w : Known V E O = having_seen seen 2 m.0 in
      let c : Course E O = turned_to id 2 kept.course in
      let all : c.history ≡ seen ++ [] = was.seen_is ∙ sym (append-nil seen) in (
        w,
        takes_slot 0 (Some home.0),
        ap (λ (l : List (maybe.Option (Option V))). get_elem? l 0) home.1,
        record {
          course = c;
          holder = kept.holder;
          begins = kept.begins;
          bounded = kept.bounded;
          words = ap (λ (l : List ℕ). set l 0 (get_or l 0 0)) kept.words;
          free = λ e. absurd (omega arith);
          held = λ _. (
            (kept.held (omega (arith, in_it, mine.1))).0,
            at_own s.views id m.0 w (λ v. v.stage) 2 at refl,
          );
          home = λ h. absurd (omega arith);
          knows = refits (Knows number first turns c) s.views id w
              (record {
                first_is = was.first_is;
                turns_is = was.turns_is;
                origin_is = was.origin_is;
                rest = [];
                seen_is = all;
                others = refl;
                mine = was.mine;
                turn = inr (refl, refl, (λ _. sym was.seen_is), mine.3);
                parts = was.parts;
                roots = was.roots;
              })
              (λ k v ne e. let f = kept.knows k v e in
              rests number first turns id 2 (not_who number first turns (λ h. ne (h ∙ sym mine.0)) f) f);
          longest = (id, at_own s.views id m.0 w (λ v. v.seen) c.history at (sym was.seen_is));
          rooted = (kept.rooted.0, at_still s.views id c.root m.0 w (λ v. v.given) c.given at refl kept.rooted.1);
          had = λ n lt. at_still s.views id (c.owner n) m.0 w (λ v. times n v.numbers) 1 at refl (kept.had n lt);
          named = kept.named;
        },
        record {
          origin = o;
          value = home.0;
          more = was.rest;
          of = of;
          sees = ap (λ (c : List (ℕ × Option V)). sat w ((0, Some home.0) ∷ c)) empty;
          others = was.others;
          long = ap length (sym was.seen_is) ∙ sym (ap (λ (l : List ℕ). get_or l 0 0) kept.words);
          most =
              (let limit : m.0.turns ≡ turns = ⊎_elim (λ z. absurd (omega (arith, z, limited))) (λ u. u) was.turns_is in
              let bounded = kept.bounded in
              let long = ap length was.seen_is in
              omega (arith, limit, bounded, long));
          standing = subst (λ (h : List E). stands o home.0 h) was.seen_is
              (subst (λ (p : O). stands p home.0 kept.course.history) same home.2);
        },
      )

  pub adds : (slots id : ℕ) (m : Sat V E O) (st : Step (Option V)) (x : V) (o : O) (e : E) (k : ℕ) → m.0.stage ≡ 2
      → m.0.origin ≡ o ∷ [] → m.0.parts ≡ [] → m.1 ≡ (0, Some x) ∷ []
      → has m.0.numbers (number e) ≡ true → tells x e → stands o x (m.0.seen ++ e ∷ []) → length m.0.seen < turns
      → k ≡ length m.0.seen + 1
      → Allows (Holds stands number first turns) slots id m 0 (λ _. k) (λ _. Adds stands tells number st m k)
  adds slots id m st x o e k in_it of joined held its told standing room is s kept wide at lt =
      let was = kept.knows id m.0 at in
      let mine = in_turn number first turns (omega (arith, in_it)) was in
      let all : m.0.seen ≡ kept.course.history = mine.2 (omega (arith, in_it, mine.1)) in
      let seen : List E = m.0.seen ++ e ∷ [] in
      let long : length seen ≡ length m.0.seen + 1 = length-append m.0.seen (e ∷ []) in
      let w : Known V E O = having_seen seen 3 m.0 in
      let c : Course E O = record kept.course { history = seen; who = id; stage = 3 } in
      let not_its : (j : ℕ) (v : Known V E O) → (j ≡ id → ⊥) → Knows number first turns kept.course j v
      → has v.numbers (number e) ≡ true → ⊥ =
      λ j v ne f t. ne (sym (f.mine (number e) t).1 ∙ (was.mine (number e) its).1) in (
        w,
        keeps,
        tt,
        record {
          course = c;
          holder = kept.holder;
          begins = kept.begins;
          bounded = omega (arith, long);
          words = ap (λ (l : List ℕ). set l 0 k) kept.words ∙
              ap (λ (n : ℕ). n ∷ kept.holder ∷ []) (is ∙ sym long);
          free = λ z. absurd (omega arith);
          held = λ _. (
            (kept.held (omega (arith, in_it, mine.1))).0,
            at_own s.views id m.0 w (λ v. v.stage) 3 at refl,
          );
          home = λ h. absurd (omega arith);
          knows = refits (Knows number first turns c) s.views id w
              (record {
                first_is = was.first_is;
                turns_is = was.turns_is;
                origin_is = was.origin_is;
                rest = [];
                seen_is = sym (append-nil seen);
                others = refl;
                mine = was.mine;
                turn = inr (refl, refl, (λ _. refl), mine.3);
                parts = subst (PartsKnow number seen m.0.numbers) (sym joined) tt;
                roots = was.roots;
              })
              (λ j v ne h. let f = kept.knows j v h in
              record {
                first_is = f.first_is;
                turns_is = f.turns_is;
                origin_is = f.origin_is;
                rest = f.rest ++ e ∷ [];
                seen_is = ap (λ (l : List E). l ++ e ∷ []) (all ∙ f.seen_is) ∙ append_assoc v.seen f.rest (e ∷ []);
                others = of_skip number v.numbers f.rest e (not_its j v ne f) ∙ f.others;
                mine = f.mine;
                turn = inl (not_who number first turns (λ i. ne (i ∙ sym mine.0)) f);
                parts = parts_more number v.numbers m.0.seen e v.parts (not_its j v ne f)
                    (subst (λ (l : List E). PartsKnow number l v.numbers v.parts) (sym all) f.parts);
                roots = f.roots;
              });
          longest = (id, at_own s.views id m.0 w (λ v. v.seen) seen at refl);
          rooted = (kept.rooted.0, at_still s.views id c.root m.0 w (λ v. v.given) c.given at refl kept.rooted.1);
          had = λ n lt. at_still s.views id (c.owner n) m.0 w (λ v. times n v.numbers) 1 at refl (kept.had n lt);
          named = λ n ge. of_skip number (n ∷ []) m.0.seen e (of_other n (number e) (let lt' =
              (was.mine (number e) its).0 in λ j. absurd (omega arith))) ∙
              (ap (own number (n ∷ [])) all ∙ kept.named n ge);
        },
        record {
          origin = o;
          value = x;
          event = e;
          of = of;
          held = held;
          sees = refl;
          is_own = its;
          told = told;
          standing = standing;
        },
      )

  pub releases : (slots id : ℕ) (m : Sat V E O) (st : Step (Option V)) (x : V) (o : O) → slots ≡ 1 → 2 ≤ m.0.stage
      → m.0.origin ≡ o ∷ [] → m.1 ≡ (0, Some x) ∷ [] → stands o x m.0.seen
      → Allows (Holds stands number first turns) slots id m 1 (λ _. 0) (λ _. Releases st m 0)
  releases slots id m st x o one in_it of held standing s kept wide at lt =
      let was = kept.knows id m.0 at in
      let mine = in_turn number first turns (omega (arith, in_it)) was in
      let same : kept.course.origin ≡ o = one_origin number first turns o of was in
      let all : m.0.seen ≡ kept.course.history = mine.2 (omega (arith, in_it, mine.1)) in
      let w : Known V E O = at_stage 0 m.0 in
      let c : Course E O = turned_to id 0 kept.course in (
        w,
        gives,
        tt,
        record {
          course = c;
          holder = 0;
          begins = kept.begins;
          bounded = kept.bounded;
          words = ap (λ (l : List ℕ). set l 1 0) kept.words;
          free = λ _. refl;
          held = λ h. absurd (omega arith);
          home = λ _. (
            x,
            ap (put_back s.homes) held ∙
                set_one s.homes (some (Some x)) (wide ∙ one),
            subst (λ (p : O). stands p x kept.course.history) (sym same)
                (subst (λ (h : List E). stands o x h) all standing),
          );
          knows = refits (Knows number first turns c) s.views id w
              (record {
                first_is = was.first_is;
                turns_is = was.turns_is;
                origin_is = was.origin_is;
                rest = was.rest;
                seen_is = was.seen_is;
                others = was.others;
                mine = was.mine;
                turn = inl refl;
                parts = was.parts;
                roots = was.roots;
              })
              (λ k v ne e. let f = kept.knows k v e in
              rests number first turns id 0 (not_who number first turns (λ h. ne (h ∙ sym mine.0)) f) f);
          longest = let l = kept.longest in
              (l.0, at_still s.views id l.0 m.0 w (λ v. v.seen) c.history at refl l.1);
          rooted = (kept.rooted.0, at_still s.views id c.root m.0 w (λ v. v.given) c.given at refl kept.rooted.1);
          had = λ n lt. at_still s.views id (c.owner n) m.0 w (λ v. times n v.numbers) 1 at refl (kept.had n lt);
          named = kept.named;
        },
        ap (λ (c : List (ℕ × Option V)). sat w (rest c)) held,
      )
