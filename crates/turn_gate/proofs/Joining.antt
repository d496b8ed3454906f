-- A join of passes keeps the rule.
use Rattle.std.proofs.Common.{◌≡◌, ◌≢◌, ℕ, ◌≤◌, ◌==◌, Bool, true, false, List, [], ◌++◌, length, set, refl, ap, sym, ◌∙◌, subst, inl, inr, ⊎_elim, arith, if◌then◌else◌, leb}
use Rattle.std.proofs.lemmas.Bool.{false≢true}
use Rattle.std.proofs.lemmas.Bool.Decides.{nat_tests}
use mathlib.Core.Logic.{dite}
use mathlib.Core.Option.{some}
use native.Mathlib.Decide.{ℕ_discrete}
use lib.ListN.{get_elem?}
use Rattle.atomic_table.specs.Table.{Joins}
use Rattle.atomic_table.proofs.Lists.{set_else}
use Rattle.turn_gate.specs.declared.known.Known.{Known}
use Rattle.turn_gate.specs.Numbers.{has, own, times, longer}
use Rattle.turn_gate.specs.Rules.{At, Course, Knows, OneHistory}
use Rattle.turn_gate.specs.Steps.{joined, spent}
use Rattle.turn_gate.proofs.Lists.{refits, either_number, has_left, has_right, of_both, of_none, of_tail, suffix, longer_than, times_append, times_none, all_append, whole_of}
use Rattle.turn_gate.proofs.Seats.{at_own, at_other, at_is}

-- a seat, where what one had goes to another
abbrev pub moved : ℕ → ℕ → ℕ → ℕ
moved other id n = if n == other then id else n

moved_by : (b : Bool) (other id n : ℕ) → (n == other) ≡ b → n ≡ other → (if b then id else n) ≡ id
moved_by true other id n is e = refl
moved_by false other id n is e = absurd (never n other is e)
  where
    never : (n m : ℕ) → (n == m) ≡ false → n ≡ m → ⊥
    never n m is e = grind (arith, nat_tests)

stays_by : (b : Bool) (other id n : ℕ) → (n == other) ≡ b → n ≢ other → (if b then id else n) ≡ n
stays_by true other id n is ne = absurd (ne (same n other is))
  where
    same : (n m : ℕ) → (n == m) ≡ true → n ≡ m
    same n m is = grind (arith, nat_tests)
stays_by false other id n is ne = refl

module _ {E : Type 0} (number : E → ℕ) where
  seen_by : (b : Bool) (h a r c q : List E) (ns ms : List ℕ) → leb (length a) (length c) ≡ b → h ≡ a ++ r
      → own number ns r ≡ [] → h ≡ c ++ q → own number ms q ≡ []
      → (rest : List E) × (h ≡ (if b then c else a) ++ rest) × (own number (ns ++ ms) rest ≡ [])
  seen_by true h a r c q ns ms is one none two none' =
      let s = suffix a r c q (sym one ∙ two) (grind (arith, nat_tests)) in
      (q, two, of_both number ns ms q (of_tail number ns s.0 q (ap (own number ns) (sym s.1) ∙ none)) none')
  seen_by false h a r c q ns ms is one none two none' =
      let s = suffix c q a r (sym two ∙ one) (grind (arith, nat_tests)) in
      (r, one, of_both number ns ms r none (of_tail number ms s.0 r (ap (own number ms) (sym s.1) ∙ none')))

module _ {V E O : Type 0} where
  -- Two views are made one: what a seat's view says goes on, where the one view says it for both
  one_of : {A : Type 0} (views : List (Known V E O)) (id other : ℕ) (v w : Known V E O) (f : Known V E O → A) (a : A)
      (k : ℕ) → id ≢ other → get_elem? views id ≡ some v → get_elem? views other ≡ some w
      → (f v ≡ a → f (joined v w) ≡ a) → (f w ≡ a → f (joined v w) ≡ a) → At views k f a
      → At (set (set views id (joined v w)) other spent) (moved other id k) f a
  one_of views id other v w f a k apart at at' first second t =
      let l : List (Known V E O) = set views id (joined v w) in
      let here : f (joined v w) ≡ a → At (set l other spent) id f a =
      λ is. at_other l other id spent f a apart (at_own views id v (joined v w) f a at is) in
      dite (ℕ_discrete k other)
      (λ e. subst (λ (j : ℕ). At (set l other spent) j f a) (sym (moved_by (k == other) other id k refl e))
      (here (second (at_is views other w f a at' (subst (λ (j : ℕ). At views j f a) e t)))))
      (λ ne. subst (λ (j : ℕ). At (set l other spent) j f a) (sym (stays_by (k == other) other id k refl ne))
      (dite (ℕ_discrete k id)
      (λ e. subst (λ (j : ℕ). At (set l other spent) j f a) (sym e)
      (here (first (at_is views id v f a at (subst (λ (j : ℕ). At views j f a) e t)))))
      (λ ne'. at_other l other k spent f a ne (at_other views id k (joined v w) f a ne' t))))

module _ {V E O : Type 0} (stands : O → V → List E → Type 0) (number : E → ℕ) (first : V) (turns : ℕ) where
  pub joins : (id : ℕ) (v : Known V E O) (other : ℕ) (w : Known V E O) → v.stage ≡ 0 → w.stage ≡ 0
      → Joins (OneHistory stands number first turns) id v other w (joined v w) spent
  joins id v other w out out' s kept at apart at' =
      let was = kept.knows id v at in
      let l : List (Known V E O) = set s.views id (joined v w) in
      let there : get_elem? s.views other ≡ some w = sym (set_else s.views id other (joined v w) apart) ∙ at' in
      let wit = kept.knows other w there in
      let c : Course E O = record kept.course {
        owner = λ n. moved other id (kept.course.owner n);
        root = moved other id kept.course.root;
      } in
      let P : ℕ → Known V E O → Type 0 = Knows number first turns c in
      let apart' : id ≢ other = λ e. apart (sym e) in
      let hit : (n : ℕ) → n ≡ other → moved other id n ≡ id = λ n e. moved_by (n == other) other id n refl e in
      let miss : (n : ℕ) → n ≢ other → moved other id n ≡ n = λ n ne. stays_by (n == other) other id n refl ne in
      let seen = seen_by number (leb (length v.seen) (length w.seen)) c.history v.seen was.rest w.seen wit.rest
      v.numbers w.numbers refl was.seen_is was.others wit.seen_is wit.others in
      let both : P id (joined v w) = record {
        first_is = was.first_is;
        turns_is = was.turns_is;
        origin_is = all_append c.origin v.origin w.origin was.origin_is wit.origin_is;
        rest = seen.0;
        seen_is = seen.1;
        others = seen.2;
        mine = λ n h. ⊎_elim
            (λ t. let p = was.mine n t in (p.0, miss (kept.course.owner n) (λ e. apart (sym e ∙ p.1)) ∙ p.1))
            (λ t. let p = wit.mine n t in (p.0, hit (kept.course.owner n) p.1))
            (either_number v.numbers w.numbers n h);
        turn = inl out;
        parts = (
          (was.rest, was.seen_is, was.others, λ n h. has_left v.numbers w.numbers n h),
          ((wit.rest, wit.seen_is, wit.others, λ n h. has_right v.numbers w.numbers n h), tt),
        );
        roots = ⊎_elim
            (λ z. ⊎_elim (λ y. inl (omega (arith, z, y)))
            (λ u. inr (omega (arith, z, u.0), sym (hit kept.course.root (sym u.1)))) wit.roots)
            (λ t. ⊎_elim
            (λ y. inr (omega (arith, t.0, y), t.1 ∙ sym (miss kept.course.root (λ e. apart (sym e ∙ sym t.1)))))
            (λ u. absurd (apart (u.1 ∙ sym t.1))) wit.roots)
            was.roots;
      } in
      let left : P other spent = record {
        first_is = inl refl;
        turns_is = inl refl;
        origin_is = tt;
        rest = c.history;
        seen_is = refl;
        others = of_none number c.history;
        mine = λ n h. absurd (false≢true h);
        turn = inl refl;
        parts = tt;
        roots = inl refl;
      } in
      let old : (k : ℕ) (u : Known V E O) → k ≢ id → get_elem? s.views k ≡ some u → k ≢ other → P k u =
      λ k u ne e ne'. let f = kept.knows k u e in
      record {
        first_is = f.first_is;
        turns_is = f.turns_is;
        origin_is = f.origin_is;
        rest = f.rest;
        seen_is = f.seen_is;
        others = f.others;
        mine = λ n h. let p = f.mine n h in (p.0, miss (kept.course.owner n) (λ j. ne' (sym p.1 ∙ j)) ∙ p.1);
        turn = f.turn;
        parts = f.parts;
        roots = ⊎_elim (λ z. inl z) (λ t. inr (t.0, t.1 ∙ sym (miss kept.course.root (λ j. ne' (t.1 ∙ j))))) f.roots;
      } in
      let long = longer_than v.seen w.seen in
      let all : length c.history ≤ length (longer v.seen w.seen) → longer v.seen w.seen ≡ c.history =
      λ le. whole_of c.history (longer v.seen w.seen) seen.0 seen.1 le in
      -- a number of one is none of the other's
      let not_both : (n : ℕ) → has v.numbers n ≡ true → has w.numbers n ≡ true → ⊥ =
      λ n h h'. apart (sym (wit.mine n h').1 ∙ (was.mine n h).1) in
      record {
        course = c;
        holder = kept.holder;
        begins = kept.begins;
        bounded = kept.bounded;
        words = kept.words;
        free = kept.free;
        held = λ busy.
            let h = kept.held busy in
            let idle : (u : Known V E O) → u.stage ≡ 0 → u.stage ≡ c.stage → v.stage ≡ c.stage =
            λ u z e. absurd (omega (arith, busy, z, e)) in
            let moved_is = one_of s.views id other v w (λ u. u.stage) c.stage c.who apart' at there (λ e. e)
            (idle w out') h.1 in (
              h.0,
              subst (λ (j : ℕ). At (set l other spent) j (λ u. u.stage) c.stage)
                  (miss c.who (λ e. let z = at_is s.views other w (λ u. u.stage) c.stage there
                  (subst (λ (j : ℕ). At s.views j (λ u. u.stage) c.stage) e h.1) in
                  absurd (omega (arith, busy, z, out')))) moved_is,
            );
        home = kept.home;
        knows = refits P l other spent left (λ k u ne e. refits (λ (j : ℕ) (x : Known V E O). j ≢ other
            → P j x) s.views id (joined v w) (λ _. both) old k u e ne);
        longest = let t = kept.longest in (
          moved other id t.0,
          one_of s.views id other v w (λ u. u.seen) c.history t.0 apart' at there
              (λ e. all (let n = ap length e in omega (arith, n, long.0)))
              (λ e. all (let n = ap length e in omega (arith, n, long.1))) t.1,
        );
        rooted = (
          kept.rooted.0,
          one_of s.views id other v w (λ u. u.given) c.given kept.course.root apart' at there
              (λ e. ⊎_elim (λ y. omega (arith, e, y))
              (λ u. absurd (apart (u.1 ∙ sym (⊎_elim (λ z. absurd (let p = kept.rooted.0 in omega (arith, e, z, p)))
              (λ r. r.1) was.roots)))) wit.roots)
              (λ e. ⊎_elim (λ y. omega (arith, e, y))
              (λ r. absurd (apart (⊎_elim (λ z. absurd (let p = kept.rooted.0 in omega (arith, e, z, p)))
              (λ u. u.1) wit.roots ∙ sym r.1))) was.roots) kept.rooted.1,
        );
        had = λ n lt. one_of s.views id other v w (λ u. times n u.numbers) 1 (kept.course.owner n) apart' at there
            (λ e. let none = times_none n w.numbers (λ h. not_both n (times_has n v.numbers e) h) in
            omega (arith, e, none, times_append n v.numbers w.numbers))
            (λ e. let none = times_none n v.numbers (λ h. not_both n h (times_has n w.numbers e)) in
            omega (arith, e, none, times_append n v.numbers w.numbers)) (kept.had n lt);
        named = kept.named;
      }
    where
      times_has : (n : ℕ) (ns : List ℕ) → times n ns ≡ 1 → has ns n ≡ true
      times_has n ns e = by (has ns n) refl
        where
          by : (b : Bool) → has ns n ≡ b → b ≡ true
          by true is = refl
          by false is = absurd (let z = times_none n ns (λ h. false≢true (sym is ∙ h)) in omega (arith, e, z))
