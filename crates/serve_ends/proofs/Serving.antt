-- Many ends in one history.
use Rattle.std.proofs.Common.{◌≡◌, ◌⊎◌, ◌==◌, ◌+◌, ◌<◌, ◌≤◌, ◌++◌, ◌∙◌, ap, append_assoc, append-nil, arith, Bool, false, get_or, if◌then◌else◌, inl, inr, length, length-append, List, [], ◌∷◌, map, refl, Some, subst, suc, sym, true, zero, ⊎_elim, ℕ}
use Rattle.std.proofs.lemmas.Bool.{cases_lt}
use Rattle.std.proofs.lemmas.List.{get_or-map, length-map}
use Rattle.io_edge.specs.declared.sinks.Sink as put
use Rattle.io_edge.specs.declared.sources.Source as taken
use Rattle.session_acts.specs.Cursors.{Calls}
use Rattle.session_run.specs.declared.settings.Settings.{Settings}
use Rattle.store_machine.specs.Runs.{IsCalm, IsRun, calls_of}
use Rattle.store_machine.specs.declared.machine.State.{State}
use Rattle.store_machine.specs.declared.machine.Step.{Step}
use Rattle.turn_gate.specs.Numbers.{has, own}
use Rattle.turn_gate.specs.Steps.{given_to}
use Rattle.turn_gate.proofs.Lists.{has_left, has_right, of_self, of_tail, same_by}
use Rattle.hall.specs.declared.hall.Hall.{Hall}
use Rattle.hall.specs.declared.hall.HallPass.{HallPass}
use Rattle.hall.specs.declared.kept.Origin.{Origin}
use Rattle.hall.specs.Histories.{after}
use Rattle.hall.specs.Passes.{IsOf, IsWhole, Merged, Runs, by, known}
use Rattle.hall.proofs.Lasting.{runs-as, runs-later, runs-merged}
use Rattle.hall.proofs.Numbers.{no-calls}
use Rattle.hall.proofs.Runs.{calm-parts, run-parts}
use Rattle.hall.proofs.Turning.{calls-append}
use Rattle.serve_ends.specs.Ends.{EndServed}
use Rattle.serve_ends.specs.Serving.{Serving, numbers_from}
use Rattle.serve_ends.specs.Slots.{CanServe, IsCut, Joins, Sight, WasServed, splits}
use Rattle.serve_ends.specs.declared.end.End.{End}
use Rattle.serve_ends.specs.declared.slot.Slot.{Slot}
use Rattle.serve_ends.specs.declared.status.TheConstants.{WORN}

cancel : (xs ys zs : List Step) → xs ++ ys ≡ xs ++ zs → ys ≡ zs
cancel [] ys zs e = e
cancel (x ∷ xs) ys zs e = cancel xs ys zs (cc e)

sub_by : (b c : Bool) (x : Step) (xs ys : List Step) → (b ≡ true → c ≡ true) → (if c then x ∷ ys else ys) ≡ []
    → (ys ≡ [] → xs ≡ []) → (if b then x ∷ xs else xs) ≡ []
sub_by b true x xs ys f h k = let n = ap length h in absurd (omega arith)
sub_by true false x xs ys f h k = absurd (apart (f refl))
  where
    apart : false ≡ true → ⊥
    apart e = cc e
sub_by false false x xs ys f h k = k h

-- what has no steps of these numbers has none of some of them
of-some : (ns ms : List ℕ) → ((k : ℕ) → has ms k ≡ true → has ns k ≡ true) → (xs : List Step) → own by ns xs ≡ []
    → own by ms xs ≡ []
of-some ns ms f [] h = refl
of-some ns ms f (x ∷ xs) h =
    sub_by (has ms x.owner) (has ns x.owner) x (own by ms xs) (own by ns xs) (f x.owner) h (of-some ns ms f xs)

add_by : (b : Bool) (x : Step) (xs ys : List Step) → (if b then x ∷ xs else xs) ≡ [] → (xs ≡ [] → ys ≡ [])
    → (if b then x ∷ ys else ys) ≡ []
add_by true x xs ys h k = let n = ap length h in absurd (omega arith)
add_by false x xs ys h k = k h

of-append : (ns : List ℕ) (xs ys : List Step) → own by ns xs ≡ [] → own by ns ys ≡ [] → own by ns (xs ++ ys) ≡ []
of-append ns [] ys h k = k
of-append ns (x ∷ xs) ys h k =
    add_by (has ns x.owner) x (own by ns xs) (own by ns (xs ++ ys)) h (λ e. of-append ns xs ys e k)

only-one : (k j : ℕ) (ns : List ℕ) → has ns k ≡ true → has (k ∷ []) j ≡ true → has ns j ≡ true
only-one k j ns h e = ap (has ns) (sym (same_by (k == j) k j refl e)) ∙ h

-- the calls of a number, where a part has no more of it
calls-then : (n : ℕ) (xs ys zs : List Step) → zs ≡ xs ++ ys → own by (n ∷ []) ys ≡ []
    → calls_of (has (n ∷ [])) zs ≡ calls_of (has (n ∷ [])) xs
calls-then n xs ys zs e h =
    ap (calls_of (has (n ∷ []))) e ∙ (calls-append (has (n ∷ [])) xs ys
    ∙ (ap (λ (l : Calls). calls_of (has (n ∷ [])) xs ++ l) (no-calls (n ∷ []) ys h)
    ∙ append-nil (calls_of (has (n ∷ [])) xs)))

-- numbers that were given one after another
has-from : (first count j : ℕ) → first ≤ j → j < first + count → has (numbers_from first count) j ≡ true
has-from first zero j le lt = absurd (omega (arith, le, lt))
has-from first (suc count) j le lt = elim (cases_lt j (first + count)) [
  | inl l ↦ has_left (numbers_from first count) ((first + count) ∷ []) j (has-from first count j le l)
  | inr m ↦ has_right (numbers_from first count) ((first + count) ∷ []) j
      (ap (λ (x : ℕ). has (x ∷ []) j) (let h = lt in omega (arith, m, h)) ∙ of_self j)
]

module _ {D : Type 0} (P : ℕ → Calls → Type 0) (W : ℕ → Type 0) (root : HallPass D) where
  -- so many of all passes are joined again
  pub record Joined (all n : ℕ) (p : HallPass D) : Type 0 where
    pub origin : (known p).origin ≡ (known root).origin
    pub numbers : (known p).numbers ≡ (known root).numbers ++ numbers_from (known root).given n
    pub given : (known p).given ≡ (known root).given + all
    pub runs : Runs p
    pub steps : List Step
    pub seen : (known p).seen ≡ (known root).seen ++ steps
    pub none : own by (known root).numbers steps ≡ []
    pub named : 0 < n → (k : ℕ) → (known root).given + all ≤ k → own by (k ∷ []) steps ≡ []
    pub each : (i : ℕ) → i < n → P i (calls_of (has (((known root).given + i) ∷ [])) steps)
    pub worn : (i : ℕ) → i < n → W i → (known root).turns ≤ length (known p).seen

  -- before any join
  start-joins : (all : ℕ) (p : HallPass D) → Runs root → known p ≡ splits all (known root) → Joined all 0 p
  start-joins all p runs is =
      let v : Sight D = known root in
      let seen : (known p).seen ≡ v.seen = ap (λ (k : Sight D). k.seen) is in
      let origin : (known p).origin ≡ v.origin = ap (λ (k : Sight D). k.origin) is in
      record {
        origin = origin;
        numbers = ap (λ (k : Sight D). k.numbers) is ∙ sym (append-nil v.numbers);
        given = ap (λ (k : Sight D). k.given) is;
        runs = runs-as root p origin seen (ap (λ (k : Sight D). k.turns) is) runs;
        steps = [];
        seen = seen ∙ sym (append-nil v.seen);
        none = refl;
        named = λ some k le. refl;
        each = λ i less. absurd (omega (arith, less));
        worn = λ i less w. absurd (omega (arith, less));
      }

module _ {D S K : Type 0} (P : ℕ → Calls → Type 0) (W : ℕ → Type 0) (hall : Hall D) (root : HallPass D) where
  -- An end whose pass left its desk, with what its calls are for, by its place
  pub record Left (n : ℕ) (slot : Slot D S K) : Type 0 where
    pub pass : HallPass D
    pub is : slot.pass ≡ Some pass
    pub of : IsOf hall pass
    pub runs : Runs pass
    pub numbers : (known pass).numbers ≡ ((known root).given + n) ∷ []
    pub given : (known pass).given ≡ 0
    pub steps : List Step
    pub seen : (known pass).seen ≡ (known root).seen ++ steps
    pub text : P n (calls_of (has (((known root).given + n) ∷ [])) steps)
    pub worn : W n → (known root).turns ≤ length (known pass).seen

  -- from a place on
  abbrev AllLeft : ℕ → List (Slot D S K) → Type 0
  AllLeft n [] = Unit {0}
  AllLeft n (s ∷ ss) = Left n s × AllLeft (suc n) ss

  all-left : (n : ℕ) (ss : List (Slot D S K)) (d : Slot D S K)
      → ((i : ℕ) → i < length ss → Left (n + i) (get_or ss i d)) → AllLeft n ss
  all-left n [] d each = tt
  all-left n (s ∷ ss) d each = (
    subst (λ (k : ℕ). Left k s) (omega arith) (each zero (omega arith)),
    all-left (suc n) ss d (λ i less. subst (λ (k : ℕ). Left k (get_or ss i d)) (omega arith)
        (each (suc i) (omega (arith, less)))),
  )

  -- one more: what one of both had not seen has no step of its numbers
  join-one : (all n : ℕ) (slot : Slot D S K) (p o r : HallPass D) → 0 < (known root).given → Joined P W root all n p
      → Left n slot → slot.pass ≡ Some o → IsOf hall p → IsOf hall r → Merged p o r
      → Joined P W root all (suc n) r
  join-one all n slot p o r some so left is of-p of-r m =
      let v : Sight D = known root in
      let same : left.pass ≡ o = cc (is, left.is) in
      let numbers-o : (known o).numbers ≡ ((known root).given + n) ∷ [] =
      ap (λ (k : HallPass D). (known k).numbers) (sym same) ∙ left.numbers in
      let given-o : (known o).given ≡ 0 = ap (λ (k : HallPass D). (known k).given) (sym same) ∙ left.given in
      let seen-o : (known o).seen ≡ v.seen ++ left.steps =
      ap (λ (k : HallPass D). (known k).seen) (sym same) ∙ left.seen in
      let steps : List Step = so.steps ++ m.later in
      let seen : (known r).seen ≡ v.seen ++ steps =
      m.seen ∙ (ap (λ (l : List Step). l ++ m.later) so.seen ∙ append_assoc v.seen so.steps m.later) in
      let mine : steps ≡ left.steps ++ m.later_other = cancel v.seen steps (left.steps ++ m.later_other)
      (sym seen ∙ (m.seen_other ∙ (ap (λ (l : List Step). l ++ m.later_other) seen-o
      ∙ append_assoc v.seen left.steps m.later_other))) in
      let given : (known r).given ≡ (known root).given + all =
      (let g = m.given in let h = so.given in omega (arith, g, h, given-o)) in
      let none-o : own by (((known root).given + n) ∷ []) m.later_other ≡ [] =
      ap (λ (l : List ℕ). own by l m.later_other) (sym numbers-o) ∙ m.none_other in
      let in-p : (j : ℕ) → has (v.numbers ++ numbers_from v.given n) j ≡ true → has (known p).numbers j ≡ true =
      λ j h. ap (λ (l : List ℕ). has l j) so.numbers ∙ h in
      let before : (i : ℕ) → i < n → own by (((known root).given + i) ∷ []) m.later ≡ [] = λ i less.
      of-some (known p).numbers (((known root).given + i) ∷ [])
      (λ j e. only-one (v.given + i) j (known p).numbers (in-p (v.given + i) (has_right v.numbers
      (numbers_from v.given n) (v.given + i) (has-from v.given n (v.given + i) (omega arith) (omega (arith, less))))) e)
      m.later m.none in
      record {
        origin = m.origin ∙ so.origin;
        numbers = m.numbers ∙ (ap (λ (l : List ℕ). l ++ (known o).numbers) so.numbers
            ∙ (ap (λ (l : List ℕ). (v.numbers ++ numbers_from v.given n) ++ l) numbers-o
            ∙ append_assoc v.numbers (numbers_from v.given n) (((known root).given + n) ∷ [])));
        given = given;
        runs = runs-merged hall p o r of-p (subst (IsOf hall) same left.of) of-r m so.runs (subst Runs same left.runs);
        steps = steps;
        seen = seen;
        none = of-append v.numbers so.steps m.later so.none (of-some (known p).numbers v.numbers
            (λ j h. in-p j (has_left v.numbers (numbers_from v.given n) j h)) m.later m.none);
        named = λ any k le. of_tail by (k ∷ []) v.seen steps
            (ap (own by (k ∷ [])) (sym seen) ∙ m.named (omega (arith, given, some)) k (omega (arith, given, le)));
        each = λ i less. elim (cases_lt i n) [
          | inl l ↦ subst (P i) (sym (calls-then (v.given + i) so.steps m.later steps refl (before i l))) (so.each i l)
          | inr g ↦
              let here : n ≡ i = omega (arith, g, less) in
              subst (λ (j : ℕ). P j (calls_of (has (((known root).given + j) ∷ [])) steps)) here
              (subst (P n) (sym (calls-then (v.given + n) left.steps m.later_other steps mine none-o)) left.text)
        ];
        worn = λ i less w. elim (cases_lt i n) [
          | inl l ↦ (let a = so.worn i l w in let b = ap length m.seen in
              omega (arith, a, b, length-append (known p).seen m.later))
          | inr g ↦
              let here : i ≡ n = omega (arith, g, less) in
              (let a = left.worn (subst W here w) in let b = ap length m.seen_other in
              let c = ap (λ (k : HallPass D). length (known k).seen) same in
              omega (arith, a, b, c, length-append (known o).seen m.later_other))
        ];
      }

  join-all : (all n : ℕ) (ss : List (Slot D S K)) (p r : HallPass D) → 0 < (known root).given → Joined P W root all n p
      → AllLeft n ss → Joins hall ss p r → Joined P W root all (n + length ss) r
  join-all all n [] p r some so left joins =
      subst (λ (k : ℕ). Joined P W root all k r) (omega arith) (subst (Joined P W root all n) (sym joins) so)
  join-all all n (s ∷ ss) p r some so left joins =
      let next = join-one all n s p joins.0 joins.1 some so left.0 joins.2 joins.3 joins.4 joins.5 in
      subst (λ (k : ℕ). Joined P W root all k r) (omega arith)
      (join-all all (suc n) ss joins.1 r some next left.1 joins.6)

module _ {D S K : Type 0} (source : taken.Ghosts S) (sink : put.Ghosts K) (settings : Settings) (hall : Hall D)
    (root : HallPass D) where
  abbrev Was : Slot D S K → Slot D S K → Type 0
  Was before after = WasServed source sink settings hall before after

  abbrev Text : Slot D S K → Slot D S K → Calls → Type 0
  Text before after calls = EndServed source sink settings before.served after.served calls

  -- an end that was cut off and served
  left-of : (n : ℕ) (before after : Slot D S K) (P : ℕ → Calls → Type 0) (W : ℕ → Type 0) → Runs root
      → ((calls : Calls) → Text before after calls → P n calls) → (W n → after.served.status ≡ WORN)
      → IsCut hall (known root) n before → Was before after → Left P W hall root n after
  left-of n before after P W runs gives ends cut was =
      let v : Sight D = known root in
      let same : was.old ≡ cut.pass = cc (was.was, cut.is) in
      let me : known was.old ≡ given_to (splits n v) = ap (λ (k : HallPass D). known k) same ∙ cut.knows in
      let st = was.stretch in
      let numbers : (known was.old).numbers ≡ (v.given + n) ∷ [] = ap (λ (k : Sight D). k.numbers) me in
      let origin : (known was.old).origin ≡ v.origin = ap (λ (k : Sight D). k.origin) me in
      let seen : (known was.old).seen ≡ v.seen = ap (λ (k : Sight D). k.seen) me in
      let turns : (known was.old).turns ≡ v.turns = ap (λ (k : Sight D). k.turns) me in
      record {
        pass = was.new;
        is = was.is;
        of = was.of;
        runs = runs-later was.old was.new was.from was.to was.steps st (runs-as root was.old origin seen turns runs);
        numbers = st.stays.numbers ∙ numbers;
        given = st.stays.given ∙ ap (λ (k : Sight D). k.given) me;
        steps = was.steps;
        seen = st.seen ∙ ap (λ (l : List Step). l ++ was.steps) seen;
        text = gives (calls_of (has ((v.given + n) ∷ [])) was.steps)
            (subst (λ (l : List ℕ). Text before after (calls_of (has l) was.steps)) numbers was.served);
        worn = λ w. let h = was.worn (ends w) in let t = st.stays.turns in omega (arith, h, t, turns);
      }

  abbrev TextAt : List (Slot D S K) → List (Slot D S K) → Slot D S K → ℕ → Calls → Type 0
  TextAt cuts slots d i calls = Text (get_or cuts i d) (get_or slots i d) calls

  abbrev WornAt : List (Slot D S K) → Slot D S K → ℕ → Type 0
  WornAt slots d i = (get_or slots i d).served.status ≡ WORN

  -- all ends were served and joined
  record Ready (cuts slots : List (Slot D S K)) (r : HallPass D) : Type 0 where
    pub head : Slot D S K
    pub joined : Joined (TextAt cuts slots head) (WornAt slots head) root (length cuts) (length cuts) r

  head-of : {X : Type 0} (xs : List X) → 1 ≤ length xs → X
  head-of [] some = absurd (omega (arith, some))
  head-of (x ∷ xs) some = x

  -- what the three steps tell of the slots, and of the pass that was split and joined
  pub record Steps (cuts slots : List (Slot D S K)) (p r : HallPass D) : Type 0 where
    pub root_is : IsWhole root
    pub runs : Runs root
    pub some : 1 ≤ length cuts
    pub gave : known p ≡ splits (length cuts) (known root)
    pub count : length slots ≡ length cuts
    pub cut : (i : ℕ) (d : Slot D S K) → i < length cuts → IsCut hall (known root) i (get_or cuts i d)
    pub was : (i : ℕ) (d : Slot D S K) → i < length cuts → Was (get_or cuts i d) (get_or slots i d)
    pub joins : Joins hall slots p r

  all-ready : (cuts slots : List (Slot D S K)) (p r : HallPass D) → Steps cuts slots p r → Ready cuts slots r
  all-ready cuts slots p r s =
      let d : Slot D S K = head-of cuts s.some in
      let P : ℕ → Calls → Type 0 = TextAt cuts slots d in
      let W : ℕ → Type 0 = WornAt slots d in
      let each = all-left P W hall root 0 slots d (λ i less.
      let lt : i < length cuts = omega (arith, less, s.count) in
      subst (λ (k : ℕ). Left P W hall root k (get_or slots i d)) (omega arith)
      (left-of i (get_or cuts i d) (get_or slots i d) P W s.runs (λ calls h. h) (λ w. w) (s.cut i d lt)
      (s.was i d lt))) in
      record {
        head = d;
        joined = subst (λ (k : ℕ). Joined P W root (length cuts) k r) (omega (arith, s.count))
            (join-all P W hall root (length cuts) 0 slots p r s.root_is.root
            (start-joins P W root (length cuts) p s.runs s.gave) each s.joins);
      }

  -- the pass has every number again
  pub whole-of : (cuts slots : List (Slot D S K)) (p r : HallPass D) → Steps cuts slots p r → IsWhole r
  whole-of cuts slots p r s =
      let v : Sight D = known root in
      let so = (all-ready cuts slots p r s).joined in
      record {
        root = (let a = s.root_is.root in let b = so.given in omega (arith, a, b));
        all = λ j lt. ap (λ (l : List ℕ). has l j) so.numbers ∙ elim (cases_lt j v.given) [
          | inl l ↦ has_left v.numbers (numbers_from v.given (length cuts)) j (s.root_is.all j l)
          | inr g ↦ has_right v.numbers (numbers_from v.given (length cuts)) j
              (has-from v.given (length cuts) j (omega (arith, g)) (let b = so.given in omega (arith, lt, b)))
        ];
      }

  pub runs-of : (cuts slots : List (Slot D S K)) (p r : HallPass D) → Steps cuts slots p r → Runs r
  runs-of cuts slots p r s = (all-ready cuts slots p r s).joined.runs

  pub serving : (before ends : List (End S K)) (cuts slots : List (Slot D S K)) (p r : HallPass D)
      → Steps cuts slots p r → IsOf hall root → IsOf hall r → map (λ (s : Slot D S K). s.served) cuts ≡ before
      → ends ≡ map (λ (s : Slot D S K). s.served) slots → Serving source sink settings root r before ends
  serving before ends cuts slots p r s of-root of-r was is =
      let f : Slot D S K → End S K = λ s. s.served in
      let v : Sight D = known root in
      let ready = all-ready cuts slots p r s in
      let so = ready.joined in
      let d = ready.head in
      let many : length before ≡ length cuts = sym (ap length was) ∙ length-map cuts f in
      let o : Origin D = s.runs.origin in
      let same : so.runs.origin ≡ o = cc (so.runs.of, so.origin, s.runs.of) in
      let last : State = after o.state (known r).seen in
      let whole : IsRun o.state (known r).seen last =
      subst (λ (i : Origin D). IsRun i.state (known r).seen (after i.state (known r).seen)) same so.runs.run in
      let parts : IsRun o.state (v.seen ++ so.steps) last =
      subst (λ (l : List Step). IsRun o.state l last) so.seen whole in
      let turns : (known r).turns ≡ v.turns = of-r.limit ∙ sym of-root.limit in
      let old-is : (i : ℕ) (e : End S K) → i < length cuts → get_or before i e ≡ f (get_or cuts i d) =
      λ i e lt. ap (λ (l : List (End S K)). get_or l i e) (sym was) ∙ get_or-map f cuts i d e lt in
      let new-is : (i : ℕ) (e : End S K) → i < length cuts → get_or ends i e ≡ f (get_or slots i d) =
      λ i e lt. ap (λ (l : List (End S K)). get_or l i e) is ∙ get_or-map f slots i d e (omega (arith, lt, s.count)) in
      record {
        steps = so.steps;
        seen = so.seen;
        from = after o.state v.seen;
        to = last;
        begins = (o, s.runs.of, refl);
        ends = (o, so.origin ∙ s.runs.of, refl);
        run = (run-parts v.seen so.steps o.state last parts).1;
        calm = (calm-parts v.seen so.steps (subst IsCalm so.seen so.runs.calm)).1;
        origin = so.origin;
        numbers = so.numbers ∙ ap (λ (k : ℕ). v.numbers ++ numbers_from v.given k) (sym many);
        given = so.given ∙ ap (λ (k : ℕ). v.given + k) (sym many);
        turns = turns;
        count = ap length is ∙ (length-map slots f ∙ (s.count ∙ sym many));
        each = λ i e less.
            let lt : i < length cuts = omega (arith, less, many) in
            let calls : Calls = calls_of (has ((v.given + i) ∷ [])) so.steps in
            subst (λ (x : End S K). EndServed source sink settings x (get_or ends i e) calls) (sym (old-is i e lt))
            (subst (λ (x : End S K). EndServed source sink settings (f (get_or cuts i d)) x calls)
            (sym (new-is i e lt)) (so.each i lt));
        worn = λ i e less w.
            let lt : i < length cuts = omega (arith, less, many) in
            let long = so.worn i lt (ap (λ (x : End S K). x.status) (sym (new-is i e lt)) ∙ w) in
            let few = so.runs.within in
            omega (arith, long, few, turns);
        others = λ k either. ⊎_elim
            (λ l. of-some v.numbers (k ∷ []) (λ j h. only-one k j v.numbers (s.root_is.all k l) h) so.steps so.none)
            (λ g. so.named (omega (arith, s.some, many)) k (omega (arith, g, many))) either;
      }

  -- a slot that was cut has its pass
  pub can-first : (cuts : List (Slot D S K))
      → ((i : ℕ) (d : Slot D S K) → i < length cuts → IsCut hall (known root) i (get_or cuts i d))
      → (k : ℕ) (d : Slot D S K) → k < length cuts → CanServe hall (get_or cuts k d)
  can-first cuts cut k d less = let c = cut k d less in record { pass = c.pass; is = c.is; of = c.of }

  -- a slot that was served has its pass again
  pub can-again : (cuts slots all : List (Slot D S K)) → length slots ≡ length cuts
      → ((i : ℕ) (d : Slot D S K) → i < length cuts → Was (get_or cuts i d) (get_or slots i d)) → all ≡ slots
      → (k : ℕ) (d : Slot D S K) → k < length all → CanServe hall (get_or all k d)
  can-again cuts slots all count was e =
      subst (λ (l : List (Slot D S K)). (k : ℕ) (d : Slot D S K) → k < length l → CanServe hall (get_or l k d)) (sym e)
      (λ k d less. let w = was k d (omega (arith, less, count)) in record { pass = w.new; is = w.is; of = w.of })
