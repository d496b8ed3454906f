-- The naming of components: no names, one more name, an atom that waits no more, and what the names say in the end.
use Rattle.std.proofs.Common.{ℕ, ◌+◌, ◌<◌, ◌≤◌, ◌≡◌, ◌≢◌, inl, inr, false, cond, eqb, List, [], ◌∷◌, ◌++◌, All, length, get_or, set, replicate, refl, sym, ap, subst, ◌∙◌, arith}
use Rattle.std.specs.List.{count_by}
use Rattle.std.proofs.lemmas.Bool.{cases_lt, cases_eq, ne_eqb}
use Rattle.std.proofs.lemmas.List.{get_or_append_left, get_or_push, length_push, length-set, length-replicate, get_or-set_same, get_or-set_other, get_or-replicate, get_or_default}
use Rattle.std.proofs.lemmas.List.Elements.{All-push}
use Rattle.std.proofs.lemmas.List.Sums.{count_by-le-length, sum_by-set}
use Rattle.chem_core.specs.Graph.{Ends, Joined, IsSimpleGraph}
use Rattle.chem_core.specs.Component.{IsWalk, IsComponent, AreComponents}
use Rattle.chem_core.specs.Steps.{AreStepsFrom}
use Rattle.chem_core.specs.declared.adjacency.Step.{Step}
use Rattle.chem_core.proofs.Components.{reaches_self, reaches_on, reaches_joined, reaches_back}
use Rattle.chem_core.proofs.Neighbours.{joins_back, joined_within}
use Rattle.chem_core.proofs.Steps.{step_joins}
use Rattle.mol_finish.specs.declared.components.TheConstants.{NONE}
use Rattle.mol_finish.specs.Naming.{IsNamed, IsNaming}

-- ---- components

-- a neighbour is in the same component
component_joined : (ends : Ends) (a b least : ℕ) → Joined ends a b → IsComponent ends a least → IsComponent ends b least
component_joined ends a b least j h =
    let there = reaches_joined ends a b j in
    (reaches_on ends b a least (reaches_back ends a b there) h.0, λ x r. h.1 x (reaches_on ends a b x there r))

-- ---- names

-- one atom fewer without a name
count-set : (names : List ℕ) (w least : ℕ) → w < length names → get_or names w 0 ≡ NONE → least ≢ NONE
    → count_by (λ v. eqb v NONE) (set names w least) + 1 ≡ count_by (λ v. eqb v NONE) names
count-set names w least there fresh real =
    let e = sum_by-set (λ v. cond (eqb v NONE) 1 0) names w least 0 there in
    let some : eqb least NONE ≡ false = ne_eqb least NONE real in
    let e' = rw (fresh, some) at e in
    omega arith

-- who has a name keeps one
named_stays : (names : List ℕ) (w least : ℕ) → get_or names w 0 ≡ NONE → (a : ℕ) → IsNamed names a
    → IsNamed (set names w least) a
named_stays names w least fresh a named = elim (cases_eq a w) [
  | inl e ↦ absurd (named (ap (λ x. get_or names x 0) e ∙ fresh))
  | inr ne ↦ rw (get_or-set_other names w a least 0 ne) named
]

pub naming_none : (n : ℕ) (ends : Ends) → IsSimpleGraph n ends → IsNaming n ends (replicate n NONE) [] 0
naming_none n ends graph =
    let size : length (replicate n NONE) ≡ n = length-replicate n NONE in
    let none : (a : ℕ) → a < n → get_or (replicate n NONE) a 0 ≡ NONE = λ a l. get_or-replicate n a NONE 0 l in
    record {
      one_each = size;
      few = omega (arith, count_by-le-length (λ v. eqb v NONE) (replicate n NONE));
      right = λ a l named. absurd (named (none a l));
      closed = λ a b j named. absurd (named (none a (joined_within n ends j.0 b a graph (joins_back ends j.0 a b j.1)).1));
    }

naming_push : (n : ℕ) (ends : Ends) (names queue : List ℕ) (next w least : ℕ) → IsNaming n ends names queue next
    → next ≤ length queue → w < n → least ≢ NONE → get_or names w 0 ≡ NONE → IsComponent ends w least
    → IsNaming n ends (set names w least) (queue ++ w ∷ []) next
naming_push n ends names queue next w least h within low real fresh is =
    let there : w < length names = omega (arith, h.one_each) in
    let here : get_or (set names w least) w 0 ≡ least = get_or-set_same names w least 0 there in
    let other : (a : ℕ) → a ≢ w → get_or (set names w least) a 0 ≡ get_or names a 0 = λ a ne.
    get_or-set_other names w a least 0 ne in
    let long : length (queue ++ w ∷ []) ≡ length queue + 1 = length_push queue w in
    record {
      one_each = length-set names w least ∙ h.one_each;
      few = let few' = h.few in let fewer = count-set names w least there fresh real in omega arith;
      right = λ a l named. elim (cases_eq a w) [
        | inl e ↦ rw (e, here) is
        | inr ne ↦ rw (other a ne) (h.right a l (rw (other a ne) at named))
      ];
      closed = λ a b j named. elim (cases_eq a w) [
        | inl e ↦ inr (length queue, within, omega arith, get_or_push queue w 0 (length queue) refl ∙ sym e)
        | inr ne ↦ elim (h.closed a b j (rw (other a ne) at named)) [
          | inl near ↦ inl (named_stays names w least fresh b near)
          | inr wait ↦
              inr (wait.0, wait.1, omega (arith, wait.2), get_or_append_left queue (w ∷ []) 0 wait.0 wait.2 ∙ wait.3)
        ]
      ];
    }

-- the next atom of the queue waits no more
naming_next : (n : ℕ) (ends : Ends) (names queue : List ℕ) (next : ℕ) → IsNaming n ends names queue next
    → ((b : ℕ) → Joined ends (get_or queue next 0) b → IsNamed names b) → IsNaming n ends names queue (next + 1)
naming_next n ends names queue next h done =
    record {
      one_each = h.one_each;
      few = h.few;
      right = h.right;
      closed = λ a b j named. elim (h.closed a b j named) [
        | inl near ↦ inl near
        | inr wait ↦ elim (cases_eq wait.0 next) [
          | inl e ↦
              inl (done b (subst (λ x. Joined ends x b) (sym wait.3 ∙ ap (λ i. get_or queue i 0) e) j))
          | inr ne ↦ inr (wait.0, omega (arith, wait.1, ne), wait.2, wait.3)
        ]
      ];
    }

-- no atom waits any more
pub naming_done : (n : ℕ) (ends : Ends) (names queue : List ℕ) (next : ℕ) → IsNaming n ends names queue next
    → length queue ≤ next → IsNaming n ends names [] 0
naming_done n ends names queue next h all =
    record {
      one_each = h.one_each;
      few = omega (arith, h.few);
      right = h.right;
      closed = λ a b j named. elim (h.closed a b j named) [
        | inl near ↦ inl near
        | inr wait ↦ absurd (omega (arith, wait.1, wait.2))
      ];
    }

-- ---- the least atom

near_named : (n : ℕ) (ends : Ends) (names : List ℕ) → IsNaming n ends names [] 0 → (a b : ℕ) → Joined ends a b
    → IsNamed names a → IsNamed names b
near_named n ends names h a b j named = elim (h.closed a b j named) [
  | inl near ↦ near
  | inr wait ↦ absurd (omega (arith, wait.2))
]

walk_named : (n : ℕ) (ends : Ends) (names : List ℕ) → IsNaming n ends names [] 0 → (a : ℕ) (xs : List ℕ) (b : ℕ)
    → IsWalk ends a xs b → IsNamed names a → IsNamed names b
walk_named n ends names h a [] b e named = subst (IsNamed names) e named
walk_named n ends names h a (z ∷ xs) b w named =
    walk_named n ends names h z xs b w.1 (near_named n ends names h a z w.0 named)

-- An atom without a name is the least of its component, if all below have names.
pub least_unnamed : (n : ℕ) (ends : Ends) (names : List ℕ) (least : ℕ) → IsNaming n ends names [] 0
    → ((a : ℕ) → a < least → IsNamed names a) → get_or names least 0 ≡ NONE → IsComponent ends least least
least_unnamed n ends names least h below fresh = (
  reaches_self ends least,
  λ b r. elim (cases_lt b least) [
    | inl l ↦
        let back = reaches_back ends least b r in
        absurd (walk_named n ends names h b back.0 least back.1 (below b l) fresh)
    | inr le ↦ le
  ],
)

pub all_named : (n : ℕ) (ends : Ends) (names : List ℕ) → IsNaming n ends names [] 0
    → ((a : ℕ) → a < n → IsNamed names a) → AreComponents n ends names
all_named n ends names h all = record { one_each = h.one_each; each = λ a l. h.right a l (all a l) }

-- ---- the walk from the least atom

-- the walk under way: its names, and who had one before
pub record IsNamingFrom (n : ℕ) (ends : Ends) (least : ℕ) (before names queue : List ℕ) (next : ℕ) : Type 0 where
  pub naming : IsNaming n ends names queue next
  pub queued : All (λ a. (a < n) × IsComponent ends a least) queue
  pub kept : (a : ℕ) → IsNamed before a → IsNamed names a

one_more : (n : ℕ) (ends : Ends) (least : ℕ) (before names queue : List ℕ) (next w : ℕ) → IsSimpleGraph n ends
    → IsNamingFrom n ends least before names queue next → next ≤ length queue → least < n → w < n
    → get_or names w 0 ≡ NONE → IsComponent ends w least
    → IsNamingFrom n ends least before (set names w least) (queue ++ w ∷ []) next × IsNamed (set names w least) w
one_more n ends least before names queue next w graph h within low low' fresh is =
    let real : least ≢ NONE = λ e. omega (arith, graph.few_atoms) in
    let there : w < length names = omega (arith, h.naming.one_each) in (
      record {
        naming = naming_push n ends names queue next w least h.naming within low' real fresh is;
        queued = All-push (λ a. (a < n) × IsComponent ends a least) queue w h.queued (low', is);
        kept = λ a named. named_stays names w least fresh a (h.kept a named);
      },
      rw (get_or-set_same names w least 0 there) real,
    )

pub from_start : (n : ℕ) (ends : Ends) (least : ℕ) (names : List ℕ) → IsSimpleGraph n ends
    → IsNaming n ends names [] 0 → least < n → get_or names least 0 ≡ NONE → IsComponent ends least least
    → IsNamingFrom n ends least names (set names least least) (least ∷ []) 0 × IsNamed (set names least least) least
from_start n ends least names graph h low fresh is =
    one_more n ends least names names [] 0 least graph (record {
      naming = h;
      queued = λ k d l. absurd (omega (arith, l));
      kept = λ a named. named;
    }) (omega arith) low low fresh is

-- The neighbours of one atom: those so far, as many as k, have names.
pub record IsVisit (n : ℕ) (ends : Ends) (least next at : ℕ) (steps : List Step) (before names queue : List ℕ) (k : ℕ)
    : Type 0 where
  pub graph : IsSimpleGraph n ends
  pub steps_from : AreStepsFrom ends at steps
  pub from : IsNamingFrom n ends least before names queue next
  pub within : next < length queue
  pub here : get_or queue next 0 ≡ at
  pub done : (i : ℕ) (d : Step) → i < k → IsNamed names (get_or steps i d).to

done_more : (names : List ℕ) (steps : List Step) (k : ℕ) (d : Step) → k < length steps
    → ((i : ℕ) (c : Step) → i < k → IsNamed names (get_or steps i c).to) → IsNamed names (get_or steps k d).to → (i : ℕ)
    (c : Step) → i < k + 1 → IsNamed names (get_or steps i c).to
done_more names steps k d l done last i c low = elim (cases_lt i k) [
  | inl past ↦ done i c past
  | inr high ↦
      let e : i ≡ k = omega arith in
      let same : get_or steps i c ≡ get_or steps k d = ap (λ j. get_or steps j c) e ∙ get_or_default steps k c d l in
      subst (λ (s : Step). IsNamed names s.to) (sym same) last
]

pub visit_push : (n : ℕ) (ends : Ends) (least next at : ℕ) (steps : List Step) (before names queue : List ℕ) (k : ℕ)
    (d : Step) → least < n → IsVisit n ends least next at steps before names queue k → k < length steps
    → get_or names (get_or steps k d).to 0 ≡ NONE
    → IsVisit n ends least next at steps before (set names (get_or steps k d).to least)
    (queue ++ (get_or steps k d).to ∷ []) (k + 1)
visit_push n ends least next at steps before names queue k d low h l fresh =
    let w : ℕ = (get_or steps k d).to in
    let joins : Joined ends at w = ((get_or steps k d).bond, step_joins ends at steps k d h.steps_from l) in
    let first = subst (λ a. IsComponent ends a least) h.here (h.from.queued next 0 h.within).1 in
    let more = one_more n ends least before names queue next w h.graph h.from (omega (arith, h.within)) low
    (joined_within n ends joins.0 at w h.graph joins.1).1 fresh (component_joined ends at w least joins first) in
    record {
      graph = h.graph;
      steps_from = h.steps_from;
      from = more.0;
      within = let long = length_push queue w in let within' = h.within in omega arith;
      here = get_or_append_left queue (w ∷ []) 0 next h.within ∙ h.here;
      done = done_more (set names w least) steps k d l
          (λ i c past. named_stays names w least fresh _ (h.done i c past)) more.1;
    }

pub visit_skip : (n : ℕ) (ends : Ends) (least next at : ℕ) (steps : List Step) (before names queue : List ℕ) (k : ℕ)
    (d : Step) → IsVisit n ends least next at steps before names queue k → k < length steps
    → IsNamed names (get_or steps k d).to → IsVisit n ends least next at steps before names queue (k + 1)
visit_skip n ends least next at steps before names queue k d h l named =
    record {
      graph = h.graph;
      steps_from = h.steps_from;
      from = h.from;
      within = h.within;
      here = h.here;
      done = done_more names steps k d l h.done named;
    }

pub visit_done : (n : ℕ) (ends : Ends) (least next at : ℕ) (steps : List Step) (before names queue : List ℕ) (k : ℕ)
    → IsVisit n ends least next at steps before names queue k → length steps ≤ k
    → IsNaming n ends names queue (next + 1)
visit_done n ends least next at steps before names queue k h all =
    naming_next n ends names queue next h.from.naming (λ b j.
    let joins : Joined ends at b = subst (λ x. Joined ends x b) h.here j in
    let step : Step = record { to = b; bond = joins.0 } in
    let has = h.steps_from.each joins.0 b joins.1 in
    subst (λ (s : Step). IsNamed names s.to) has.2 (h.done has.0 step (omega (arith, has.1))))
