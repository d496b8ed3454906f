-- The rule of the gate's table: two words, count and holder, and one slot with the value. For the steps alone.
use Rattle.std.specs.Prelude.{◌≡◌, ◌⊎◌, ℕ, ◌<◌, ◌≤◌, true, List, [], ◌∷◌, ◌++◌, length, Option, Some}
use mathlib.Core.Option.{some}
use lib.ListN.{get_elem?}
use Rattle.atomic_table.specs.Table.{State}
use Rattle.turn_gate.specs.declared.known.Known.{Known}
use Rattle.turn_gate.specs.Numbers.{has, own, times}

-- the course of a gate so far
pub record Course (E O : Type 0) : Type 0 where
  pub origin : O
  pub history : List E
  -- the number of given numbers, and the seat that has each number
  pub given : ℕ
  pub owner : ℕ → ℕ
  -- the seat of the root pass
  pub root : ℕ
  -- the seat of the turn that is on, and its stage: 0 between turns
  pub who : ℕ
  pub stage : ℕ

-- each of these is that origin
abbrev pub AreAll : {O : Type 0} → O → List O → Type 0
AreAll origin [] = Unit {0}
AreAll origin (o ∷ os) = (o ≡ origin) × AreAll origin os

-- the history begins with each part, and goes on without events of the part's numbers, which are numbers of the pass
abbrev pub PartsKnow : {E : Type 0} → (E → ℕ) → List E → List ℕ → List (List ℕ × List E) → Type 0
PartsKnow number history ns [] = Unit {0}
PartsKnow {E} number history ns (p ∷ ps) =
    ((rest : List E) × (history ≡ p.1 ++ rest) × (own number p.0 rest ≡ [])
    × ((n : ℕ) → has p.0 n ≡ true → has ns n ≡ true))
    × PartsKnow number history ns ps

-- the knowledge of the seat k, with the view v, of the course of its gate, which was given `first` and has `turns`
-- turns
pub record Knows {V E O : Type 0} (number : E → ℕ) (first : V) (turns : ℕ) (c : Course E O) (k : ℕ)
    (v : Known V E O) : Type 0 where
  -- its seat may be spent
  pub first_is : (v.first ≡ []) ⊎ (v.first ≡ first ∷ [])
  pub turns_is : (v.turns ≡ 0) ⊎ (v.turns ≡ turns)
  pub origin_is : AreAll c.origin v.origin
  -- the history begins with the events that it has seen, and goes on without events of its own
  pub rest : List E
  pub seen_is : c.history ≡ v.seen ++ rest
  pub others : own number v.numbers rest ≡ []
  -- its numbers were given, and are no other seat's
  pub mine : (n : ℕ) → has v.numbers n ≡ true → (n < c.given) × (c.owner n ≡ k)
  -- in its turn it has a number, and has seen the whole history from step 2 on
  pub turn : (v.stage ≡ 0) ⊎ ((k ≡ c.who) × (v.stage ≡ c.stage) × (2 ≤ c.stage → v.seen ≡ c.history)
      × ((n : ℕ) × (has v.numbers n ≡ true)))
  pub parts : PartsKnow number c.history v.numbers v.parts
  -- the root alone knows the number of given numbers
  pub roots : (v.given ≡ 0) ⊎ ((v.given ≡ c.given) × (k ≡ c.root))

-- the seat k has a view v, and f v is a
abbrev pub At : {A V E O : Type 0} → List (Known V E O) → ℕ → (Known V E O → A) → A → Type 0
At {A} {V} {E} {O} views k f a = (v : Known V E O) × (get_elem? views k ≡ some v) × (f v ≡ a)

-- There is one history, as long as the count, and it begins at one origin of the given value. The value at home records
-- it. Each view knows a beginning of it, with all of its own events
pub record OneHistory {V E O : Type 0} (stands : O → V → List E → Type 0) (number : E → ℕ) (first : V) (turns : ℕ)
    (s : State (Option V) (Known V E O)) : Type 0 where
  pub course : Course E O
  pub holder : ℕ
  pub begins : stands course.origin first []
  pub bounded : length course.history ≤ turns
  pub words : s.words ≡ length course.history ∷ holder ∷ []
  -- the holder word is 1 in a turn and 0 between turns
  pub free : course.stage ≡ 0 → holder ≡ 0
  pub held : 0 < course.stage → (holder ≡ 1) × At s.views course.who (λ v. v.stage) course.stage
  -- the value is at home but between the steps 2 and 4
  pub home : course.stage < 2 → (x : V) × (s.homes ≡ some (Some x) ∷ []) × stands course.origin x course.history
  pub knows : (k : ℕ) (v : Known V E O) → get_elem? s.views k ≡ some v → Knows number first turns course k v
  -- one view has seen all, one is the root's, and each given number is in one view, once
  pub longest : (k : ℕ) × At s.views k (λ v. v.seen) course.history
  pub rooted : (0 < course.given) × At s.views course.root (λ v. v.given) course.given
  pub had : (n : ℕ) → n < course.given → At s.views (course.owner n) (λ v. times n v.numbers) 1
  -- no event names a number that was not given
  pub named : (n : ℕ) → course.given ≤ n → own number (n ∷ []) course.history ≡ []
