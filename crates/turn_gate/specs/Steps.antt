-- The knowledge of a pass after each step. For callers: `Sat`, `sat`, `first_pass`, `giving`, `given_to`,
-- `having_seen`; the rest is for the steps on the table.
use Rattle.std.specs.Prelude.{◌≡◌, ℕ, ◌+◌, ◌<◌, ◌≤◌, ◌==◌, true, List, [], ◌∷◌, ◌++◌, length, Option, Some, MatchBool}
use Rattle.atomic_table.specs.Table.{Me, Step}
use Rattle.turn_gate.specs.declared.known.Known.{Known}
use Rattle.turn_gate.specs.Numbers.{has, own, longer}
use Rattle.turn_gate.specs.Rules.{AreAll}

-- the knowledge of a pass, and the slots that it holds
abbrev pub Sat : Type 0 → Type 0 → Type 0 → Type 0
Sat V E O = Me (Option V) (Known V E O)

module _ {V E O : Type 0} where
  abbrev pub sat : Known V E O → List (ℕ × Option V) → Sat V E O
  sat v c = (v, c)

  -- the root pass of a new gate, before its origin is picked: the number 0, and nothing seen
  abbrev pub opened : V → ℕ → Known V E O
  opened first turns = record {
    first = first ∷ [];
    origin = [];
    numbers = 0 ∷ [];
    seen = [];
    parts = [];
    stage = 0;
    given = 1;
    turns = turns;
  }

  abbrev pub placed : O → Known V E O → Known V E O
  placed origin v = record v { origin = origin ∷ [] }

  -- the root pass of a new gate
  abbrev pub first_pass : V → O → ℕ → Known V E O
  first_pass first origin turns = placed origin (opened first turns)

  abbrev pub having_seen : List E → ℕ → Known V E O → Known V E O
  having_seen seen stage v = record v { seen = seen; stage = stage }

  abbrev pub at_stage : ℕ → Known V E O → Known V E O
  at_stage stage v = record v { stage = stage }

  -- one number more was given
  abbrev pub giving : Known V E O → Known V E O
  giving v = record v { given = v.given + 1 }

  -- the new pass has the next number, and has seen the root pass's events
  abbrev pub given_to : Known V E O → Known V E O
  given_to v = record v { numbers = v.given ∷ []; parts = []; stage = 0; given = 0 }

  -- the numbers and origins of both, the longer of the two lists of seen events, and both as parts
  abbrev pub joined : Known V E O → Known V E O → Known V E O
  joined v w = record v {
    origin = v.origin ++ w.origin;
    numbers = v.numbers ++ w.numbers;
    seen = longer v.seen w.seen;
    parts = (v.numbers, v.seen) ∷ (w.numbers, w.seen) ∷ [];
    given = v.given + w.given;
  }

  abbrev pub spent : Known V E O
  spent = record {
    first = [];
    origin = [];
    numbers = [];
    seen = [];
    parts = [];
    stage = 0;
    given = 0;
    turns = 0;
  }

  abbrev pub settled : O → Known V E O → Known V E O
  settled origin v = record v { origin = origin ∷ []; parts = [] }

-- 1: the holder word was taken, or nothing changed
abbrev pub Takes : {V E O : Type 0} → Step (Option V) → Sat V E O → ℕ → Sat V E O → Type 0
Takes s m found n = MatchBool (found == 0) (n ≡ sat (at_stage 1 m.0) m.1) (n ≡ m)

-- at the start: of the origins after which the given value records no event, the gate's own was picked
abbrev pub Picks : {V E O : Type 0} → (O → V → List E → Type 0) → Step (Option V) → Sat V E O → ℕ → Sat V E O → Type 0
Picks {V} {E} {O} stands s m found n =
    (origin : O) × (first : V) × (m.0.first ≡ first ∷ []) × stands origin first [] × (n ≡ sat (placed origin m.0) m.1)

-- 2: the whole history was seen, as long as the count, and the value that records it taken. No event that was gained is
-- the pass's own
pub record Looks {V E O : Type 0} (stands : O → V → List E → Type 0) (number : E → ℕ) (s : Step (Option V))
    (m : Sat V E O) (found : ℕ) (n : Sat V E O) : Type 0 where
  pub origin : O
  pub value : V
  pub more : List E
  pub of : m.0.origin ≡ origin ∷ []
  pub sees : n ≡ sat (having_seen (m.0.seen ++ more) 2 m.0) ((0, Some value) ∷ [])
  pub others : own number m.0.numbers more ≡ []
  pub long : length (m.0.seen ++ more) ≡ found
  pub most : length (m.0.seen ++ more) ≤ m.0.turns
  pub standing : stands origin value (m.0.seen ++ more)

-- 3: an event was added that names a number of the pass. The held value shows it, and records the history with it
pub record Adds {V E O : Type 0} (stands : O → V → List E → Type 0) (tells : V → E → Type 0) (number : E → ℕ)
    (s : Step (Option V)) (m : Sat V E O) (found : ℕ) (n : Sat V E O) : Type 0 where
  pub origin : O
  pub value : V
  pub event : E
  pub of : m.0.origin ≡ origin ∷ []
  pub held : m.1 ≡ (0, Some value) ∷ []
  pub sees : n ≡ sat (having_seen (m.0.seen ++ event ∷ []) 3 m.0) m.1
  pub is_own : has m.0.numbers (number event) ≡ true
  pub told : tells value event
  pub standing : stands origin value (m.0.seen ++ event ∷ [])

-- 4: the value was given back, and the turn is over
abbrev pub Releases : {V E O : Type 0} → Step (Option V) → Sat V E O → ℕ → Sat V E O → Type 0
Releases s m found n = n ≡ sat (at_stage 0 m.0) []

-- the seen events begin with each part, and go on without events of the part's numbers
abbrev pub PartsSeen : {E : Type 0} → (E → ℕ) → List E → List (List ℕ × List E) → Type 0
PartsSeen number seen [] = Unit {0}
PartsSeen {E} number seen (p ∷ ps) =
    (length p.1 ≤ length seen → (rest : List E) × (seen ≡ p.1 ++ rest) × (own number p.0 rest ≡ []))
    × PartsSeen number seen ps

-- after a join: both parts have one origin, and the seen events begin with each. The root pass also learns that no
-- event names a number that was not given, and looks so before a split too
pub record Learns {V E O : Type 0} (number : E → ℕ) (s : Step (Option V)) (m : Sat V E O) (found : ℕ) (n : Sat V E O)
    : Type 0 where
  pub origin : O
  pub one : AreAll origin m.0.origin
  pub is : n ≡ sat (settled origin m.0) m.1
  pub parts : PartsSeen number m.0.seen m.0.parts
  pub named : 0 < m.0.given → (k : ℕ) → m.0.given ≤ k → own number (k ∷ []) m.0.seen ≡ []
