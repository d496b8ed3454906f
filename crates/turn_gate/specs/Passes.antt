-- For callers: the requirements and promises of the calls of a gate.
use Rattle.std.specs.Prelude.{◌≡◌, ◌⊎◌, ℕ, ◌+◌, ◌<◌, ◌≤◌, true, List, [], ◌∷◌, ◌++◌, length, None}
use Rattle.turn_gate.specs.declared.known.Known.{Known}
use Rattle.turn_gate.specs.declared.gate.Gate.{Gate}
use Rattle.turn_gate.specs.declared.gate.Pass.{Pass}
use Rattle.turn_gate.specs.Numbers.{has, own}
use Rattle.turn_gate.specs.Steps.{Sat, sat, first_pass, having_seen}

module _ {V E O : Type 0} where
  -- the knowledge of a pass, and the slots that it holds
  abbrev pub sat_of : Pass V E O → Sat V E O
  sat_of p = p.seat.me

  abbrev pub known : Pass V E O → Known V E O
  known p = p.seat.me.0

  abbrev pub turns_of : Gate V E O → ℕ
  turns_of g = g.turns

  -- the pass is of the gate, and is in no turn
  pub record IsOf (g : Gate V E O) (p : Pass V E O) : Type 0 where
    pub same : p.seat.table_id ≡ g.table.shared.table_id
    pub limit : (known p).turns ≡ g.turns
    pub placed : length (known p).origin ≡ 1
    pub numbered : 0 < length (known p).numbers
    pub settled : length (known p).parts ≡ 0
    pub out : (known p).stage ≡ 0
    pub empty : length (sat_of p).1 ≡ 0

  -- the pass is of the gate, and is in its turn, after `count` events: the value is out of the slot
  pub record InTurn (g : Gate V E O) (p : Pass V E O) (count : ℕ) : Type 0 where
    pub same : p.seat.table_id ≡ g.table.shared.table_id
    pub limit : (known p).turns ≡ g.turns
    pub placed : length (known p).origin ≡ 1
    pub numbered : 0 < length (known p).numbers
    pub settled : length (known p).parts ≡ 0
    pub stage : (known p).stage ≡ 2
    pub holds : (sat_of p).1 ≡ (0, None) ∷ []
    pub counted : count ≡ length (known p).seen
    pub room : count < g.turns

  -- the history of its gate begins at this origin
  abbrev pub IsFrom : O → Pass V E O → Type 0
  IsFrom origin p = (known p).origin ≡ origin ∷ []

  -- it alone knows the number of given numbers
  abbrev pub IsRoot : Pass V E O → Type 0
  IsRoot p = 0 < (known p).given

  -- the root pass, with every number that was given
  pub record IsWhole (p : Pass V E O) : Type 0 where
    pub root : IsRoot p
    pub all : (n : ℕ) → n < (known p).given → has (known p).numbers n ≡ true

module _ {V E O : Type 0} (stands : O → V → List E → Type 0) where
  -- the first pass: its history begins at an origin after which the given value records no event
  pub record Begins (value : V) (turns : ℕ) (p : Pass V E O) : Type 0 where
    pub origin : O
    pub standing : stands origin value []
    pub is : known p ≡ first_pass value origin turns

  -- the value records the whole history, which the pass had seen
  pub record Ends (p : Pass V E O) (value : V) : Type 0 where
    pub origin : O
    pub of : IsFrom origin p
    pub standing : stands origin value (known p).seen

module _ {V E O : Type 0} (stands : O → V → List E → Type 0) (number : E → ℕ) where
  -- a turn begins: the pass has seen the whole history, which the value records. Events that it had not seen before are
  -- not its own
  pub record Sees (p : Pass V E O) (value : V) (q : Pass V E O) : Type 0 where
    pub origin : O
    pub more : List E
    pub of : IsFrom origin p
    pub sees : sat_of q ≡ sat (having_seen ((known p).seen ++ more) 2 (known p)) ((0, None) ∷ [])
    pub others : own number (known p).numbers more ≡ []
    pub standing : stands origin value ((known p).seen ++ more)

  -- all turns were taken: the pass has seen the whole history, which has an event for each
  pub record AllTaken (turns : ℕ) (p q : Pass V E O) : Type 0 where
    pub origin : O
    pub value : V
    pub more : List E
    pub of : IsFrom origin p
    pub sees : sat_of q ≡ sat (having_seen ((known p).seen ++ more) 0 (known p)) []
    pub others : own number (known p).numbers more ≡ []
    pub standing : stands origin value ((known p).seen ++ more)
    pub full : length ((known p).seen ++ more) ≡ turns

module _ {V E O : Type 0} (stands : O → V → List E → Type 0) (tells : V → E → Type 0) (number : E → ℕ) where
  -- an event that the value shows. It names a number of the pass, and the value records the seen events and then this
  -- event
  pub record Names (p : Pass V E O) (value : V) : Type 0 where
    pub origin : O
    pub event : E
    pub of : IsFrom origin p
    pub told : tells value event
    pub is_own : has (known p).numbers (number event) ≡ true
    pub standing : stands origin value ((known p).seen ++ event ∷ [])

  -- the turn is over, and such an event was added
  pub record Added (p : Pass V E O) (value : V) (q : Pass V E O) : Type 0 where
    pub names : Names p value
    pub sees : sat_of q ≡ sat (having_seen ((known p).seen ++ names.event ∷ []) 0 (known p)) []

-- The pass has seen all events that both had seen, and has the numbers of both. Events that one had not seen are not
-- its own. Both histories begin at one origin. As root the pass knows that no event names a number that was not given
pub record Merged {V E O : Type 0} (number : E → ℕ) (p o q : Pass V E O) : Type 0 where
  pub first : (known q).first ≡ (known p).first
  pub origin : (known q).origin ≡ (known p).origin
  pub origin_other : (known q).origin ≡ (known o).origin
  pub numbers : (known q).numbers ≡ (known p).numbers ++ (known o).numbers
  pub given : (known q).given ≡ (known p).given + (known o).given
  pub longer : ((known q).seen ≡ (known p).seen) ⊎ ((known q).seen ≡ (known o).seen)
  pub later : List E
  pub seen : (known q).seen ≡ (known p).seen ++ later
  pub none : own number (known p).numbers later ≡ []
  pub later_other : List E
  pub seen_other : (known q).seen ≡ (known o).seen ++ later_other
  pub none_other : own number (known o).numbers later_other ≡ []
  pub named : IsRoot q → (k : ℕ) → (known q).given ≤ k → own number (k ∷ []) (known q).seen ≡ []
