-- For callers: passes of a hall, and the effects of its calls on them.
use Rattle.std.specs.Prelude.{◌≡◌, ◌⊎◌, ◌≤◌, ◌^◌, ◌↔◌, Bool, [], ◌∷◌, length, true, ℕ}
use Rattle.disk_edge.specs.Disk.{DiskModel}
use Rattle.store_machine.specs.Machine.{Holds}
use Rattle.store_machine.specs.Runs.{IsCalm, IsRun}
use Rattle.store_machine.specs.declared.machine.Step.{Step}
use Rattle.store_disk.specs.OnDisk.{StandsFor, StoreTerm}
use Rattle.store_disk.specs.Stored.{Stretches}
use Rattle.turn_gate.specs.Numbers.{has}
use Rattle.turn_gate.specs.Passes as gate
use Rattle.turn_gate.specs.declared.known.Known.{Known}
use Rattle.hall.specs.declared.hall.Hall.{Hall}
use Rattle.hall.specs.declared.hall.HallPass.{HallPass}
use Rattle.hall.specs.declared.kept.Kept.{Kept}
use Rattle.hall.specs.declared.kept.Origin.{Origin}
use Rattle.hall.specs.Histories.{IsStart, after}

-- an event of the history is a step of the machine
abbrev pub by : Step → ℕ
by x = x.owner

module _ {D : Type 0} where
  -- The knowledge of a pass: its numbers, the events that it has seen, and the number of the hall's turns. The root
  -- pass also knows the number of given numbers.
  abbrev pub known : HallPass D → Known (Kept D) Step (Origin D)
  known p = gate.known p.pass

  abbrev pub IsOf : Hall D → HallPass D → Type 0
  IsOf h p = gate.IsOf h.gate p.pass

  -- its hall's history begins there
  abbrev pub IsFrom : Origin D → HallPass D → Type 0
  IsFrom origin p = gate.IsFrom origin p.pass

  abbrev pub IsRoot : HallPass D → Type 0
  IsRoot p = gate.IsRoot p.pass

  abbrev pub IsWhole : HallPass D → Type 0
  IsWhole p = gate.IsWhole p.pass

  -- one of the pass's numbers took the pin, and by the events that the pass has seen it was not given back
  pub record HoldsPin (p : HallPass D) (slot version : ℕ) : Type 0 where
    pub origin : Origin D
    pub of : IsFrom origin p
    pub owner : ℕ
    pub own : has (known p).numbers owner ≡ true
    pub held : Holds (after origin.state (known p).seen) slot owner version

  -- The events that the pass has seen are a run without a crash from the start of its hall's history. There is at most
  -- one for each of the hall's turns. It is so of the first pass, and stays so at desks, by splits and by joins
  pub record Runs (p : HallPass D) : Type 0 where
    pub origin : Origin D
    pub of : IsFrom origin p
    pub run : IsRun origin.state (known p).seen (after origin.state (known p).seen)
    pub calm : IsCalm (known p).seen
    pub within : length (known p).seen ≤ (known p).turns

module _ {D : Type 0} (model : DiskModel D) where
  -- the first pass: the history begins with the given store, at a state of it at which no pin was held. If the store
  -- was just opened, this is as after an opening
  pub record Begins (store : StoreTerm D) (opened : Bool) (p : HallPass D) : Type 0 where
    pub origin : Origin D
    pub of : IsFrom origin p
    pub store_is : origin.store ≡ store
    pub opened_is : origin.opened ≡ opened
    pub stands : StandsFor model store origin.state
    pub start : IsStart opened origin.state
    pub seen : (known p).seen ≡ []
    pub numbers : (known p).numbers ≡ 0 ∷ []
    pub given : (known p).given ≡ 1
    pub turns : (known p).turns ≡ 2 ^ 63

  -- the whole history is a stretch of the store on its disks, from the store that was given to the one that comes back
  pub record Ends (p : HallPass D) (store : StoreTerm D) : Type 0 where
    pub origin : Origin D
    pub of : IsFrom origin p
    pub start : IsStart origin.opened origin.state
    pub stretch : Stretches model origin.store store origin.state (known p).seen
        (after origin.state (known p).seen)

module _ {D : Type 0} where
  -- the pass has seen all events that both had seen, and has the numbers of both
  abbrev pub Merged : HallPass D → HallPass D → HallPass D → Type 0
  Merged p o q = gate.Merged by p.pass o.pass q.pass

  -- and the pins of both, if the events that it has seen are a run
  abbrev pub HasBoth : HallPass D → HallPass D → HallPass D → Type 0
  HasBoth p o q =
      (origin : Origin D) → IsFrom origin q
      → IsRun origin.state (known q).seen (after origin.state (known q).seen) → IsCalm (known q).seen
      → (slot version : ℕ) → HoldsPin q slot version ↔ (HoldsPin p slot version ⊎ HoldsPin o slot version)

  -- the pass holds no pin, if no pin is held as its hall's history begins, and the events that it has seen are a run
  abbrev pub HoldsNone : HallPass D → Type 0
  HoldsNone p =
      (origin : Origin D) → IsFrom origin p → origin.state.pins ≡ []
      → IsRun origin.state (known p).seen (after origin.state (known p).seen) → IsCalm (known p).seen
      → (slot version : ℕ) → HoldsPin p slot version → ⊥
