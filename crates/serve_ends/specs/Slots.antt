-- For private clauses alone: an end with its pass, as it is cut off, served and joined.
use Rattle.std.specs.Prelude.{◌≡◌, ◌+◌, List, [], ◌∷◌, Some, ℕ}
use Rattle.io_edge.specs.declared.sinks.Sink as put
use Rattle.io_edge.specs.declared.sources.Source as taken
use Rattle.session_run.specs.declared.settings.Settings.{Settings}
use Rattle.store_machine.specs.Runs.{calls_of}
use Rattle.store_machine.specs.declared.machine.State.{State}
use Rattle.store_machine.specs.declared.machine.Step.{Step}
use Rattle.turn_gate.specs.Numbers.{has}
use Rattle.turn_gate.specs.Steps.{given_to}
use Rattle.turn_gate.specs.declared.known.Known.{Known}
use Rattle.hall.specs.Desks.{IsWorn, Stretches}
use Rattle.hall.specs.Passes.{IsOf, Merged, known}
use Rattle.hall.specs.declared.hall.Hall.{Hall}
use Rattle.hall.specs.declared.hall.HallPass.{HallPass}
use Rattle.hall.specs.declared.kept.Kept.{Kept}
use Rattle.hall.specs.declared.kept.Origin.{Origin}
use Rattle.serve_ends.specs.Ends.{EndServed}
use Rattle.serve_ends.specs.declared.slot.Slot.{Slot}
use Rattle.serve_ends.specs.declared.status.TheConstants.{WORN}

-- the knowledge of a pass of a hall
abbrev pub Sight : Type 0 → Type 0
Sight D = Known (Kept D) Step (Origin D)

-- the knowledge of the root pass, once n passes more were split off
abbrev pub splits : {D : Type 0} → ℕ → Sight D → Sight D
splits n v = record v { given = v.given + n }

module _ {D S K : Type 0} (hall : Hall D) where
  -- its pass is there, of this hall
  pub record CanServe (slot : Slot D S K) : Type 0 where
    pub pass : HallPass D
    pub is : slot.pass ≡ Some pass
    pub of : IsOf hall pass

  -- its pass is of this hall, and was split off after n others
  pub record IsCut (root : Sight D) (n : ℕ) (slot : Slot D S K) : Type 0 where
    pub pass : HallPass D
    pub is : slot.pass ≡ Some pass
    pub of : IsOf hall pass
    pub knows : known pass ≡ given_to (splits n root)

  -- the passes of the slots are joined to a pass, one after another
  abbrev pub Joins : List (Slot D S K) → HallPass D → HallPass D → Type 0
  Joins [] p q = q ≡ p
  Joins (slot ∷ slots) p q =
      (o r : HallPass D) × (slot.pass ≡ Some o) × IsOf hall p × IsOf hall r × Merged p o r × Joins slots r q

-- Its pass made a stretch at a desk, in which the end was served by the pass's own calls. It is worn only if the pass
-- has seen an event for each turn of its hall
pub record WasServed {D S K : Type 0} (source : taken.Ghosts S) (sink : put.Ghosts K) (settings : Settings)
    (hall : Hall D) (before after : Slot D S K) : Type 0 where
  pub old : HallPass D
  pub new : HallPass D
  pub was : before.pass ≡ Some old
  pub is : after.pass ≡ Some new
  pub of : IsOf hall new
  pub from : State
  pub steps : List Step
  pub to : State
  pub stretch : Stretches old new from steps to
  pub served : EndServed source sink settings before.served after.served (calls_of (has (known old).numbers) steps)
  pub worn : after.served.status ≡ WORN → IsWorn new
