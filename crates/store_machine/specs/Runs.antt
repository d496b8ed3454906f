-- A run is a list of steps, each from where the one before it ended.
use Rattle.std.specs.Prelude.{Bool, ◌≡◌, ◌&&◌, ◌++◌, List, [], ◌∷◌, false, if◌then◌else◌, true, ℕ}
use Rattle.store_machine.specs.Machine.{Gives}
use Rattle.store_machine.specs.declared.machine.Event.{Event}
use Rattle.store_machine.specs.declared.machine.Event.TheVariants.{Crash, Open}
use Rattle.store_machine.specs.declared.machine.Reply.{Reply}
use Rattle.store_machine.specs.declared.machine.State.{State}
use Rattle.store_machine.specs.declared.machine.Step.{Step}

abbrev pub IsStep : Step → Type 0
IsStep x = Gives x.before x.owner x.event x.reply x.after

abbrev pub IsRun : State → List Step → State → Type 0
IsRun s [] s' = s' ≡ s
IsRun s (x ∷ xs) s' = (x.before ≡ s) × IsStep x × IsRun x.after xs s'

-- Crash and Open have no owner
abbrev pub is_call : Event → Bool
is_call Crash = false
is_call Open = false
is_call _ = true

-- there is no Crash and no Open
abbrev pub IsCalm : List Step → Type 0
IsCalm [] = Unit {0}
IsCalm (x ∷ xs) = (is_call x.event ≡ true) × IsCalm xs

-- the calls of one caller with their replies, in order. A caller may have several numbers
abbrev pub is_own : (ℕ → Bool) → Step → Bool
is_own own x = is_call x.event && own x.owner

abbrev pub calls_of : (ℕ → Bool) → List Step → List (Event × Reply)
calls_of own [] = []
calls_of own (x ∷ xs) = if is_own own x then (x.event, x.reply) ∷ calls_of own xs else calls_of own xs

-- a run goes on from the state in which another ended
abbrev pub RunsJoin : Type 0
RunsJoin = (xs ys : List Step) (s t u : State) → IsRun s xs t → IsRun t ys u → IsRun s (xs ++ ys) u

abbrev pub CalmsJoin : Type 0
CalmsJoin = (xs ys : List Step) → IsCalm xs → IsCalm ys → IsCalm (xs ++ ys)
