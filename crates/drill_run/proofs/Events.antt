-- The events of a run without a crash, and the disk faults among them.
use Rattle.std.proofs.Common.{◌≡◌, ◌+◌, ap, cond, List, [], ◌∷◌, refl, true, ℕ}
use Rattle.std.specs.List.{fold}
use Rattle.store_machine.specs.Runs.{IsCalm, calls_of}
use Rattle.store_machine.specs.declared.machine.Event.{Event}
use Rattle.store_machine.specs.declared.machine.Reply.{Reply}
use Rattle.store_machine.specs.declared.machine.Step.{Step}
use Rattle.drill_core.specs.Faults.{disk_faults, is_disk_fault}
use Rattle.session_acts.specs.Cursors.{Calls}
use Rattle.drill_run.specs.Causes.{faults_in}
use Rattle.drill_run.specs.Runs.{events_of}

-- without a crash all events are calls
pub calm-events : (xs : List Step) → IsCalm xs → calls_of (λ _. true) xs ≡ events_of xs
calm-events [] c = refl
calm-events (x ∷ xs) c = rw c.0 (ap (λ (l : Calls). (x.event, x.reply) ∷ l) (calm-events xs c.1))

faults-from : (n : ℕ) (xs : List Step)
    → fold (λ (k : ℕ) (c : Event × Reply). k + cond (is_disk_fault c.1) 1 0) n (events_of xs)
    ≡ fold (λ (k : ℕ) (x : Step). k + cond (is_disk_fault x.reply) 1 0) n xs
faults-from n [] = refl
faults-from n (x ∷ xs) = faults-from (n + cond (is_disk_fault x.reply) 1 0) xs

-- the disk faults of steps are those of their events
pub same-faults : (xs : List Step) → faults_in (events_of xs) ≡ disk_faults xs
same-faults xs = faults-from 0 xs
