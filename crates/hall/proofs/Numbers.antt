-- The calls of a pass's numbers.
use Rattle.std.proofs.Common.{◌≡◌, ◌&&◌, ap, arith, Bool, false, if◌then◌else◌, length, List, [], ◌∷◌, refl, true, ℕ}
use Rattle.store_machine.specs.Runs.{calls_of, is_call}
use Rattle.store_machine.specs.declared.machine.Event.{Event}
use Rattle.store_machine.specs.declared.machine.Reply.{Reply}
use Rattle.store_machine.specs.declared.machine.Step.{Step}
use Rattle.turn_gate.specs.Numbers.{has, own}
use Rattle.hall.specs.Passes.{by}

rest_by : (b : Bool) (x : Step) (xs : List Step) → (if b then x ∷ xs else xs) ≡ [] → xs ≡ []
rest_by true x xs h = let n = ap length h in absurd (omega arith)
rest_by false x xs h = h

none_by : (b d : Bool) (x : Step) (xs : List Step) (c : Event × Reply) (cs : List (Event × Reply))
    → (if b then x ∷ xs else xs) ≡ [] → cs ≡ [] → (if d && b then c ∷ cs else cs) ≡ []
none_by true d x xs c cs h e = let n = ap length h in absurd (omega arith)
none_by false true x xs c cs h e = e
none_by false false x xs c cs h e = e

-- numbers that name no event of a part have no call in it
pub no-calls : (ns : List ℕ) (xs : List Step) → own by ns xs ≡ [] → calls_of (has ns) xs ≡ []
no-calls ns [] h = refl
no-calls ns (x ∷ xs) h = none_by (has ns x.owner) (is_call x.event) x (own by ns xs) (x.event, x.reply)
    (calls_of (has ns) xs) h (no-calls ns xs (rest_by (has ns x.owner) x (own by ns xs) h))
