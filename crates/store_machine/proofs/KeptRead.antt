-- What is kept of an identifier, read at a version in use, is its state there.
use Rattle.std.proofs.Common.{◌≡◌, ◌<◌, ◌≤◌, ◌∙◌, arith, Contains, MatchOption, None, Option, refl, Some, sym, true, ℕ}
use Rattle.std.specs.FinMap.{get}
use Rattle.store_machine.specs.History.{made_at, snapshot}
use Rattle.store_machine.specs.declared.machine.Status.{Status}
use Rattle.store_machine.specs.Kept.{in_use}
use Rattle.store_machine.specs.Laws.{IsSound, KeptIsRead}
use Rattle.store_machine.specs.Made.{IsKept}
use Rattle.store_machine.specs.declared.machine.State.{State}
use Rattle.store_machine.proofs.Kept.{in_use-past}
use Rattle.store_machine.proofs.Made.{Since, made-before, snapshot-made}
use Rattle.store_machine.proofs.Pushed.{made-same}

later : (v version : ℕ) → (version ≤ v → ⊥) → v < version
later v version late = grind (arith, late)

not-none : (now : Option Status) (version : ℕ) → now ≡ None → Since version now → ⊥
not-none now version e since = never since.0 (sym e ∙ since.1)
  where
    never : (status : Status) → None ≡ Some status → ⊥
    never status q = cc

same-made : (now : Option Status) (status : Status) (version : ℕ) → now ≡ Some status → Since version now
    → version ≤ made_at status
same-made now status version e since =
    omega (arith, made-same status since.0 (sym e ∙ since.1), since.2)

pub read : (s : State) (v id : ℕ) (now : Option Status) → get (snapshot s.history v) id ≡ now → IsSound s
    → s.serves ≡ true → Contains (in_use s) v
    → MatchOption now ((version : ℕ) → IsKept s id version → v < version)
    (λ status. IsKept s id (made_at status) × (made_at status ≤ v)
    × ((version : ℕ) → IsKept s id version → version ≤ v → version ≤ made_at status))
read s v id None e sound serves used = λ version kept. later v version
    (λ le. not-none _ version e (made-before s.history v id version sound.history (sound.made serves _ kept) le))
read s v id (Some status) e sound serves used = (
  sound.kept serves (record { id = id; version = made_at status })
      (record { at = v; used = used; status = status; state = e; made = refl }),
  (snapshot-made s.history v id status sound.history (in_use-past s v sound.pins sound.bases used).0 e).1,
  λ version kept le. same-made _ status version e
      (made-before s.history v id version sound.history (sound.made serves _ kept) le),
)

pub kept-is-read : KeptIsRead
kept-is-read s v id sound serves used = read s v id _ refl sound serves used
