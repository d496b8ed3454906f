-- Calls of one caller in stretches that follow each other.
use Rattle.std.proofs.Common.{◌≡◌, ◌++◌, ◌∙◌, ap₂, List, [], refl, sym, ℕ}
use Rattle.store_core.specs.declared.service.Service as meaning
use Rattle.store_machine.specs.Runs.{IsCalm, IsRun}
use Rattle.store_machine.specs.declared.machine.State.{State}
use Rattle.store_machine.specs.declared.machine.Step.{Step}
use Rattle.store_machine.proofs.Joins.{calls-append, calls-same}
use Rattle.par_search.specs.Fetches.{Calls, Makes}

module _ {S : Type 0} {of : meaning.Ghosts S} where
  -- no call
  pub makes-none : ((a : S) (s : State) → of.at a s → of.stretch a a s [] s) → (a : S) → Makes of a a []
  makes-none stays a = record {
    made = λ s here. record { steps = []; after = s; stands = stays a s here; own = refl };
  }

  -- calls that follow calls
  pub makes-more : ((a b c : S) (s t u : State) (xs ys : List Step) → of.stretch a b s xs t → of.stretch b c t ys u
      → of.stretch a c s (xs ++ ys) u)
      → ((a b : S) (s t : State) (xs : List Step) → of.stretch a b s xs t → of.at b t × IsRun s xs t × IsCalm xs)
      → ((a b : S) (s t : State) (xs : List Step) (n : ℕ) → of.stretch a b s xs t → of.owns b n ≡ of.owns a n)
      → {a b c : S} {calls more : Calls} → Makes of a b calls → Makes of b c more → Makes of a c (calls ++ more)
  makes-more joins lands same {a} {b} {c} {calls} {more} first next = record {
    made = λ s here.
        let k = first.made s here in
        let m = next.made k.after (lands a b s k.after k.steps k.stands).0 in
        record {
          steps = k.steps ++ m.steps;
          after = m.after;
          stands = joins a b c s k.after m.after k.steps m.steps k.stands m.stands;
          own = calls-append (of.owns a) k.steps m.steps
              ∙ ap₂ (λ xs ys. xs ++ ys) k.own
              (calls-same (of.owns b) (of.owns a) (λ n. sym (same a b s k.after k.steps n k.stands)) m.steps ∙ m.own);
        };
  }
