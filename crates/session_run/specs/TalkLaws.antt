-- For private clauses alone: the laws of a session as what talks.
use Rattle.std.specs.Prelude.{◌≡◌, ◌++◌, ℕ, List, []}
use Rattle.std.proofs.Common.{ap, subst, sym}
use Rattle.io_edge.specs.Lines.{TextLine}
use Rattle.par_search.specs.Fetches.{Makes}
use Rattle.par_search.proofs.Held.{not_raised-more, not_raised-same}
use Rattle.par_search.proofs.Joined.{makes-more, makes-none}
use Rattle.session_acts.specs.Cursors.{Calls, Cursor}
use Rattle.session_acts.specs.Pins.{AreHeld}
use Rattle.session_acts.specs.Talking.{Kept}
use Rattle.session_acts.proofs.Held.{moves-more, moves-none}
use Rattle.store_core.specs.declared.service.Service as meaning
use Rattle.store_machine.specs.Runs.{IsCalm, IsRun}
use Rattle.store_machine.specs.declared.machine.State.{State}
use Rattle.store_machine.specs.declared.machine.Step.{Step}
use Rattle.session_run.specs.Made.{Uses}
use Rattle.session_run.specs.Talks.{CanClose, IsTalking}
use Rattle.session_run.specs.declared.talker.Talker.{Talker}

module _ {S : Type 0} {of : meaning.Ghosts S} where
  -- no call
  pub uses-none : ((a : S) (s : State) → of.at a s → of.stretch a a s [] s) → (a : S) → Uses of a a []
  uses-none stays a =
      let none : Makes of a a [] = makes-none stays a in
      record {
        makes = record { made = none.made };
        pins = moves-none (of.holds a);
        bounds = not_raised-same (of.bounds a);
      }

  -- calls that follow calls
  pub uses-more : ((a b c : S) (s t u : State) (xs ys : List Step) → of.stretch a b s xs t → of.stretch b c t ys u
      → of.stretch a c s (xs ++ ys) u)
      → ((a b : S) (s t : State) (xs : List Step) → of.stretch a b s xs t → of.at b t × IsRun s xs t × IsCalm xs)
      → ((a b : S) (s t : State) (xs : List Step) (n : ℕ) → of.stretch a b s xs t → of.owns b n ≡ of.owns a n)
      → {a b c : S} {calls more : Calls} → Uses of a b calls → Uses of b c more → Uses of a c (calls ++ more)
  uses-more joins lands same {a} {b} {c} {calls} {more} first next =
      let one : Makes of a b calls = record { made = first.makes.made } in
      let two : Makes of b c more = record { made = next.makes.made } in
      let both : Makes of a c (calls ++ more) = makes-more joins lands same one two in
      record {
        makes = record { made = both.made };
        pins = moves-more (of.holds a) (of.holds b) (of.holds c) calls more first.pins next.pins;
        bounds = not_raised-more (of.bounds a) (of.bounds b) (of.bounds c) first.bounds next.bounds;
      }

  pub made_more : ((a b c : S) (s t u : State) (xs ys : List Step) → of.stretch a b s xs t → of.stretch b c t ys u
      → of.stretch a c s (xs ++ ys) u)
      → ((a b : S) (s t : State) (xs : List Step) → of.stretch a b s xs t → of.at b t × IsRun s xs t × IsCalm xs)
      → ((a b : S) (s t : State) (xs : List Step) (n : ℕ) → of.stretch a b s xs t → of.owns b n ≡ of.owns a n)
      → (a b c : S) (xs ys : Calls) → Uses of a b xs → Uses of b c ys → Uses of a c (xs ++ ys)
  made_more joins lands same a b c xs ys first next = uses-more joins lands same first next

  pub closable : (talker : Talker) (service : S) (kept : Kept) (lines : List TextLine)
      → IsTalking of talker service kept lines → CanClose of talker service kept
  closable talker service kept lines h =
      let cursors_are = ap (λ (k : Kept). k.standing.cursors) h.kept_is in record {
        cursors_are = cursors_are;
        held = subst (λ (l : List Cursor). AreHeld (of.holds service) l) (sym cursors_are) h.ready.held;
      }
