-- A session at a desk, as an end's.
use Rattle.std.proofs.Common.{◌≡◌, ◌∙◌, ap, arith, refl, Some, subst, sym, ℕ}
use Rattle.io_edge.specs.declared.sinks.Sink as put
use Rattle.io_edge.specs.declared.sources.Source as taken
use Rattle.session_acts.specs.Cursors.{Calls, Makes}
use Rattle.dialogue.specs.declared.end.EndStatus.{EndStatus}
use Rattle.dialogue.specs.declared.end.EndStatus.TheVariants as status
use Rattle.session_run.specs.declared.settings.Settings.{Settings}
use Rattle.turn_gate.specs.Numbers.{has}
use Rattle.hall.specs.declared.desk.Desk.{Desk}
use Rattle.hall.specs.declared.hall.Hall.{Hall}
use Rattle.hall.specs.declared.hall.HallPass.{HallPass}
use Rattle.hall.specs.Desks.{IsAt, IsWorn, Stretches, pass_of}
use Rattle.hall.specs.Passes.{IsOf, known}
use Rattle.hall.proofs.Turning.{is-at}
use Rattle.serve_ends.specs.Ends.{EndServed}
use Rattle.serve_ends.specs.Slots.{CanServe, WasServed}
use Rattle.serve_ends.specs.Status.{IsStatusOf}
use Rattle.serve_ends.specs.declared.slot.Slot.{Slot}
use Rattle.serve_ends.specs.declared.status.TheConstants.{WORN}

-- one status is that of a worn service
pub worn-from : (ended : EndStatus) (n : ℕ) → IsStatusOf ended n → n ≡ WORN → ended ≡ status.Worn
worn-from status.Done n is e = absurd (omega (arith, is, e))
worn-from status.SourceFault n is e = absurd (omega (arith, is, e))
worn-from status.SinkFault n is e = absurd (omega (arith, is, e))
worn-from status.NoMemory n is e = absurd (omega (arith, is, e))
worn-from status.InputTooLong n is e = absurd (omega (arith, is, e))
worn-from status.Worn n is e = refl

-- the pass of a slot is of the hall
pub of-there : {D S K : Type 0} (hall : Hall D) (slot : Slot D S K) (p : HallPass D) → CanServe hall slot
    → slot.pass ≡ Some p → IsOf hall p
of-there hall slot p can is = let same : can.pass ≡ p = cc (can.is, is) in subst (IsOf hall) same can.of

-- the pass sat at a desk, which it left
pub was-served : {R D S K : Type 0} (source : taken.Ghosts S) (sink : put.Ghosts K) (settings : Settings)
    (hall : Hall D) (before after : Slot D S K) (a b : Desk R D) (q : HallPass D) (calls : Calls)
    → before.pass ≡ Some (pass_of a) → after.pass ≡ Some q → q ≡ pass_of b → IsOf hall (pass_of a)
    → Makes {S = Desk R D} (λ d. IsAt (pass_of d)) (λ d. has (known (pass_of d)).numbers)
    (λ x y. Stretches (pass_of x) (pass_of y)) a b calls
    → EndServed source sink settings before.served after.served calls
    → (after.served.status ≡ WORN → IsWorn (pass_of b)) → WasServed source sink settings hall before after
was-served source sink settings hall before after a b q calls was is left of makes served worn =
    let at = is-at hall (pass_of a) of in
    let one = makes.made at.0 at.1 in
    record {
      old = pass_of a;
      new = pass_of b;
      was = was;
      is = is ∙ ap (λ (p : HallPass _). Some p) left;
      of = one.stands.stays.of hall of;
      from = at.0;
      steps = one.steps;
      to = one.after;
      stretch = one.stands;
      served = subst (λ (cs : Calls). EndServed source sink settings before.served after.served cs) (sym one.own)
          served;
      worn = worn;
    }
