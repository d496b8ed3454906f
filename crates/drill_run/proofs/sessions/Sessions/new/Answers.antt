use Rattle.std.proofs.Common.{◌≡◌, List, add-one, ap, arith, subst, sym, suc, ℕ}
use Rattle.disk_pair.specs.Term.{disk_a, disk_b}
use Rattle.session_acts.specs.Pins.{AreHeld}
use Rattle.session_run.specs.declared.respond.Responder.{Responder}
use Rattle.store_core.specs.Stored.{HoldsPin}
use Rattle.drill_run.specs.Acts.{AllKept, all_of}
use Rattle.drill_run.specs.Causes.{nothing_set}
use Rattle.drill_run.specs.Talking.{all_empty}
use Rattle.drill_run.specs.Views.{kept_in}
use Rattle.drill_run.proofs.Making.{AreNew, keeps-none, new-more, new-none, session-new}
use Rattle.drill_run.proofs.Tallies.{tally-new}
use Rattle.drill_run.proofs.sessions.Sessions.new.Goals as goal

pub loop-init : goal.loop-init
loop-init c = rw c.new-responders.ensures.items (new-none c.args.settings)

pub loop-preserved : goal.loop-preserved
loop-preserved c =
    let responder = c.in_ok-responder.responder in
    subst (λ (n : ℕ). AreNew c.args.settings n c.push.new.self.items) (sym (add-one c.loop.counter))
    (subst (λ (l : List Responder). AreNew c.args.settings (suc c.loop.counter) l) (sym c.in_ok-push.ensures.items)
    (new-more c.args.settings c.loop.counter c.loop.responders.items responder c.loop.invariant
    (session-new c.args.settings responder c.requires.servable c.in_ok-responder.ensures.settings
    c.in_ok-responder.ensures.none)
    (keeps-none responder c.in_ok-responder.ensures.none c.in_ok-responder.ensures.unwatched)))

pub returns : goal.returns
returns c = λ world s stands unset.
    let all : c.loop.counter ≡ 16 = omega arith in
    let none : kept_in c.loop.responders.items ≡ all_empty = rw all at c.loop.invariant.none in
    record {
      kept_is = ap (λ (l : AllKept). record { page = c.args.settings.page; all = l; tally = nothing_set }) (sym none);
      ready = record {
        state = s;
        stands = stands;
        number = rw all at c.loop.invariant.number;
        fit = c.loop.invariant.fit;
        held = subst (λ (l : AllKept). AreHeld (HoldsPin world.memory) (all_of l)) (sym none) tt;
        tallied = tally-new (disk_a world.pair).failures (disk_b world.pair).failures unset.0 unset.1;
        few = omega arith;
      };
      taken = tt;
    }
