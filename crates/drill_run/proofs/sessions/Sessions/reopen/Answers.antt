use Rattle.std.proofs.Common.{◌∙◌, ap, None, Option, subst, sym, ℕ}
use Rattle.std.specs.Prelude.{Vec}
use Rattle.std.specs.declared.alloc.Global.{Global}
use Rattle.disk_pair.specs.Term.{disk_a, disk_b}
use Rattle.drill_core.specs.Worlds.{left_on}
use Rattle.drill_run.specs.Acts.{reopened_text}
use Rattle.drill_run.specs.Talks.{Answers, WorldTerm}
use Rattle.drill_run.proofs.Answering.{opened-by, said-alone, unopened}
use Rattle.drill_run.proofs.Asked.{at-world}
use Rattle.drill_run.proofs.sessions.Sessions.reopen.Goals as goal

pub returns : goal.returns
returns c = λ line reads.
    let old = c.in-Some.world in
    at-world c.say_version.result c.args.self.now _ c.args.slot.now _ old line
    (sym c.take.ensures.value ∙ c.in-Some.is)
    (λ tally n h small.
    opened-by c.args.self.now _ old line c.args.image tally n h reads c.in_ok-world.world
    (left_on (disk_a old.pair) c.args.image) (left_on (disk_b old.pair) c.args.image) c.in_ok-world.version
    c.in_ok-world.ensures.opens c.in_ok-world.ensures.no_failures c.forget.ensures.number c.forget.ensures.fit
    c.forget.ensures.none c.forget.ensures.settings c.say_version.result
    (said-alone c.say_version.result c.forget.new.self.out.items c.say_version.new.out.items
    (reopened_text c.in_ok-world.version)
    (ap (λ (o : Vec ℕ Global). o.items) c.forget.ensures.out ∙ c.requires.empty) c.say_version.ensures))

pub returns-in_err-world : goal.returns-in_err-world
returns-in_err-world c = λ line reads.
    subst (λ (slot : Option WorldTerm). Answers c.from_residual.result c.args.self.now c.forget.new.self
    c.args.slot.now slot line) (sym c.take.ensures.after)
    (at-world c.from_residual.result c.args.self.now c.forget.new.self c.args.slot.now None c.in-Some.world line
    (sym c.take.ensures.value ∙ c.in-Some.is)
    (λ tally n h small.
    unopened c.args.self.now c.forget.new.self c.in-Some.world line c.args.image tally n h reads
    c.from_residual.result c.from_residual.ensures.0))
