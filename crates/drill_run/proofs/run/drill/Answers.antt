use Rattle.std.proofs.Common.{[]}
use Rattle.dialogue.proofs.Turning.{ends-none, served-none}
use Rattle.store_core.specs.Stored.{empty}
use Rattle.drill_run.specs.TalkLaws.{runs-none}
use Rattle.drill_run.specs.Talking.{begun, drills}
use Rattle.drill_run.proofs.Closing.{made-runs}
use Rattle.drill_run.proofs.run.drill.Goals as goal

pub returns-in_default-clause-drills : goal.returns-in_default-clause-drills
returns-in_default-clause-drills g c = (
  [],
  runs-none c.args.world _ (λ s at. tt),
  served-none drills (begun c.args.settings.now.page) (g.I.Source.left c.args.source.now)
      (g.O.Sink.written c.args.sink.now),
)

pub returns-in_default-clause-ends : goal.returns-in_default-clause-ends
returns-in_default-clause-ends g c =
    ends-none g.I.Source g.O.Sink c.args.settings.now.input_limit c.args.source.now c.args.sink.now

pub talk-requires-clause-ready : goal.talk-requires-clause-ready
talk-requires-clause-ready g c = (
  begun c.args.settings.now.page,
  c.in-Ok.ensures c.args.world (empty c.requires.new.0) c.requires.new.1 c.requires.no_failures,
)

pub returns-clause-drills : goal.returns-clause-drills
returns-clause-drills g c =
    let t = c.talk.ensures.serves (begun c.args.settings.now.page)
    (c.in-Ok.ensures c.args.world (empty c.requires.new.0) c.requires.new.1 c.requires.no_failures) in
    (t.calls, made-runs c.args.world c.talk.new.peer t.calls t.made, t.served)

pub talk-requires-clause-answers : goal.talk-requires-clause-answers
talk-requires-clause-answers g c = record {
  takes = λ x p line kept lines n ready asked small.
      ((kept, lines, n, ready, asked), (record { shared = c.type_bounds.sync-R.shared }, record { shared = c.type_bounds.sync-M.shared }));
  gives = λ x p line kept lines n ready asked small answer x' p' post. post kept lines n ready asked small;
}
