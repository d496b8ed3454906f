use Rattle.session_run.proofs.Viewed.{unwatched_none, unwatched_seen}
use Rattle.session_run.proofs.watches.unwatch.Goals as goal

pub returns-then-remove : goal.returns-then-remove
returns-then-remove c =
    unwatched_seen c.args.name.now c.args.watches.now.watches c.remove.new.self.watches c.remove.result _ _
    c.say.result c.remove.ensures.watched c.if-remove.true c.remove.ensures.watches c.say.ensures

pub returns-else-remove : goal.returns-else-remove
returns-else-remove c =
    unwatched_none c.args.name.now c.args.watches.now.watches c.remove.new.self.watches c.remove.result _ _
    c.say-else-remove.result c.remove.ensures.watched c.if-remove.false c.remove.ensures.watches
    c.say-else-remove.ensures
