use Rattle.session_run.proofs.ByName.{added_last}
use Rattle.session_run.proofs.cursors.Cursors.add.Goals as goal

pub returns-clause-added : goal.returns-clause-added
returns-clause-added c =
    added_last c.args.name c.args.walk c.args.self.now.by_name.entries c.insert.new.self.entries c.requires.free
    c.in-Ok.ensures.entries
