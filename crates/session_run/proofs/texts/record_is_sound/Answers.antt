use Rattle.session_run.proofs.Lines.{printed}
use Rattle.session_run.proofs.texts.record_is_sound.Goals as goal

pub returns-clause-print : goal.returns-clause-print
returns-clause-print c =
    printed c.args.entry.now.mol c.args.entry.now.print c.print.result.now c.print.ensures.print c.has.ensures.length
    c.print.ensures.of_structure
