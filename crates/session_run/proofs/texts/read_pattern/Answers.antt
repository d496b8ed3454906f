use Rattle.session_run.proofs.Lines.{pattern_fault, pattern_read}
use Rattle.session_run.proofs.texts.read_pattern.Goals as goal

pub returns-clause-pattern : goal.returns-clause-pattern
returns-clause-pattern c = pattern_read c.args.text.now c.parse.result c.parse.ensures.reading

pub returns-clause-fault : goal.returns-clause-fault
returns-clause-fault c = pattern_fault c.args.text.now c.parse.result c.parse.ensures.reading
