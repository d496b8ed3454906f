use Rattle.smarts_parse.proofs.Recursive.{parts_hold}
use Rattle.smarts_parse.proofs.law.parts_hold.Goals as goal

pub returns : goal.returns
returns c = parts_hold
