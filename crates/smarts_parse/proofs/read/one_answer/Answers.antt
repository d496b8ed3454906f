use Rattle.smarts_parse.proofs.OneAnswer.{one_answer}
use Rattle.smarts_parse.proofs.read.one_answer.Goals as goal

pub returns : goal.returns
returns c = one_answer
