use Rattle.smarts_parse.proofs.OneWhole.{one_whole}
use Rattle.smarts_parse.proofs.read.one_tree.Goals as goal

pub returns : goal.returns
returns c = one_whole
