use Rattle.smarts_parse.proofs.Complete.{complete}
use Rattle.smarts_parse.proofs.read.is_complete.Goals as goal

pub returns : goal.returns
returns c = complete
