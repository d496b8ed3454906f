use Rattle.smarts_parse.specs.Embedding.{PartsHold}
use Rattle.path_print.proofs.Truths.{label_is_so, byte_is_so}
use Rattle.path_print.proofs.law.implied_is_so.Goals as goal

pub returns-clause-atoms : goal.returns-clause-atoms
returns-clause-atoms c = λ recs n family e m. label_is_so (PartsHold recs m n) family e m

pub returns-clause-bonds : goal.returns-clause-bonds
returns-clause-bonds c = byte_is_so
