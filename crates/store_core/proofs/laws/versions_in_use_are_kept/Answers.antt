use Rattle.store_core.proofs.Copied.{copied-kept, used-kept}
use Rattle.store_core.proofs.laws.versions_in_use_are_kept.Goals as goal

pub returns-clause-used : goal.returns-clause-used
returns-clause-used c = used-kept

pub returns-clause-copied : goal.returns-clause-copied
returns-clause-copied c = copied-kept
