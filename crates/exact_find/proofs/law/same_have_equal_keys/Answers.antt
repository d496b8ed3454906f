use Rattle.exact_find.proofs.Keys.{same-keys}
use Rattle.exact_find.proofs.law.same_have_equal_keys.Goals as goal

pub returns : goal.returns
returns c = same-keys
