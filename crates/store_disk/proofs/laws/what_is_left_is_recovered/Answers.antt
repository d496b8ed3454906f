use Rattle.std.proofs.Common.{inl}
use Rattle.store_disk.proofs.OnDisks.{shown-left}
use Rattle.store_disk.proofs.laws.what_is_left_is_recovered.Goals as goal

pub returns-clause-left : goal.returns-clause-left
returns-clause-left c = shown-left

pub returns-clause-recovered : goal.returns-clause-recovered
returns-clause-recovered c = λ s h generation left. inl left
