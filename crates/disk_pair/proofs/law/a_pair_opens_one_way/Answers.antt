use Rattle.disk_pair.proofs.OnePair.{first_text, one_history, second_text, some_pick}
use Rattle.disk_pair.proofs.law.a_pair_opens_one_way.Goals as goal

pub returns-clause-one_history : goal.returns-clause-one_history
returns-clause-one_history c = one_history

pub returns-clause-some : goal.returns-clause-some
returns-clause-some c = some_pick

pub returns-clause-first : goal.returns-clause-first
returns-clause-first c = first_text

pub returns-clause-second : goal.returns-clause-second
returns-clause-second c = second_text
