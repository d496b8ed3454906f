use Rattle.commit_log.proofs.OneLog.{one_change, one_log, one_place, log_or_damage}
use Rattle.commit_log.proofs.laws.a_log_reads_one_way.Goals as goal

pub returns-clause-one_change : goal.returns-clause-one_change
returns-clause-one_change c = one_change

pub returns-clause-one_list : goal.returns-clause-one_list
returns-clause-one_list c = one_log

pub returns-clause-one_place : goal.returns-clause-one_place
returns-clause-one_place c = one_place

pub returns-clause-not_both : goal.returns-clause-not_both
returns-clause-not_both c = log_or_damage
