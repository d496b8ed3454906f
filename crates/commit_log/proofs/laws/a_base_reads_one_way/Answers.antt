use Rattle.commit_log.proofs.OneBase.{base_or_damage, one_base, one_damage}
use Rattle.commit_log.proofs.OneEntry.{one_entry}
use Rattle.commit_log.proofs.laws.a_base_reads_one_way.Goals as goal

pub returns-clause-one_entry : goal.returns-clause-one_entry
returns-clause-one_entry c = one_entry

pub returns-clause-one_base : goal.returns-clause-one_base
returns-clause-one_base c = one_base

pub returns-clause-one_place : goal.returns-clause-one_place
returns-clause-one_place c = one_damage

pub returns-clause-not_both : goal.returns-clause-not_both
returns-clause-not_both c = base_or_damage
