use Rattle.store_disk.proofs.Damaged.{not-both, one-place, some-open}
use Rattle.store_disk.proofs.OnePair.{one-history}
use Rattle.store_disk.proofs.laws.a_store_opens_one_way.Goals as goal

pub returns-clause-one_history : goal.returns-clause-one_history
returns-clause-one_history c =
    one-history c.a_log_reads_one_way.ensures.one_change c.a_base_reads_one_way.ensures.one_entry
    c.a_pair_opens_one_way.ensures.one_history

pub returns-clause-one_place : goal.returns-clause-one_place
returns-clause-one_place c =
    let base = c.a_base_reads_one_way.ensures in
    let log = c.a_log_reads_one_way.ensures in
    one-place base.one_base base.not_both base.one_place log.one_list log.one_place log.not_both

pub returns-clause-not_both : goal.returns-clause-not_both
returns-clause-not_both c =
    let base = c.a_base_reads_one_way.ensures in
    let log = c.a_log_reads_one_way.ensures in
    not-both base.one_base base.not_both base.one_place log.one_list log.one_place log.not_both

pub returns-clause-opens : goal.returns-clause-opens
returns-clause-opens c = λ h g a b o. some-open a b o.opens.read o.opens.picks

pub returns-clause-damaged : goal.returns-clause-damaged
returns-clause-damaged c = λ at a b d. some-open a b d.read d.picks
