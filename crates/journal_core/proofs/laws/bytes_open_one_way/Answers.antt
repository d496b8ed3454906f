use Rattle.journal_core.proofs.RecordLaws.{one_list, one_break, not_both, opens_header, breaks_header}
use Rattle.journal_core.proofs.laws.bytes_open_one_way.Goals as goal

pub returns-clause-one_list : goal.returns-clause-one_list
returns-clause-one_list c = one_list

pub returns-clause-one_break : goal.returns-clause-one_break
returns-clause-one_break c = one_break

pub returns-clause-not_both : goal.returns-clause-not_both
returns-clause-not_both c = not_both

pub returns-clause-header : goal.returns-clause-header
returns-clause-header c = opens_header

pub returns-clause-broken_header : goal.returns-clause-broken_header
returns-clause-broken_header c = breaks_header
