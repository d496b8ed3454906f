use Rattle.commit_log.proofs.OneLog.{is_read}
use Rattle.commit_log.proofs.laws.a_written_log_is_read.Goals as goal

pub returns : goal.returns
returns c = is_read
