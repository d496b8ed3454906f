use Rattle.store_machine.proofs.KeptRead.{kept-is-read}
use Rattle.store_machine.proofs.laws.kept_is_read.Goals as goal

pub returns : goal.returns
returns c = kept-is-read
