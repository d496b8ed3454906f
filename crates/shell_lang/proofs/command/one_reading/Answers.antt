use Rattle.shell_lang.proofs.OneCommand.{same_reading}
use Rattle.shell_lang.proofs.command.one_reading.Goals as goal

pub returns : goal.returns
returns c = same_reading
