use Rattle.molfile_read.proofs.Readings.{one}
use Rattle.molfile_read.proofs.read.one_reading.Goals as goal

pub returns : goal.returns
returns c = one
