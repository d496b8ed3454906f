use Rattle.std.proofs.Common.{◌<◌, ◌/◌, length, arith}
use Rattle.chem_core.proofs.Prints.{bits_of-set}
use Rattle.screen_index.proofs.rows.set_bit.Goals as goal

pub returns-clause-value : goal.returns-clause-value
returns-clause-value c =
    let within : c.args.bit / 64 < length c.args.words.now = omega arith in
    rw c.from.ensures (bits_of-set c.args.words.now c.args.bit within)
