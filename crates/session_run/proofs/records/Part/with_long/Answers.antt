use Rattle.std.proofs.Common.{arith, Some}
use Rattle.session_run.proofs.Recorded.{counted_most, long_one}
use Rattle.session_run.proofs.records.Part.with_long.Goals as goal

pub with_bytes-requires : goal.with_bytes-requires
with_bytes-requires c =
    omega (arith, c.bytes.ensures c.requires.0 c.requires.1, counted_most (Some c.requires.0))

pub returns : goal.returns
returns c lines any p =
    long_one lines c.args.size any c.bytes.result c.with_bytes.result (c.bytes.ensures lines p) c.with_bytes.ensures
