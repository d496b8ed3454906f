use Rattle.std.proofs.Common.{◌∙◌, ap, sym}
use Rattle.session_acts.specs.Records.{counted}
use Rattle.session_run.proofs.records.part_bytes.Goals as goal

pub returns-in-Some : goal.returns-in-Some
returns-in-Some c r p =
    let is = rw c.in-Some.is at p in
    c.bytes.ensures is.0 is.2 ∙ ap counted (sym is.1)
