use Rattle.std.proofs.Common.{◌≡◌, length, Some, sym}
use Rattle.session_acts.specs.Records.{counted}
use Rattle.session_run.specs.declared.records.Part.TheVariants as parts
use Rattle.session_run.proofs.Recorded.{part_counts}
use Rattle.session_run.proofs.records.Part.bytes.Goals as goal

pub returns-in-Text : goal.returns-in-Text
returns-in-Text c lines p =
    let e : counted (Some lines) ≡ length c.args.text.now = part_counts parts.Text lines c.args.text.now (rw c.in-Text.is at p) in
    sym e

pub returns-in-Long : goal.returns-in-Long
returns-in-Long c lines p = sym (part_counts (parts.Long c.in-Long.size) lines c.args.text.now (rw c.in-Long.is at p))

pub returns-in-Big : goal.returns-in-Big
returns-in-Big c lines p = sym (part_counts parts.Big lines c.args.text.now (rw c.in-Big.is at p))

pub returns-in-Lost : goal.returns-in-Lost
returns-in-Lost c lines p = sym (part_counts (parts.Lost c.in-Lost.size) lines c.args.text.now (rw c.in-Lost.is at p))
