use Rattle.std.proofs.Common.{◌-◌, length, take, drop, arith}
use Rattle.smiles_words.proofs.Fronts.{front_two}
use Rattle.smarts_words.proofs.Taken.{part_taken, part_refused, prim_shorter}
use Rattle.smarts_words.proofs.prim.prim_at.Goals as goal

pub returns-in_ok-part-in-36-clause-reads : goal.returns-in_ok-part-in-36-clause-reads
returns-in_ok-part-in-36-clause-reads c =
    let bytes = c.args.bytes.now in
    let f = c.in_ok-part-in-36.ensures.found in
    let r = c.recursive.ensures in
    part_taken bytes (take (length bytes - 2) (drop 2 bytes)) c.in_ok-part-in-36.part.now c.in_ok-part-in-36.rest.now
    c.recursive.result.word _ (front_two bytes 36 40 c.in-36.len_at_least (omega arith) (omega arith)) f.0 f.1 r.0
    r.1 c.in_ok-part-in-36.ensures.only

pub returns-in_err-part-in-36-clause-reads : goal.returns-in_err-part-in-36-clause-reads
returns-in_err-part-in-36-clause-reads c =
    let bytes = c.args.bytes.now in
    rw c.from_residual.ensures (part_refused bytes (take (length bytes - 2) (drop 2 bytes)) (front_two bytes
    36 40 c.in-36.len_at_least (omega arith) (omega arith)) c.in_err-part-in-36.ensures.only)

pub returns-in_ok-word-in_default-clause-shorter : goal.returns-in_ok-word-in_default-clause-shorter
returns-in_ok-word-in_default-clause-shorter c =
    let f = c.in_ok-word-in_default.ensures.found in
    prim_shorter f.0 c.in_ok-word-in_default.rest.now c.args.bytes.now f.1.0 f.2
