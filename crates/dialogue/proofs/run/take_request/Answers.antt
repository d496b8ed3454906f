use Rattle.std.proofs.Common.{◌∙◌, arith}
use Rattle.dialogue.proofs.Taking.{took-fault, took-last, took-line, took-nothing, took-request}
use Rattle.dialogue.proofs.run.take_request.Goals as goal

pub read_line-requires : goal.read_line-requires
read_line-requires g c =
    let h = c.requires.ready in
    let u = c.taking.invariant.taking in
    (h.0, h.1, u.lines, h.2, u.ready h.0 h.1 h.2 h.3, u.part)

pub returns-in-Err-clause-takes : goal.returns-in-Err-clause-takes
returns-in-Err-clause-takes g c =
    let r = c.in-Err.ensures.reads in
    rw r.1 (took-fault c.taking.invariant.taking r.0 c.in-Err.fault r.2)

pub returns-then-begun-clause-takes : goal.returns-then-begun-clause-takes
returns-then-begun-clause-takes g c =
    let r = rw c.in-Ok-None.field-0-is at c.in-Ok-None.ensures.reads in
    rw r.1 (took-last c.taking.invariant.taking r.0 c.if-begun.true r.2 c.in-Ok-None.ensures.progress)

pub returns-else-begun-clause-takes : goal.returns-else-begun-clause-takes
returns-else-begun-clause-takes g c =
    let r = rw c.in-Ok-None.field-0-is at c.in-Ok-None.ensures.reads in
    rw r.1 (took-nothing c.taking.invariant.taking r.0 c.if-begun.false r.2)

pub returns-then-whole-clause-takes : goal.returns-then-whole-clause-takes
returns-then-whole-clause-takes g c =
    let r = rw c.in-Ok-Some.field-0-is at c.in-Ok-Some.ensures.reads in
    let h = c.requires.ready in
    took-request c.taking.invariant.taking r.0 r.2 h.0 h.1 h.2 h.3 r.1 r.3 r.4 c.if-whole.true

pub taking-preserved : goal.taking-preserved
taking-preserved g c =
    let r = rw c.in-Ok-Some.field-0-is at c.in-Ok-Some.ensures.reads in
    let h = c.requires.ready in
    let i = c.taking.invariant in
    record {
      taking = took-line i.taking r.0 r.2 h.0 h.1 h.2 h.3 r.1 r.3 c.if-whole.false;
      limit = c.read_line.ensures.limit ∙ i.limit;
      count = omega (arith, i.count, c.read_line.ensures.count);
    }
