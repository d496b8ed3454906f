use Rattle.std.proofs.Common.{inl, inr, ◌<◌, ◌+◌, ◌^◌, drop, ◌∙◌, arith}
use Rattle.journal_core.proofs.LookLaws.{looks_twice}
use Rattle.journal_core.proofs.Tail.{no_length, no_payload, whole}
use Rattle.journal_core.proofs.window.Window.payload_at.Goals as goal
use Rattle.journal_core.proofs.window.Window.payload_at.Goals.{then-len-at-via-then-len-at, then-len-at-via-else-len-at+then-len-at-lt4, then-size-gt-LONGEST_PAYLOAD-via-then-size-gt-LONGEST_PAYLOAD, then-size-gt-LONGEST_PAYLOAD-via-else-size-gt-LONGEST_PAYLOAD+then-len-at-2}

pub returns-then-len-at-clause-found : goal.returns-then-len-at-clause-found
returns-then-len-at-clause-found g c l told =
    let len = c.requires.len l told in
    no_length l c.args.at (elim c.then-len-at.branch [
      | then-len-at-via-then-len-at w ↦ omega (arith, len, w.if-len-at.true)
      | then-len-at-via-else-len-at+then-len-at-lt4 w ↦
          omega (arith, len, w.if-len-at.false, w.if-len-at-lt4.true)
    ])

pub returns-then-size-gt-LONGEST_PAYLOAD-clause-found : goal.returns-then-size-gt-LONGEST_PAYLOAD-clause-found
returns-then-size-gt-LONGEST_PAYLOAD-clause-found g c l told =
    let n = c.in_ok-size.field-0 in
    let len = c.requires.len l told in
    let fits : n < 2 ^ 32 = omega arith in
    no_payload l c.args.at n fits (c.in_ok-size.ensures.number l told) (elim c.then-size-gt-LONGEST_PAYLOAD.branch [
      | then-size-gt-LONGEST_PAYLOAD-via-then-size-gt-LONGEST_PAYLOAD w ↦
          inl (omega (arith, w.if-size-gt-LONGEST_PAYLOAD.true))
      | then-size-gt-LONGEST_PAYLOAD-via-else-size-gt-LONGEST_PAYLOAD+then-len-at-2 w ↦
          inr (omega (arith, len, c.if-len-at.false, c.if-len-at-lt4.false, w.if-len-at-2.true))
    ])

pub returns-in_err-copy_at-clause-looks : goal.returns-in_err-copy_at-clause-looks
returns-in_err-copy_at-clause-looks g c =
    looks_twice g.D.Disk.model g.met.D.Disk.parts c.args.disk.now c.number_at.new.disk c.copy_at.new.disk
    c.in_ok-size.ensures.looks c.in_err-copy_at.ensures.looks

pub returns-clause-found : goal.returns-clause-found
returns-clause-found g c l told =
    let n = c.in_ok-size.field-0 in
    let at = c.args.at in
    let bytes = c.in_ok-copy_at.ensures.bytes l (c.in_ok-size.ensures.looks.narrows.same ∙ told) in (
      drop n (drop (at + 4) l),
      whole l at n c.in_ok-copy_at.field-0.items (c.in_ok-size.ensures.number l told) c.in_ok-copy_at.ensures.count
          bytes,
      omega (arith, c.in_ok-copy_at.ensures.count, c.if-size-gt-LONGEST_PAYLOAD.false),
    )

pub returns-clause-looks : goal.returns-clause-looks
returns-clause-looks g c =
    looks_twice g.D.Disk.model g.met.D.Disk.parts c.args.disk.now c.number_at.new.disk c.copy_at.new.disk
    c.in_ok-size.ensures.looks c.in_ok-copy_at.ensures.looks
