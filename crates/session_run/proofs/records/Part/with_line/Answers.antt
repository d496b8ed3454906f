use Rattle.std.proofs.Common.{◌≡◌, ◌+◌, ◌++◌, [], ◌∷◌, arith, length, subst, sym, ℕ}
use Rattle.io_edge.specs.Lines.{Whole}
use Rattle.session_run.specs.Taken.{IsPart}
use Rattle.session_run.specs.declared.records.Part.TheVariants as parts
use Rattle.session_run.proofs.Recorded.{big_more, long_more, part_few, lost_big, lost_more, part_big, part_lost, part_text}
use Rattle.session_run.proofs.records.Part.with_line.Goals as goal

pub returns-then-size : goal.returns-then-size
returns-then-size c lines p =
    let size : c.len.result ≡ length c.args.text.now.items = omega (arith, c.len.ensures) in
    part_big lines c.args.line.now c.args.text.now.items c.args.text.now.items (rw c.in-Text.is at p)
    (omega (arith, size, c.if-size.true))

pub returns-then-size-2 : goal.returns-then-size-2
returns-then-size-2 c lines p =
    lost_big lines c.args.line.now c.args.text.now.items c.args.text.now.items c.in-Lost.size (rw c.in-Lost.is at p)
    (omega (arith, c.if-size-2.true))

pub returns-in-Ok : goal.returns-in-Ok
returns-in-Ok c lines p =
    let size : c.len.result ≡ length c.args.text.now.items = omega (arith, c.len.ensures) in
    part_text lines c.args.line.now c.args.text.now.items c.push_line.new.text.items (rw c.in-Text.is at p)
    c.in-Ok.ensures (omega (arith, size, c.if-size.false))

pub returns-in-Err : goal.returns-in-Err
returns-in-Err c lines p =
    let size : c.len.result ≡ length c.args.text.now.items = omega (arith, c.len.ensures) in
    subst (λ (n : ℕ). IsPart (parts.Lost (n + length c.args.line.now + 1)) (lines ++ Whole c.args.line.now ∷ [])
    c.push_line.new.text.items) (sym size)
    (part_lost lines c.args.line.now c.args.text.now.items c.push_line.new.text.items (rw c.in-Text.is at p)
    (omega (arith, size, c.if-size.false)))

pub returns-else-size-2 : goal.returns-else-size-2
returns-else-size-2 c lines p =
    lost_more lines c.args.line.now c.args.text.now.items c.args.text.now.items c.in-Lost.size (rw c.in-Lost.is at p)
    (omega (arith, c.if-size-2.false))

pub returns-in-Long : goal.returns-in-Long
returns-in-Long c lines p =
    long_more lines c.args.line.now c.args.text.now.items c.args.text.now.items c.in-Long.size _ (rw c.in-Long.is at p)
    c.with_bytes.ensures

pub with_bytes-requires : goal.with_bytes-requires
with_bytes-requires c =
    part_few (parts.Long c.in-Long.size) c.requires.0 c.args.text.now.items (rw c.in-Long.is at c.requires.1)

pub returns-in-Big : goal.returns-in-Big
returns-in-Big c lines p =
    big_more lines c.args.line.now c.args.text.now.items c.args.text.now.items (rw c.in-Big.is at p)
