use Rattle.std.proofs.Common.{Err, Ok, refl}
use Rattle.io_edge.specs.Lines.{Whole}
use Rattle.io_edge.specs.declared.lines.Line.TheVariants.{End, Long, Text}
use Rattle.dialogue.proofs.Taking.{reads-on}
use Rattle.dialogue.proofs.run.read_line.Goals as goal

pub returns-in-Err-clause-reads : goal.returns-in-Err-clause-reads
returns-in-Err-clause-reads g c =
    let e = c.in-Err.ensures in
    (reads-on e.bytes.0 e.bytes.1 e.bytes.2 e.met e.ended (Err c.in-Err.fault) e.bytes.3, refl, e.awaits)

pub returns-in-Ok-End-clause-reads : goal.returns-in-Ok-End-clause-reads
returns-in-Ok-End-clause-reads g c =
    let e = c.in-Ok-End.ensures in
    let b = rw c.in-Ok-End.field-0-is at e.bytes in
    (reads-on b.0 b.1 b.2 e.met e.ended (Ok End) b.3, refl, e.end (rw c.in-Ok-End.field-0-is refl))

pub returns-in-Ok-Text-clause-reads : goal.returns-in-Ok-Text-clause-reads
returns-in-Ok-Text-clause-reads g c =
    let e = c.in-Ok-Text.ensures in
    let b = rw c.in-Ok-Text.field-0-is at e.bytes in (
      Whole c.next_line.new.self.text,
      reads-on b.0 b.1 b.2 e.met e.ended (Ok Text) b.3,
      rw c.text.ensures at c.add.ensures,
      (rw c.in-Ok-Text.field-0-is at e.rises),
      refl,
    )

pub returns-in-Ok-Long-clause-reads : goal.returns-in-Ok-Long-clause-reads
returns-in-Ok-Long-clause-reads g c =
    let e = c.in-Ok-Long.ensures in
    let b = rw c.in-Ok-Long.field-0-is at e.bytes in (
      _,
      reads-on b.0 b.1 b.2 e.met e.ended (Ok (Long c.in-Ok-Long.size)) b.3,
      c.add_long.ensures,
      (rw c.in-Ok-Long.field-0-is at e.rises),
      (rw c.in-Ok-Long.field-0-is at e.no_text),
    )
