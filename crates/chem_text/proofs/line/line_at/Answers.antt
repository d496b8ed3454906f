use Rattle.std.proofs.Common.{ℕ, List, subst}
use Rattle.memchr.specs.Find.{IsFirstByte, is_byte}
use Rattle.std.proofs.Common.{None, Some}
use Rattle.chem_text.proofs.Lines.{slice_from, line_with_lf, last_line}
use Rattle.chem_text.proofs.line.line_at.Goals as goal

pub returns-in-Some-clause-line : goal.returns-in-Some-clause-line
returns-in-Some-clause-line c =
    let found = subst (λ (w : List ℕ). IsFirstByte (is_byte 10) w (Some c.in-Some.length))
    (slice_from c.args.bytes.now c.args.from) c.in-Some.ensures in
    line_with_lf c.args.bytes.now c.args.from c.in-Some.length c.requires found

pub returns-in-None-clause-line : goal.returns-in-None-clause-line
returns-in-None-clause-line c =
    let none = subst (λ (w : List ℕ). IsFirstByte (is_byte 10) w None) (slice_from c.args.bytes.now c.args.from)
    c.in-None.ensures in
    last_line c.args.bytes.now c.args.from c.requires none
