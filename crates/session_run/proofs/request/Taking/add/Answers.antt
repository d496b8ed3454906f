use Rattle.std.proofs.Common.{◌∙◌, ◌++◌, [], ◌∷◌, List, false, subst, sym}
use Rattle.io_edge.specs.Lines.{TextLine, Whole}
use Rattle.session_acts.specs.Requests.{IsWhole}
use Rattle.session_run.specs.Underway.{Holds, IsWholeBy}
use Rattle.session_run.specs.declared.request.Next.{Next}
use Rattle.session_run.proofs.Lined.{adds_molfile, adds_records, begins_line, left_some, line_whole, long_whole, records_line, still_left}
use Rattle.session_run.proofs.request.Taking.add.Goals as goal

pub with_line-molfile-requires : goal.with_line-molfile-requires
with_line-molfile-requires c = let h = rw c.in-WithMolfile.is at c.requires.1 in (h.1, h.5)

pub end_record-requires : goal.end_record-requires
end_record-requires c =
    let h = rw c.in-WithRecords.is at c.requires.1 in
    (_, h.2, h.6, left_some h.6 h.0 h.1 h.4 (subst (λ (l : List TextLine). ¬ IsWhole l) h.3 c.requires.2))

pub add_to_record-requires : goal.add_to_record-requires
add_to_record-requires c = let h = rw c.in-WithRecords.is at c.requires.1 in (h.6.tail, h.6.opens)

pub returns-in-End : goal.returns-in-End
returns-in-End c = λ lines h none.
    begins_line c.begin.new.self c.begin.new.text.items c.begin.new.records c.args.line.now c.begin.result lines
    (rw c.in-End.is at h) c.begin.ensures

pub returns-in-Long : goal.returns-in-Long
returns-in-Long c = λ lines h none.
    let e = rw c.in-Long.is at h in
    absurd (none (subst IsWhole (sym e.1) (long_whole e.0)))

pub returns-in-Line : goal.returns-in-Line
returns-in-Line c = λ lines h none.
    let e = rw c.in-Line.is at h in
    absurd (none (subst IsWhole (sym e.1) (line_whole e.0 e.2)))

pub returns-in-WithMolfile : goal.returns-in-WithMolfile
returns-in-WithMolfile c = λ lines h none.
    adds_molfile c.in-WithMolfile.read c.in-WithMolfile.molfile c.with_line-molfile.result c.args.self.now.left
    c.args.self.now.part lines c.args.text.now.items c.with_line-molfile.new.text.items c.args.records.now
    c.args.records.now (Whole c.args.line.now) c.ends_molfile.result none c.ends_molfile.ensures
    (λ more is. c.with_line-molfile.ensures more is) (rw c.in-WithMolfile.is at h)

pub returns-then-is_record_end : goal.returns-then-is_record_end
returns-then-is_record_end c = λ lines h none.
    let new = c.end_record.new.self in
    let all = lines ++ Whole c.args.line.now ∷ [] in
    subst (λ (n : Next). Holds n new.left new.part all c.end_record.new.text.items c.end_record.new.records
    × IsWholeBy c.end_record.result all) (sym (c.end_record.ensures.next ∙ c.in-WithRecords.is))
    (adds_records _ _ c.args.self.now.left new.left c.args.self.now.part new.part lines c.args.text.now.items
    c.end_record.new.text.items c.args.records.now c.end_record.new.records (Whole c.args.line.now) c.end_record.result
    none c.end_record.ensures.all
    (λ more r some. c.end_record.ensures.last _ more (Whole c.args.line.now) r some (sym c.if-is_record_end.ensures))
    (rw c.in-WithRecords.is at h))

pub returns-else-is_record_end : goal.returns-else-is_record_end
returns-else-is_record_end c = λ lines h none.
    let new = c.add_to_record.new.self in
    let held = rw c.in-WithRecords.is at h in
    let some = left_some held.6 held.0 held.1 held.4 (subst (λ (l : List TextLine). ¬ IsWhole l) held.3 none) in
    let both = adds_records _ _ c.args.self.now.left c.args.self.now.left c.args.self.now.part new.part lines
    c.args.text.now.items c.add_to_record.new.text.items c.args.records.now c.args.records.now (Whole c.args.line.now)
    false none (still_left c.args.self.now.left some)
    (λ more r rest. records_line new.part c.add_to_record.new.text.items (Whole c.args.line.now) r rest
    (sym c.if-is_record_end.ensures) c.add_to_record.ensures.more) held in
    rw (c.add_to_record.ensures.next ∙ c.in-WithRecords.is, c.add_to_record.ensures.left) both
