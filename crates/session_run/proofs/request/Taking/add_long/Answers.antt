use Rattle.std.proofs.Common.{◌++◌, [], ◌∷◌, List, Some, ap, false, refl, subst, sym}
use Rattle.io_edge.specs.Lines.{TextLine, TooLong}
use Rattle.session_acts.specs.Requests.{IsWhole}
use Rattle.session_run.proofs.Lined.{adds_molfile, adds_records, false_is_not_true, left_some, line_whole, long_whole, records_line, some_line, still_left}
use Rattle.session_run.proofs.request.Taking.add_long.Goals as goal

pub with_long-molfile-requires : goal.with_long-molfile-requires
with_long-molfile-requires c = let h = rw c.in-WithMolfile.is at c.requires.1 in (h.1, h.5)

pub with_long-requires : goal.with_long-requires
with_long-requires c =
    let h = rw c.in-WithRecords.is at c.requires.1 in
    (h.6.tail, c.so_far.ensures h.6.tail c.args.text.now h.6.opens)

pub returns-in-End : goal.returns-in-End
returns-in-End c = λ lines h none.
    let e = ap (λ (l : List TextLine). l ++ TooLong c.args.size ∷ []) (rw c.in-End.is at h) in
    ((c.args.size, e), subst IsWhole (sym e) (long_whole c.args.size))

pub returns-in-Long : goal.returns-in-Long
returns-in-Long c = λ lines h none.
    let e = rw c.in-Long.is at h in
    absurd (none (subst IsWhole (sym e.1) (long_whole e.0)))

pub returns-in-Line : goal.returns-in-Line
returns-in-Line c = λ lines h none.
    let e = rw c.in-Line.is at h in
    absurd (none (subst IsWhole (sym e.1) (line_whole e.0 e.2)))

pub returns-in-WithMolfile : goal.returns-in-WithMolfile
returns-in-WithMolfile c = λ lines h none.
    adds_molfile c.in-WithMolfile.read c.in-WithMolfile.molfile c.with_long-molfile.result c.args.self.now.left
    c.args.self.now.part lines c.args.text.now c.args.text.now c.args.records.now c.args.records.now
    (TooLong c.args.size) false none (λ f. absurd (false_is_not_true f), λ last. absurd last)
    (λ more is. c.with_long-molfile.ensures more c.args.text.now is) (rw c.in-WithMolfile.is at h)

pub returns-in-WithRecords : goal.returns-in-WithRecords
returns-in-WithRecords c = λ lines h none.
    let held = rw c.in-WithRecords.is at h in
    let some = left_some held.6 held.0 held.1 held.4 (subst (λ (l : List TextLine). ¬ IsWhole l) held.3 none) in
    rw c.in-WithRecords.is (adds_records _ _ c.args.self.now.left c.args.self.now.left c.args.self.now.part
    (Some c.with_long.result) lines c.args.text.now c.args.text.now c.args.records.now c.args.records.now
    (TooLong c.args.size) false none (still_left c.args.self.now.left some)
    (λ more r rest. records_line (Some c.with_long.result) c.args.text.now (TooLong c.args.size) r rest refl
    (λ tail o. (
      some_line tail (TooLong c.args.size) [],
      c.with_long.ensures tail c.args.text.now (c.so_far.ensures tail c.args.text.now o),
    ))) held)
