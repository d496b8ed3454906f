use Rattle.std.proofs.Common.{◌∙◌, sym}
use Rattle.session_run.proofs.Lined.{next_by}
use Rattle.session_run.proofs.request.Taking.finish.Goals as goal

pub fill-requires : goal.fill-requires
fill-requires c = let h = rw c.in-WithRecords.is at c.requires.1 in (_, h.2, h.6)

pub returns-in-WithRecords : goal.returns-in-WithRecords
returns-in-WithRecords c = λ lines line h asked.
    next_by c.args.self.next c.args.self.left c.args.self.part lines c.args.text.now c.args.records.now
    c.fill.new.records line h asked (λ count read more is r. c.fill.ensures count more r)

pub returns-in-End : goal.returns-in-End
returns-in-End c = λ lines line h asked.
    next_by c.args.self.next c.args.self.left c.args.self.part lines c.args.text.now c.args.records.now
    c.args.records.now line h asked (λ count read more is r. absurd (let e = sym c.in-End.is ∙ is in cc))

pub returns-in-Long : goal.returns-in-Long
returns-in-Long c = λ lines line h asked.
    next_by c.args.self.next c.args.self.left c.args.self.part lines c.args.text.now c.args.records.now
    c.args.records.now line h asked (λ count read more is r. absurd (let e = sym c.in-Long.is ∙ is in cc))

pub returns-in-Line : goal.returns-in-Line
returns-in-Line c = λ lines line h asked.
    next_by c.args.self.next c.args.self.left c.args.self.part lines c.args.text.now c.args.records.now
    c.args.records.now line h asked (λ count read more is r. absurd (let e = sym c.in-Line.is ∙ is in cc))

pub returns-in-WithMolfile : goal.returns-in-WithMolfile
returns-in-WithMolfile c = λ lines line h asked.
    next_by c.args.self.next c.args.self.left c.args.self.part lines c.args.text.now c.args.records.now
    c.args.records.now line h asked (λ count read more is r. absurd (let e = sym c.in-WithMolfile.is ∙ is in cc))
