-- What the table says of recursive parts is so.
use Rattle.std.proofs.Common.{◌∙◌, arith, inl, inr, subst, sym}
use Rattle.std.proofs.lemmas.Bool.{cases_Bool, false≢true}
use Rattle.std.proofs.lemmas.List.{length-map}
use Rattle.smarts_parse.specs.Pattern.{graph_of, pattern_of}
use Rattle.matcher.specs.Parts.{AreNoted}
use Rattle.matcher.specs.Prepared.{ArePartMarks, IsOnlyPart, IsPartRoute}
use Rattle.matcher.proofs.OnlyParts.{only_part_holds, part_read}
use Rattle.matcher.proofs.PartsHeld.{none_of, some_of}
use Rattle.matcher.proofs.answer.matches.Goals as goal

pub returns-then-lacks : goal.returns-then-lacks
returns-then-lacks c = (
  λ t. absurd (false≢true t),
  λ w. absurd (c.requires.prepared.asked c.args.mol.now c.counts.result.now c.counts.ensures w
      (c.lacks.ensures.0 c.if-lacks.true)),
)

pub note_parts-requires-clause-count : goal.note_parts-requires-clause-count
note_parts-requires-clause-count c =
    let only : IsOnlyPart (pattern_of c.args.pattern.now) c.in-Some.part = rw c.in-Some.is at
    c.requires.prepared.only in
    let last = only.0 in
    omega (arith, length-map c.args.pattern.now.recs.items graph_of)

pub part-steps-requires-clause-part : goal.part-steps-requires-clause-part
part-steps-requires-clause-part c =
    let only : IsOnlyPart (pattern_of c.args.pattern.now) c.in-Some.part = rw c.in-Some.is at
    c.requires.prepared.only in
    let last = only.0 in
    omega (arith, length-map c.args.pattern.now.recs.items graph_of)

pub exists-requires-clause-ready : goal.exists-requires-clause-ready
exists-requires-clause-ready c =
    let only : IsOnlyPart (pattern_of c.args.pattern.now) c.in-Some.part = rw c.in-Some.is at
    c.requires.prepared.only in
    c.part-steps.ensures (graph_of c.index.result.now)
    (part_read c.args.pattern.now c.in-Some.part c.index.result.now only c.index.ensures)

pub exists-requires-clause-marks : goal.exists-requires-clause-marks
exists-requires-clause-marks c =
    let p = pattern_of c.args.pattern.now in
    let only : IsOnlyPart p c.in-Some.part = rw c.in-Some.is at c.requires.prepared.only in
    let marks : ArePartMarks p c.args.prepared.now.closing.on_ring.items c.in-Some.part = rw c.in-Some.is at
    c.requires.prepared.part_marks in
    marks (graph_of c.index.result.now)
    (part_read c.args.pattern.now c.in-Some.part c.index.result.now only c.index.ensures)

pub exists-requires-clause-route : goal.exists-requires-clause-route
exists-requires-clause-route c =
    let p = pattern_of c.args.pattern.now in
    let only : IsOnlyPart p c.in-Some.part = rw c.in-Some.is at c.requires.prepared.only in
    let routed : IsPartRoute p c.args.prepared.now.route c.in-Some.part = rw c.in-Some.is at
    c.requires.prepared.part_route in
    routed (graph_of c.index.result.now)
    (part_read c.args.pattern.now c.in-Some.part c.index.result.now only c.index.ensures)

pub returns-in-Some : goal.returns-in-Some
returns-in-Some c =
    let p = pattern_of c.args.pattern.now in
    let g = graph_of c.index.result.now in
    let only : IsOnlyPart p c.in-Some.part = rw c.in-Some.is at c.requires.prepared.only in
    let both = only_part_holds p c.args.mol.now c.args.prepared.now.wanted.classes.items c.in-Some.part g
    c.note_parts.new.memory.table c.requires.sound c.requires.prepared.wanted only.0 only.1
    (part_read c.args.pattern.now c.in-Some.part c.index.result.now only c.index.ensures) c.note_parts.ensures in
    (λ t. both.0 (c.exists.ensures.0 t), λ w. c.exists.ensures.1 (both.1 w))

pub returns-in-None : goal.returns-in-None
returns-in-None c =
    let p = pattern_of c.args.pattern.now in
    let m = c.args.mol.now in
    let table = c.note_parts-in-None.new.memory.table in
    let wanted = c.args.prepared.now.wanted.classes.items in
    let noted = subst (λ n. AreNoted p.recs m wanted n table)
    (omega (arith, length-map c.args.pattern.now.recs.items graph_of, c.args.pattern.now.recs.ok.0))
    c.note_parts-in-None.ensures in (
      λ t. some_of p m wanted table c.requires.sound c.requires.prepared.wanted noted (c.exists-in-None.ensures.0 t),
      λ w. elim (cases_Bool c.exists-in-None.result) [
        | inl yes' ↦ yes'
        | inr no' ↦ absurd (none_of p m wanted table c.requires.sound c.requires.prepared.wanted noted
            (λ k. false≢true (sym no' ∙ c.exists-in-None.ensures.1 k)) w)
      ],
    )
