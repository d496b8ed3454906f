use Rattle.std.proofs.Common.{◌+◌, ◌-◌, ◌≤◌, length, take, drop, sym, ap, ◌∙◌, arith}
use Rattle.std.proofs.Math.Seq.{take_all, take-length}
use Rattle.std.proofs.lemmas.List.{length-drop}
use Rattle.chem_gen.proofs.Cuts.{place_some, place_none, drop_past}
use Rattle.chem_gen.proofs.summarize.cut.Goals as goal

pub returns-in-Some-clause-before : goal.returns-in-Some-clause-before
returns-in-Some-clause-before c = ap (λ n. take n c.args.text.now)
    (sym (place_some c.args.byte c.in-Some.place c.args.text.now c.in-Some.ensures))

pub returns-in-Some-clause-after : goal.returns-in-Some-clause-after
returns-in-Some-clause-after c =
    let text = c.args.text.now in
    let all : length (drop (c.in-Some.place + 1) text) ≤ length text - (c.in-Some.place + 1) = rw length-drop
    (omega arith) in
    take_all (length text - (c.in-Some.place + 1)) (drop (c.in-Some.place + 1) text) all
    ∙ ap (λ n. drop (n + 1) text) (sym (place_some c.args.byte c.in-Some.place text c.in-Some.ensures))

pub returns-in-None-clause-before : goal.returns-in-None-clause-before
returns-in-None-clause-before c =
    let text = c.args.text.now in
    sym (ap (λ n. take n text) (place_none c.args.byte text c.in-None.ensures) ∙ take-length text)

pub returns-in-None-clause-after : goal.returns-in-None-clause-after
returns-in-None-clause-after c =
    let text = c.args.text.now in
    let place = place_none c.args.byte text c.in-None.ensures in
    take_all (length text - length text) (drop (length text) text) (rw length-drop (omega arith))
    ∙ drop_past (length text) text (omega arith) ∙ sym (drop_past _ text (omega arith))
