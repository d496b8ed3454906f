use Rattle.std.proofs.lemmas.Option.{slice_get-get_or}
use Rattle.ring_find.proofs.Labels.{taken-same, taken-more}
use Rattle.ring_find.proofs.bridges.take.Goals as goal

pub returns-in_default : goal.returns-in_default
returns-in_default c = λ _.
    let at = slice_get-get_or c.args.ends.now c.args.place (0, 0) c.requires.place in
    taken-same c.args.ends.now c.args.labels.now c.args.taken.now c.args.place _ _ at
    (rw (c.from.ensures, c.from-2.ensures) at c.in_default.ensures) c.requires.taken

pub returns : goal.returns
returns c = λ _.
    let at = slice_get-get_or c.args.ends.now c.args.place (0, 0) c.requires.place in
    let high = rw (c.from.ensures, c.from-2.ensures, ← c.from-high.ensures) at c.in-Some.ensures in
    taken-more c.args.ends.now c.args.labels.now c.args.taken.now c.args.place _ _ c.from-high.result at high
    c.if-high-taken.false c.if-taken-high.false c.requires.taken
