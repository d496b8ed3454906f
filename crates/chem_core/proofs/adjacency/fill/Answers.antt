use Rattle.std.proofs.Common.{◌≡◌, length, sym, take, arith}
use Rattle.std.proofs.lemmas.List.{get_or-set_other, take_all}
use Rattle.std.proofs.lemmas.Option.{slice_get-get_or}
use Rattle.chem_core.proofs.StepsFilled.{both_room, filled-all, filled-none, filled-step}
use Rattle.chem_core.proofs.adjacency.fill.Goals as goal

pub add-requires-clause-room : goal.add-requires-clause-room
add-requires-clause-room c =
    let at = slice_get-get_or c.args.ends.now c.loop-place.place (0, 0) c.loop-place-test.true in
    (both_room _ _ _ _ _ _ c.requires.graph at c.loop-place.invariant).3

pub add-requires-in-loop-place-clause-room : goal.add-requires-in-loop-place-clause-room
add-requires-in-loop-place-clause-room c =
    let at = slice_get-get_or c.args.ends.now c.loop-place.place (0, 0) c.loop-place-test.true in
    let both = both_room _ _ _ _ _ _ c.requires.graph at c.loop-place.invariant in
    rw (c.add.ensures, get_or-set_other _ _ _ _ _ (λ e. both.2 (sym e))) both.4

pub loop-place-init : goal.loop-place-init
loop-place-init c = filled-none _ _ c.requires.none

pub loop-place-preserved : goal.loop-place-preserved
loop-place-preserved c =
    let at = slice_get-get_or c.args.ends.now c.loop-place.place (0, 0) c.loop-place-test.true in
    rw (c.add-in-loop-place.ensures, c.add.ensures)
    (filled-step _ _ _ _ _ _ c.requires.graph at c.loop-place.invariant)

pub returns : goal.returns
returns c =
    let ends = c.args.ends.now in
    let all : take c.loop-place.place ends ≡ ends = take_all c.loop-place.place ends (omega arith) in
    filled-all ends (length c.args.lists.now) _ c.requires.graph (rw all at c.loop-place.invariant)
