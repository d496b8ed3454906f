use Rattle.std.proofs.Common.{◌∷◌, reverse, subst}
use Rattle.std.specs.Prelude.{IfSome}
use Rattle.smarts_parse.specs.Pattern.{graph_of}
use Rattle.path_print.specs.Texts.{IsBitFrom, IsMarked}
use Rattle.path_print.specs.Sheets.{views_of}
use Rattle.path_print.proofs.Sheets.{graph_symmetric}
use Rattle.path_print.proofs.Ways.{end_again, end_sets, end_is_marked, none_from, sets_none}
use Rattle.path_print.proofs.pattern.mark_end.Goals as goal

pub returns-in-None-clause-bits : goal.returns-in-None-clause-bits
returns-in-None-clause-bits c =
    sets_none (IsBitFrom (views_of c.args.sheet.now) (c.args.atom ∷ reverse c.args.path.now.atoms)) c.args.print.now
    c.in-None.ensures.none

pub returns-then-is_again-clause-bits : goal.returns-then-is_again-clause-bits
returns-then-is_again-clause-bits c =
    let s = c.args.sheet.now in
    let step = c.in-Some.ensures.some in
    end_again (views_of s) (graph_symmetric (graph_of s.graph.now)) c.args.path.now c.requires.path c.args.atom
    c.in-Some.step.byte c.in-Some.step.known step.byte step.label c.requires.room c.args.print.now
    (subst (λ o. IfSome o (λ s. IsMarked c.args.path.now s.byte s.known c.args.print.now))
    (c.is_again.ensures c.if-is_again.true) c.requires.marked)

pub returns-in-Some-longer-clause-bits : goal.returns-in-Some-longer-clause-bits
returns-in-Some-longer-clause-bits c =
    let s = c.args.sheet.now in
    let step = c.in-Some.ensures.some in
    end_sets (views_of s) (graph_symmetric (graph_of s.graph.now)) c.args.path.now c.requires.path c.args.atom
    c.in-Some.step.byte c.in-Some.step.known step.byte step.label c.requires.room c.in-Some-longer.longer
    c.in-Some-longer.ensures.value c.in-Some-longer.ensures.new c.args.print.now c.mark.new.print c.mark.ensures.bits

pub returns-in-Some-longer-clause-marked : goal.returns-in-Some-longer-clause-marked
returns-in-Some-longer-clause-marked c =
    end_is_marked c.args.path.now c.args.atom c.in-Some.step.byte c.in-Some.step.known c.in-Some-longer.longer
    c.in-Some-longer.ensures.value c.requires.room c.requires.counted c.args.print.now c.mark.new.print
    c.mark.ensures.bits

pub returns-in-None-longer-clause-bits : goal.returns-in-None-longer-clause-bits
returns-in-None-longer-clause-bits c =
    let s = c.args.sheet.now in
    let step = c.in-Some.ensures.some in
    sets_none (IsBitFrom (views_of s) (c.args.atom ∷ reverse c.args.path.now.atoms)) c.args.print.now
    (none_from (views_of s) (graph_symmetric (graph_of s.graph.now)) c.args.path.now c.requires.path c.args.atom
    c.in-Some.step.byte c.in-Some.step.known step.byte step.label c.in-None-longer.ensures.none)
