use Rattle.std.proofs.Common.{◌∷◌, reverse, ap, sym, subst}
use Rattle.std.specs.Prelude.{All}
use Rattle.smarts_parse.specs.Pattern.{graph_of}
use Rattle.path_print.specs.Texts.{IsOn, IsBitFrom}
use Rattle.path_print.specs.Sheets.{IsAtom, views_of}
use Rattle.path_print.proofs.Sheets.{graph_symmetric}
use Rattle.path_print.proofs.Grown.{all_turned}
use Rattle.path_print.proofs.Ways.{longer_on, none_from, sets_none}
use Rattle.path_print.proofs.pattern.mark_two.Goals as goal

pub returns-in-None-clause-bits : goal.returns-in-None-clause-bits
returns-in-None-clause-bits c =
    sets_none (IsBitFrom (views_of c.args.sheet.now) (c.args.atom ∷ reverse c.args.path.now.atoms)) c.args.print.now
    c.in-None.ensures.none

pub walk-requires-clause-path : goal.walk-requires-clause-path
walk-requires-clause-path c =
    let s = c.args.sheet.now in
    let step = c.in-Some.ensures.some in
    subst (IsOn (views_of s)) (sym c.in-Some-longer.ensures.value)
    (longer_on (views_of s) (graph_symmetric (graph_of s.graph.now)) c.args.path.now c.requires.path c.args.atom
    c.in-Some.step.byte c.in-Some.step.known step.byte step.label c.in-Some-longer.ensures.new
    c.in-Some-longer.ensures.room)

pub walk-requires-clause-atoms : goal.walk-requires-clause-atoms
walk-requires-clause-atoms c =
    let s = c.args.sheet.now in
    subst (All (IsAtom s)) (sym (ap (λ p. p.atoms) c.in-Some-longer.ensures.value))
    (all_turned (IsAtom s) c.args.path.now.atoms c.args.atom c.requires.atoms c.requires.atom)

pub returns-in-None-longer-clause-bits : goal.returns-in-None-longer-clause-bits
returns-in-None-longer-clause-bits c =
    let s = c.args.sheet.now in
    let step = c.in-Some.ensures.some in
    sets_none (IsBitFrom (views_of s) (c.args.atom ∷ reverse c.args.path.now.atoms)) c.args.print.now
    (none_from (views_of s) (graph_symmetric (graph_of s.graph.now)) c.args.path.now c.requires.path c.args.atom
    c.in-Some.step.byte c.in-Some.step.known step.byte step.label c.in-None-longer.ensures.none)
