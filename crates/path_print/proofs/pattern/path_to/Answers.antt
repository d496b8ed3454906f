use Rattle.smarts_parse.specs.Pattern.{graph_of}
use Rattle.path_print.specs.Sheets.{views_of}
use Rattle.path_print.proofs.Sheets.{graph_symmetric}
use Rattle.path_print.proofs.Ways.{step_some, step_none}
use Rattle.path_print.proofs.pattern.path_to.Goals as goal

pub returns-clause-some : goal.returns-clause-some
returns-clause-some c =
    let step = c.in_ok-step.ensures.some in
    step_some (views_of c.args.sheet.now) (graph_symmetric (graph_of c.args.sheet.now.graph.now)) c.args.path.now
    c.requires.path c.args.atom c.in_ok-step.step.byte c.in_ok-step.step.known step.byte step.label c.longer.result
    c.longer.ensures.value c.longer.ensures.new c.longer.ensures.room

pub returns-clause-none : goal.returns-clause-none
returns-clause-none c =
    let step = c.in_ok-step.ensures.some in
    step_none (views_of c.args.sheet.now) (graph_symmetric (graph_of c.args.sheet.now.graph.now)) c.args.path.now
    c.requires.path c.args.atom c.in_ok-step.step.byte c.in_ok-step.step.known step.byte step.label c.longer.result
    c.longer.ensures.none
