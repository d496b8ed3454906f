use Rattle.std.proofs.Common.{sym, ◌∙◌}
use Rattle.chem_gen.proofs.Cuts.{ending_yes, ending_no}
use Rattle.chem_gen.proofs.summarize.next_ending.Goals as goal

pub returns-then-is_search_end : goal.returns-then-is_search_end
returns-then-is_search_end c =
    sym c.loop-rest.invariant
    ∙ ending_yes c.loop-rest.rest.now c.cut.result.0.now c.cut.result.1.now c.cut.ensures.before c.cut.ensures.after
    (sym c.is_search_end.ensures ∙ c.if-is_search_end.true)

pub loop-rest-preserved : goal.loop-rest-preserved
loop-rest-preserved c =
    sym (ending_no c.loop-rest.rest.now c.cut.result.0.now c.cut.result.1.now c.cut.ensures.before c.cut.ensures.after
    (sym c.is_search_end.ensures ∙ c.if-is_search_end.false))
    ∙ c.loop-rest.invariant
