use Rattle.std.proofs.Common.{◌∙◌}
use Rattle.chem_gen.proofs.Cuts.{version_yes, version_no}
use Rattle.chem_gen.proofs.summarize.version.Goals as goal

pub loop-rest-preserved-in-Some : goal.loop-rest-preserved-in-Some
loop-rest-preserved-in-Some c =
    version_yes c.loop-rest.version.now c.loop-rest.rest.now c.cut.result.0.now c.cut.result.1.now c.in-Some.number.now
    c.cut.ensures.before c.cut.ensures.after c.in-Some.ensures.0 c.in-Some.ensures.1
    ∙ c.loop-rest.invariant

pub loop-rest-preserved : goal.loop-rest-preserved
loop-rest-preserved c =
    version_no c.loop-rest.version.now c.loop-rest.rest.now c.cut.result.0.now c.cut.result.1.now c.cut.ensures.before
    c.cut.ensures.after c.in_default.ensures
    ∙ c.loop-rest.invariant
