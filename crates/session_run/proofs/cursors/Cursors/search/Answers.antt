use Rattle.std.proofs.Common.{[], inr, refl, subst, sym}
use Rattle.shell_lang.specs.Reply.{reply_of}
use Rattle.smarts_parse.specs.Pattern.{pattern_of}
use Rattle.smarts_parse.specs.declared.pattern.Pattern.{Pattern}
use Rattle.session_acts.specs.Acts.{MaySearch}
use Rattle.session_acts.specs.Texts.{IsPatternOf}
use Rattle.session_run.proofs.Ending.{searched_from}
use Rattle.session_run.proofs.Joined.{uses-more, uses-none}
use Rattle.session_run.proofs.Lines.{pattern_refused, said, unbegun}
use Rattle.session_run.proofs.cursors.Cursors.search.Goals as goal

pub returns-in-Err : goal.returns-in-Err
returns-in-Err g c cursors =
    said [] (reply_of c.refuse_pattern.result) c.say.result (uses-none g.met.S.Service.stays c.args.service.now)
    (pattern_refused (MaySearch c.args.text.now) c.args.text.now c.in-Err.fault _ tt (λ f h. h) c.in-Err.ensures.fault
    c.refuse_pattern.ensures) c.say.ensures

pub list-requires-clause-held : goal.list-requires-clause-held
list-requires-clause-held g c _ _ = (c.in-Ok-begin.ensures.begins.pins.now _ _).1 (inr (refl, refl))

pub returns-in-Ok-begin : goal.returns-in-Ok-begin
returns-in-Ok-begin g c cursors =
    let begun = c.in-Ok-begin.ensures.begun in
    searched_from (λ xs ys a b. uses-more g.met.S.Service.joins g.met.S.Service.lands g.met.S.Service.same a b)
    c.args.text.now c.in-Ok-begin.walk.search
    (subst (λ (p : Pattern). IsPatternOf c.args.text.now (pattern_of p)) (sym begun.pattern_is) c.in-Ok.ensures.pattern)
    begun.size_is c.in-Ok-begin.ensures.begins c.list.ensures

pub returns-in-Err-begin : goal.returns-in-Err-begin
returns-in-Err-begin g c cursors =
    unbegun c.in-Err-begin.fault c.fault_line.result c.say_given.result
    (refl, pattern_of c.in-Ok.pattern, c.in-Ok.ensures.pattern) tt c.in-Err-begin.ensures.begins c.fault_line.ensures
    c.say_given.ensures
