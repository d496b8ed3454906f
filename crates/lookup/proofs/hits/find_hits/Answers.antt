use Rattle.std.proofs.Common.{[]}
use Rattle.smarts_parse.specs.Pattern.{pattern_of}
use Rattle.lookup.specs.Lists.{IsHitList}
use Rattle.par_search.proofs.Joined.{makes-none}
use Rattle.lookup.proofs.Listed.{hit-list}
use Rattle.lookup.proofs.Looked.{looks-listed, looks-passed, looks-unasked}
use Rattle.lookup.proofs.hits.find_hits.Goals as goal

pub returns-in_err-matches-clause-looks : goal.returns-in_err-matches-clause-looks
returns-in_err-matches-clause-looks g c = (
  c.need-want.result,
  c.need-want.ensures,
  looks-unasked (IsHitList (pattern_of c.args.pattern.now)) c.from_residual.result c.from_residual.ensures.1
      (makes-none g.met.S.Service.stays c.args.service.now),
)

pub returns-in_err-seen-clause-looks : goal.returns-in_err-seen-clause-looks
returns-in_err-seen-clause-looks g c = (
  c.need-want.result,
  c.need-want.ensures,
  looks-passed (IsHitList (pattern_of c.args.pattern.now)) c.in_err-seen.field-0.0 c.from_residual-in_err-seen.result
      c.from_residual-in_err-seen.ensures.1 c.in_err-seen.ensures.looks,
)

pub returns-clause-looks : goal.returns-clause-looks
returns-clause-looks g c = (
  c.need-want.result,
  c.need-want.ensures,
  looks-listed c.in_ok-seen.ensures.looks (IsHitList (pattern_of c.args.pattern.now)) c.list_of.result
      c.list_of.ensures.fault
      (λ version records h. hit-list (pattern_of c.args.pattern.now) version records c.in_ok-seen.seen
      c.see_head.new.visitor.hits c.list_of.result h.0 h.1 (h.2 c.in_ok-matches.matches [] c.in_ok-matches.ensures)
      c.list_of.ensures.list c.list_of.ensures.ascending.0),
)
