use Rattle.std.proofs.Common.{[], Ok}
use Rattle.smarts_parse.specs.Pattern.{pattern_of}
use Rattle.par_search.specs.declared.fault.SearchFault.TheVariants.{NoMemory}
use Rattle.lookup.specs.Fetches.{Looked}
use Rattle.lookup.specs.Lists.{IsHitList}
use Rattle.par_search.proofs.Joined.{makes-none}
use Rattle.lookup.proofs.Listed.{hit-list}
use Rattle.lookup.proofs.Looked.{looked-fault, looked-none, looked-passed, looked-some, looked-unasked, looks-listed, short-anew}
use Rattle.lookup.proofs.hits.find_newer_hits.Goals as goal

pub returns-in_err-matches-clause-looks : goal.returns-in_err-matches-clause-looks
returns-in_err-matches-clause-looks g c =
    let is = IsHitList (pattern_of c.args.pattern.now) in (
      c.need-want.result,
      c.need-want.ensures,
      looked-unasked is c.from_residual.result c.from_residual.ensures.1
          (makes-none g.met.S.Service.stays c.args.service.now),
    )

pub returns-in_err-seen-clause-looks : goal.returns-in_err-seen-clause-looks
returns-in_err-seen-clause-looks g c = (
  c.need-want.result,
  c.need-want.ensures,
  looked-passed (IsHitList (pattern_of c.args.pattern.now)) c.in_err-seen.field-0.0
      c.from_residual-in_err-seen.result c.from_residual-in_err-seen.ensures.1
      (looked-fault c.in_err-seen.ensures.looks),
)

pub returns-in_default-clause-looks : goal.returns-in_default-clause-looks
returns-in_default-clause-looks g c = (
  c.need-want.result,
  c.need-want.ensures,
  looked-none (IsHitList (pattern_of c.args.pattern.now)) (rw c.in_default.is at c.in_ok-seen.ensures.looks),
)

pub returns-in_err-list-clause-looks : goal.returns-in_err-list-clause-looks
returns-in_err-list-clause-looks g c =
    let is = IsHitList (pattern_of c.args.pattern.now) in (
      c.need-want.result,
      c.need-want.ensures,
      looked-passed is NoMemory c.from_residual-in_err-list.result
          (rw c.in_err-list.ensures.fault at c.from_residual-in_err-list.ensures.1)
          (short-anew is (looked-some (rw c.in-Some.is at c.in_ok-seen.ensures.looks))),
    )

pub returns-clause-looks : goal.returns-clause-looks
returns-clause-looks g c =
    let pattern = pattern_of c.args.pattern.now in
    let looks = looked-some (rw c.in-Some.is at c.in_ok-seen.ensures.looks) in (
      c.need-want.result,
      c.need-want.ensures,
      Looked _ (looks-listed looks _ (Ok c.in_ok-list.list) tt
          (λ version records h. (
            h.0,
            hit-list pattern version records c.in-Some.seen c.see_newer.new.visitor.hits (Ok c.in_ok-list.list) h.1.0
                h.1.1 (h.1.2 c.in_ok-matches.matches [] c.in_ok-matches.ensures) c.in_ok-list.ensures.list
                c.in_ok-list.ensures.ascending.0,
          ))),
    )
