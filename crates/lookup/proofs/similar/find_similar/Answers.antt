use Rattle.std.proofs.Common.{[]}
use Rattle.lookup.specs.Lists.{IsSimilarList}
use Rattle.lookup.specs.declared.pages.Seen.{Seen}
use Rattle.lookup.specs.declared.similar.SimilarList.{SimilarList}
use Rattle.par_search.proofs.Joined.{makes-none}
use Rattle.lookup.proofs.Looked.{looks-as, looks-passed, looks-unasked}
use Rattle.lookup.proofs.Offered.{offered-none, similar-list}
use Rattle.lookup.proofs.similar.find_similar.Goals as goal

pub returns-in_err-reserve-clause-looks : goal.returns-in_err-reserve-clause-looks
returns-in_err-reserve-clause-looks g c = (
  c.empty-want.result,
  record { length_is = c.empty-want.ensures.length; none = c.empty-want.ensures.none },
  looks-unasked (IsSimilarList c.args.asked.p c.args.asked.q c.args.asked.k c.args.given.now.print)
      c.from_residual.result c.from_residual.ensures.1 (makes-none g.met.S.Service.stays c.args.service.now),
)

pub returns-in_err-seen-clause-looks : goal.returns-in_err-seen-clause-looks
returns-in_err-seen-clause-looks g c = (
  c.empty-want.result,
  record { length_is = c.empty-want.ensures.length; none = c.empty-want.ensures.none },
  looks-passed (IsSimilarList c.args.asked.p c.args.asked.q c.args.asked.k c.args.given.now.print)
      c.in_err-seen.field-0.0 c.from_residual-in_err-seen.result c.from_residual-in_err-seen.ensures.1
      c.in_err-seen.ensures.looks,
)

pub returns-clause-looks : goal.returns-clause-looks
returns-clause-looks g c =
    let start = c.in_ok-reserve.field-0 in
    let best = c.see_head.new.visitor.best in
    let asked = c.args.asked in (
      c.empty-want.result,
      record { length_is = c.empty-want.ensures.length; none = c.empty-want.ensures.none },
      looks-as c.in_ok-seen.ensures.looks (IsSimilarList asked.p asked.q asked.k c.args.given.now.print)
          (λ (seen : Seen). (let list : SimilarList = record
          { version = seen.version; scored = seen.count; best = best } in list))
          (λ version records seen h.
          similar-list asked.p asked.q asked.k version c.args.given.now.print start records
          (record { version = seen.version; scored = seen.count; best = best }) c.in_ok-reserve.ensures.asked
          (h.2 (record { best = start }) [] (offered-none start c.args.given.now.print c.in_ok-reserve.ensures.none))
          h.0 h.1),
    )
