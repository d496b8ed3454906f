use Rattle.std.proofs.Common.{[]}
use Rattle.lookup.specs.Lists.{IsSameList}
use Rattle.lookup.specs.declared.pages.Seen.{Seen}
use Rattle.lookup.specs.declared.hits.HitList.{HitList}
use Rattle.par_search.proofs.Joined.{makes-none}
use Rattle.lookup.proofs.Looked.{looks-as, looks-passed, looks-unasked, looks-want}
use Rattle.lookup.proofs.same.find_same.Goals as goal

pub returns-in_err-sames-clause-looks : goal.returns-in_err-sames-clause-looks
returns-in_err-sames-clause-looks g c =
    looks-unasked (IsSameList c.args.given.now.mol) c.from_residual.result c.from_residual.ensures.1
    (makes-none g.met.S.Service.stays c.args.service.now)

pub returns-in_err-seen-clause-looks : goal.returns-in_err-seen-clause-looks
returns-in_err-seen-clause-looks g c =
    looks-want c.print.result.now c.args.given.now.print c.print.ensures.print
    (looks-passed (IsSameList c.args.given.now.mol) c.in_err-seen.field-0.0 c.from_residual-in_err-seen.result
    c.from_residual-in_err-seen.ensures.1 c.in_err-seen.ensures.looks)

pub returns-clause-looks : goal.returns-clause-looks
returns-clause-looks g c =
    let hits = c.see_head.new.visitor.hits in
    looks-want c.print.result.now c.args.given.now.print c.print.ensures.print
    (looks-as c.in_ok-seen.ensures.looks (IsSameList c.args.given.now.mol)
    (λ (seen : Seen). (let list : HitList = record
    { version = seen.version; tried = seen.count; hits = hits } in list))
    (λ version records seen h. record {
      version_is = h.0;
      tried = h.1;
      hits = (h.2 c.in_ok-sames.sames [] c.in_ok-sames.ensures.none).hits_are;
    }))
