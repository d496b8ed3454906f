use Rattle.std.proofs.Common.{refl}
use Rattle.std.proofs.lemmas.Result.{err_from_is_err_and}
use Rattle.session_run.specs.Made.{Uses}
use Rattle.session_run.proofs.Joined.{uses-none}
use Rattle.session_run.proofs.Pages.{lost_exit, lost_none}
use Rattle.session_run.proofs.listing.Walk.page.Goals as goal

pub returns-in_err-reserve-clause-pages : goal.returns-in_err-reserve-clause-pages
returns-in_err-reserve-clause-pages g c =
    let s = c.args.service.now in
    lost_exit (Uses g.S.Service s s) (g.S.Service.worn s) c.args.self.now.search
    c.args.out.now.items c.reserve.new.self.items c.from_residual.result
    (err_from_is_err_and c.from_residual.result c.from_residual.ensures.1)
    (uses-none g.met.S.Service.stays s) c.reserve.ensures.items

pub returns-then-is_over-clause-pages : goal.returns-then-is_over-clause-pages
returns-then-is_over-clause-pages g c =
    let s = c.args.service.now in
    lost_none (Uses g.S.Service s s) c.args.self.now.search _ _ (uses-none g.met.S.Service.stays s) refl
