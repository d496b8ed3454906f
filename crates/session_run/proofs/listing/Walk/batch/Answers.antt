use Rattle.std.proofs.Common.{arith, List, refl, subst, ℕ}
use Rattle.session_run.specs.Made.{Uses}
use Rattle.session_run.specs.Walks.{GoesOn}
use Rattle.session_run.proofs.Batches.{stretch_none}
use Rattle.session_run.proofs.Joined.{uses-none}
use Rattle.session_run.proofs.listing.Walk.batch.Goals as goal

pub returns-then-is_over : goal.returns-then-is_over
returns-then-is_over g c =
    let s = c.args.service.now in
    record {
      tried = 0;
      count = 0;
      goes = stretch_none (Uses g.S.Service s s) c.args.self.now.search _ _ (uses-none g.met.S.Service.stays s) refl;
      tried_is = omega arith;
      hits_is = omega arith;
    }

pub returns-then-is_err : goal.returns-then-is_err
returns-then-is_err g c =
    let s = c.args.service.now in
    record {
      tried = 0;
      count = 0;
      goes = stretch_none (Uses g.S.Service s s) c.args.self.now.search _ _ (uses-none g.met.S.Service.stays s)
          c.reserve.ensures.items;
      tried_is = omega arith;
      hits_is = omega arith;
    }

pub returns : goal.returns
returns g c = record {
  tried = c.list_batch-shown.result.tried;
  count = c.list_batch-shown.result.hits;
  goes = subst
      (λ (out : List ℕ). GoesOn (Uses g.S.Service c.args.service.now c.list_batch-shown.new.service)
      (g.S.Service.worn c.list_batch-shown.new.service) c.args.self.now.search c.list_batch-shown.new.search
      c.list_batch-shown.result.tried c.list_batch-shown.result.hits out c.list_batch-shown.new.out.items
      c.list_batch-shown.result.progress)
      c.reserve.ensures.items c.list_batch-shown.ensures;
  tried_is = omega arith;
  hits_is = omega arith;
}
