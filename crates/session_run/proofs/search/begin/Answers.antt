use Rattle.std.proofs.Common.{refl}
use Rattle.session_run.proofs.Joined.{start_worn, unstarted}
use Rattle.session_run.proofs.search.begin.Goals as goal

pub returns-in-Ok-clause-begins : goal.returns-in-Ok-clause-begins
returns-in-Ok-clause-begins g c =
    let s = c.in-Ok.search in
    let began = c.in-Ok.ensures in
    record {
      makes = record { made = began.call };
      pins = record {
        now = began.held;
        apart = (λ other h. began.apart s.slot s.version other (refl, refl) h, tt);
      };
      bounds = began.bounds;
    }

pub returns-in-Err-clause-begins : goal.returns-in-Err-clause-begins
returns-in-Err-clause-begins g c =
    unstarted g.S.Service c.args.service.now c.start_batched.new.service c.in-Err.fault c.in-Err.ensures.call c.in-Err.ensures.held c.in-Err.ensures.bounds
    (start_worn c.in-Err.fault _ _ c.in-Err.ensures.worn)
