use Rattle.std.proofs.Common.{refl, rules}
use Rattle.disk_pair.proofs.Puts.{told_before}
use Rattle.disk_pair.proofs.Readings.{other_stays, shut_loses, was_other}
use Rattle.disk_pair.proofs.other.end_doubt.Goals as goal

pub returns-in-Ok : goal.returns-in-Ok
returns-in-Ok g c =
    let d = g.D.Disk.model in
    let before = told_before (d.content c.args.disk) (d.content c.shut.new.disk) c.shut.ensures.untold in
    record {
      ok = λ second k finish copy h. (
        h.0,
        λ _. refl,
        λ l told y i. let b = before l told in shut_loses second k y (c.in-Ok.ensures.ok b.0 b.1 y i),
      );
      err = tt;
      moments = λ second k finish copy h l told y m. let b = before l told in
          was_other second k finish (d.images c.args.disk) (h.2 b.0 b.1) y (c.shut.ensures.moments b.0 b.1 y m);
      progress = refl;
      goes = search rules;
      cause = tt;
    }

pub returns-in-Err : goal.returns-in-Err
returns-in-Err g c =
    let d = g.D.Disk.model in
    let before = told_before (d.content c.args.disk) (d.content c.shut.new.disk) c.shut.ensures.untold in
    record {
      ok = tt;
      err = λ second k finish copy h. (
        h.0,
        h.1,
        λ l told. let b = before l told in
            other_stays second k finish (d.images c.args.disk) (d.images c.shut.new.disk) c.in-Err.ensures.stays
            (c.shut.ensures.no_new b.0 b.1) (h.2 b.0 b.1),
      );
      moments = λ second k finish copy h l told y m. let b = before l told in
          was_other second k finish (d.images c.args.disk) (h.2 b.0 b.1) y (c.shut.ensures.moments b.0 b.1 y m);
      progress = refl;
      goes = search rules;
      cause = search rules;
    }
