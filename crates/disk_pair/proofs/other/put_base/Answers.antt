use Rattle.std.proofs.Common.{refl, rules}
use Rattle.disk_pair.specs.Pairs.{with_base}
use Rattle.disk_pair.proofs.Others.{carries_base}
use Rattle.disk_pair.proofs.other.put_base.Goals as goal

pub returns-in-Ok-clause-adds : goal.returns-in-Ok-clause-adds
returns-in-Ok-clause-adds g c = record {
  gives = λ second k h none r. (
    refl,
    (
      with_base h c.args.payload.now,
      refl,
      carries_base g.D.Disk.model k c.args.carry c.put.new.self h r c.put.ensures.untold c.put.ensures.header
          c.args.payload.now none c.requires.few c.in-Ok.ensures.moved.1 (c.in-Ok.ensures.ok h.base),
    ),
  );
  moments = search rules;
  goes = search rules;
  cause = tt;
}
