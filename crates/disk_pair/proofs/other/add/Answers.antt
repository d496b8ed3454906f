use Rattle.std.proofs.Common.{refl, rules}
use Rattle.disk_pair.specs.Pairs.{with_commit}
use Rattle.disk_pair.proofs.Others.{carries_commit}
use Rattle.disk_pair.proofs.other.add.Goals as goal

pub returns-in-Ok-clause-adds : goal.returns-in-Ok-clause-adds
returns-in-Ok-clause-adds g c = record {
  gives = λ second k h one r. (
    refl,
    (
      with_commit h c.args.payload.now,
      refl,
      carries_commit g.D.Disk.model k c.args.carry c.add.new.self h r c.add.ensures.untold c.add.ensures.header
          c.args.payload.now c.add.ensures.bases (c.in-Ok.ensures.ok h.base h.commits),
    ),
  );
  moments = search rules;
  goes = search rules;
  cause = tt;
}
