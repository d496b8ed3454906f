use Rattle.std.proofs.Common.{rules}
use Rattle.disk_pair.specs.Pairs.{with_commit}
use Rattle.disk_pair.proofs.Copying.{adds}
use Rattle.disk_pair.proofs.pair.Pair.add.Goals as goal

pub returns : goal.returns
returns g c =
    let inside = c.self.inside in
    let said = c.add-other.ensures in
    let it = adds g.D.Disk.model g.met.D.Disk.only_now c.args.self.now inside.journal inside.second inside.other
    c.in-Some-Copy.carry c.self.view_is (cc (c.take.ensures.value, c.in-Some-Copy.is, c.in-Some-Copy.field-0-is))
    (λ _. Unit {0}) (λ h. with_commit h c.args.payload.now) c.add-other.result.0 c.add-other.result.1 said.adds in
    record {
      gives = λ s copy st has. it.gives s copy st has tt;
      current = it.current;
      goes = it.goes;
      progress = search rules;
    }
