use Rattle.std.proofs.Common.{◌≡◌, [], rules}
use Rattle.disk_pair.specs.Pairs.{with_base}
use Rattle.disk_pair.proofs.Copying.{adds}
use Rattle.disk_pair.proofs.pair.Pair.put_base.Goals as goal

pub returns : goal.returns
returns g c =
    let inside = c.self.inside in
    let said = c.put_base-other.ensures in
    let it = adds g.D.Disk.model g.met.D.Disk.only_now c.args.self.now inside.journal inside.second inside.other
    c.in-Some-Copy.carry c.self.view_is (cc (c.take.ensures.value, c.in-Some-Copy.is, c.in-Some-Copy.field-0-is))
    (λ h. h.commits ≡ []) (λ h. with_base h c.args.payload.now) c.put_base-other.result.0 c.put_base-other.result.1
    said.adds in
    search rules
