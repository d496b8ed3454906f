use Rattle.std.proofs.Common.{Err, false, rules}
use Rattle.disk_pair.specs.Stands.{StandsFor}
use Rattle.disk_pair.specs.declared.fault.PutFault.TheVariants.{DiskFault, NoMemory}
use Rattle.disk_pair.proofs.Calls.{append_sure, done_append, refused_append}
use Rattle.disk_pair.proofs.pair.Pair.append.Goals as goal

pub returns-in-Err-Failed : goal.returns-in-Err-Failed
returns-in-Err-Failed g c =
    let said = c.in-Err-Failed.ensures in
    let it = refused_append g.D.Disk.model g.met.D.Disk.only_now c.args.self.now c.end_finish.new.self said.journal
    said.second c.args.payload.now (Err (DiskFault false)) said.ends
    (rw c.in-Err-Failed.field-0-is at said.ends.cause) (λ s older. older) in
    search rules

pub returns-in-Err-NoMemory : goal.returns-in-Err-NoMemory
returns-in-Err-NoMemory g c =
    let said = c.in-Err-NoMemory.ensures in
    let it = refused_append g.D.Disk.model g.met.D.Disk.only_now c.args.self.now c.end_finish.new.self said.journal
    said.second c.args.payload.now (Err NoMemory) said.ends tt (λ s older. older) in
    search rules

pub returns : goal.returns
returns g c =
    let d = g.D.Disk.model in
    let payload = c.args.payload.now in
    let inside = c.self.inside in
    let said = c.in-Ok.ensures in
    let put = c.put.ensures in
    let it = done_append d g.met.D.Disk.only_now c.args.self.now c.end_finish.new.self said.journal said.second payload
    c.put.result inside.journal inside.other inside.second c.self.view_is c.self.invariant.0 said.ends c.put.new.journal
    (record { gives = put.gives; moments = put.moments; header = put.header; goes = put.goes; cause = put.cause }) in
    record {
      gives = it.gives;
      acknowledged = append_sure d _ payload (StandsFor d c.args.self.now) c.put.result it.gives;
      moments = it.moments;
      goes = it.goes;
      moved = search rules;
      stays = search rules;
      in_doubt = search rules;
      header = search rules;
      progress = search rules;
      second = search rules;
    }
