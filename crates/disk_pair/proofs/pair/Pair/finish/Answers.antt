use Rattle.std.proofs.Common.{◌≡◌, ◌∙◌, not, false, sym, ap, rules}
use Rattle.journal_core.specs.Standing.{Standing}
use Rattle.disk_pair.specs.declared.other.Other.TheVariants.{Idle}
use Rattle.disk_pair.proofs.Calls.{paired}
use Rattle.disk_pair.proofs.Copying.{finish_sure, finished, refused_finish}
use Rattle.disk_pair.proofs.pair.Pair.finish.Goals as goal

pub returns-in-Ok : goal.returns-in-Ok
returns-in-Ok g c =
    let inside = c.self.inside in
    let next = c.in-Ok.next in
    let said = c.in-Ok.ensures in
    let disk = ap (λ (k : Standing g.row.D.Denot). k.disk) (sym c.replace-old.ensures.value)
    ∙ sym c.into_disk.ensures in
    let new : paired next (Idle inside.journal.disk false) (not inside.second)
    ≡ paired c.replace-old.new.dest (Idle c.into_disk.result false) (not inside.second) =
    λ i. paired (sym c.replace-old.ensures.after i) (Idle (disk i) false) (not inside.second) in
    let it = finished g.D.Disk.model g.met.D.Disk.only_now c.args.self.now inside.journal inside.second inside.other
    c.in-Some-Copy.carry c.self.view_is (cc (c.take.ensures.value, c.in-Some-Copy.is, c.in-Some-Copy.field-0-is))
    next _ new said.journal.0 said.journal.3 said.ok said.moments said.goes in
    record {
      gives = it.gives;
      acknowledged = λ s copy st has. finish_sure g.D.Disk.model copy _ (it.gives s copy st has);
      moments = it.moments;
      goes = it.goes;
      moved = search rules;
      settled = search rules;
      doubtful = tt;
      stays = tt;
      progress = search rules;
      second = search rules;
      same = tt;
    }

pub returns-in-Err : goal.returns-in-Err
returns-in-Err g c =
    let inside = c.self.inside in
    let said = c.in-Err.ensures in
    let it = refused_finish g.D.Disk.model g.met.D.Disk.only_now c.args.self.now inside.journal inside.second
    inside.other c.in-Some-Copy.carry c.self.view_is
    (cc (c.take.ensures.value, c.in-Some-Copy.is, c.in-Some-Copy.field-0-is))
    c.in-Err.other c.in-Err.fault said.err said.moments said.goes said.cause in
    search rules
