use Rattle.disk_pair.proofs.Others.{refused_start, was_idle}
use Rattle.disk_pair.proofs.other.start.Goals as goal

pub returns-in-Ok-clause-moments : goal.returns-in-Ok-clause-moments
returns-in-Ok-clause-moments g c second k finish h l told y m =
    was_idle g.D.Disk.model second k finish c.args.disk c.in-Ok.carry.disk c.args.doubtful h c.in-Ok.ensures.untold l
    told y (λ j told_old. c.in-Ok.ensures.moments j told_old y m)

pub returns-in-Err-Sure-default-clause-gives : goal.returns-in-Err-Sure-default-clause-gives
returns-in-Err-Sure-default-clause-gives g c second k finish next h =
    let said = c.in-Err-Sure-default.ensures in
    refused_start g.D.Disk.model second k finish c.args.disk c.in-Err-Sure-default.disk c.args.doubtful h
    said.untold said.refused said.no_new

pub returns-in-Err-Sure-default-clause-moments : goal.returns-in-Err-Sure-default-clause-moments
returns-in-Err-Sure-default-clause-moments g c second k finish h l told y m =
    let said = c.in-Err-Sure-default.ensures in
    was_idle g.D.Disk.model second k finish c.args.disk c.in-Err-Sure-default.disk c.args.doubtful h said.untold l
    told y (λ j told_old. said.moments j told_old y m)

pub returns-in-Err-NoMemory-default-clause-gives : goal.returns-in-Err-NoMemory-default-clause-gives
returns-in-Err-NoMemory-default-clause-gives g c second k finish next h =
    let said = c.in-Err-NoMemory-default.ensures in
    refused_start g.D.Disk.model second k finish c.args.disk c.in-Err-NoMemory-default.disk c.args.doubtful h
    said.untold said.refused said.no_new

pub returns-in-Err-NoMemory-default-clause-moments : goal.returns-in-Err-NoMemory-default-clause-moments
returns-in-Err-NoMemory-default-clause-moments g c second k finish h l told y m =
    let said = c.in-Err-NoMemory-default.ensures in
    was_idle g.D.Disk.model second k finish c.args.disk c.in-Err-NoMemory-default.disk c.args.doubtful h said.untold l
    told y (λ j told_old. said.moments j told_old y m)
