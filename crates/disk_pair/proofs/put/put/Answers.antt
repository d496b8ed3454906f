use Rattle.std.proofs.Common.{inl}
use Rattle.disk_pair.proofs.Puts.{put_shows}
use Rattle.disk_pair.proofs.put.put.Goals as goal

pub returns-in-Err-Failed-clause-moments : goal.returns-in-Err-Failed-clause-moments
returns-in-Err-Failed-clause-moments g c fr ps doubt h l is image b =
    inl (c.settle.ensures.moments fr ps doubt h l is image b)

pub returns-in-Err-NoMemory-clause-moments : goal.returns-in-Err-NoMemory-clause-moments
returns-in-Err-NoMemory-clause-moments g c fr ps doubt h l is image b =
    inl (c.settle.ensures.moments fr ps doubt h l is image b)

pub returns-in-Ok-append-clause-moments : goal.returns-in-Ok-append-clause-moments
returns-in-Ok-append-clause-moments g c fr ps doubt h =
    let d = g.D.Disk.model in
    put_shows d g.met.D.Disk.parts c.args.journal.now c.settle.new.journal c.append.new.self c.settle.ensures.goes.past
    c.append.ensures.past c.append.ensures.untold fr ps doubt c.args.payload.now (c.in-Ok.ensures.ok fr ps doubt h)
    (c.settle.ensures.moments fr ps doubt h) (c.append.ensures.moments fr ps)

pub returns-in-Err-Sure-clause-moments : goal.returns-in-Err-Sure-clause-moments
returns-in-Err-Sure-clause-moments g c fr ps doubt h =
    let d = g.D.Disk.model in
    put_shows d g.met.D.Disk.parts c.args.journal.now c.settle.new.journal c.append.new.self c.settle.ensures.goes.past
    c.append.ensures.past c.append.ensures.untold fr ps doubt c.args.payload.now (c.in-Ok.ensures.ok fr ps doubt h)
    (c.settle.ensures.moments fr ps doubt h) (c.append.ensures.moments fr ps)

pub returns-in-Err-Doubt-clause-moments : goal.returns-in-Err-Doubt-clause-moments
returns-in-Err-Doubt-clause-moments g c fr ps doubt h =
    let d = g.D.Disk.model in
    put_shows d g.met.D.Disk.parts c.args.journal.now c.settle.new.journal c.append.new.self c.settle.ensures.goes.past
    c.append.ensures.past c.append.ensures.untold fr ps doubt c.args.payload.now (c.in-Ok.ensures.ok fr ps doubt h)
    (c.settle.ensures.moments fr ps doubt h) (c.append.ensures.moments fr ps)

pub returns-in-Err-NoMemory-append-clause-moments : goal.returns-in-Err-NoMemory-append-clause-moments
returns-in-Err-NoMemory-append-clause-moments g c fr ps doubt h =
    let d = g.D.Disk.model in
    put_shows d g.met.D.Disk.parts c.args.journal.now c.settle.new.journal c.append.new.self c.settle.ensures.goes.past
    c.append.ensures.past c.append.ensures.untold fr ps doubt c.args.payload.now (c.in-Ok.ensures.ok fr ps doubt h)
    (c.settle.ensures.moments fr ps doubt h) (c.append.ensures.moments fr ps)
