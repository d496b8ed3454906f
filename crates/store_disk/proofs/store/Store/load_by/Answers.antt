use Rattle.store_core.specs.declared.store.Store.{Store as Memory}
use Rattle.store_disk.proofs.Results.{damaged-at}
use Rattle.store_disk.proofs.Stores.{damages, narrows-first, narrows-second, opened-store}
use Rattle.store_disk.proofs.store.Store.load_by.Goals as goal

pub returns-in-Ok-memory_by-clause-opened : goal.returns-in-Ok-memory_by-clause-opened
returns-in-Ok-memory_by-clause-opened g c =
    let picked = c.in-Ok.picked in
    let made = c.memory_by.ensures in
    rw c.new.ensures
    (opened-store g.D.Disk.model c.rebases_keep.ensures.stays c.args.disks.a c.args.disks.b picked.second picked.journal
    c.memory_by.new.journal picked.other c.in-Ok.ensures.narrows_a c.in-Ok.ensures.narrows_b c.in-Ok-memory_by.memory
    c.args.commits c.in-Ok-memory_by.ensures.loaded made.looks made.header made.settled c.in-Ok.ensures.other
    c.in-Ok.ensures.picks)

pub returns-in-Ok-memory_by-clause-narrows_a : goal.returns-in-Ok-memory_by-clause-narrows_a
returns-in-Ok-memory_by-clause-narrows_a g c =
    let picked = c.in-Ok.picked in
    rw c.new.ensures
    (narrows-first g.D.Disk.model c.args.disks.a c.args.disks.b picked.second picked.journal.disk picked.other
    c.in-Ok.ensures.narrows_a c.in-Ok.ensures.narrows_b g.met.D.Disk.parts c.memory_by.new.journal.disk
    c.memory_by.ensures.looks)

pub returns-in-Ok-memory_by-clause-narrows_b : goal.returns-in-Ok-memory_by-clause-narrows_b
returns-in-Ok-memory_by-clause-narrows_b g c =
    let picked = c.in-Ok.picked in
    rw c.new.ensures
    (narrows-second g.D.Disk.model c.args.disks.a c.args.disks.b picked.second picked.journal.disk picked.other
    c.in-Ok.ensures.narrows_a c.in-Ok.ensures.narrows_b g.met.D.Disk.parts c.memory_by.new.journal.disk
    c.memory_by.ensures.looks)

pub returns-in-Err-memory_by-clause-narrows_a : goal.returns-in-Err-memory_by-clause-narrows_a
returns-in-Err-memory_by-clause-narrows_a g c =
    let picked = c.in-Ok.picked in
    rw (c.disks_of.ensures.a, c.into_disk.ensures)
    (narrows-first g.D.Disk.model c.args.disks.a c.args.disks.b picked.second picked.journal.disk picked.other
    c.in-Ok.ensures.narrows_a c.in-Ok.ensures.narrows_b g.met.D.Disk.parts c.memory_by.new.journal.disk
    c.memory_by.ensures.looks)

pub returns-in-Err-memory_by-clause-narrows_b : goal.returns-in-Err-memory_by-clause-narrows_b
returns-in-Err-memory_by-clause-narrows_b g c =
    let picked = c.in-Ok.picked in
    rw (c.disks_of.ensures.b, c.into_disk.ensures)
    (narrows-second g.D.Disk.model c.args.disks.a c.args.disks.b picked.second picked.journal.disk picked.other
    c.in-Ok.ensures.narrows_a c.in-Ok.ensures.narrows_b g.met.D.Disk.parts c.memory_by.new.journal.disk
    c.memory_by.ensures.looks)

pub returns-in-Err-memory_by-clause-damaged : goal.returns-in-Err-memory_by-clause-damaged
returns-in-Err-memory_by-clause-damaged g c at is l told k told_b =
    let picked = c.in-Ok.picked in
    damages g.D.Disk.model c.args.disks.a c.args.disks.b picked.second picked.journal.disk picked.other
    c.in-Ok.ensures.narrows_a c.in-Ok.ensures.narrows_b c.in-Ok.ensures.picks at
    (damaged-at Memory c.in-Err-memory_by.fault at _ is c.in-Err-memory_by.ensures.damaged) l told k told_b
