-- A slot may go to another thread, and what the threads share may be shared.
use denote.Param.Send.{sendable}
use mir.Syntax.{named}
use Rattle.std.proofs.Common.{[]}
use Rattle.std.proofs.Crossing.{crosses}
use Rattle.serve_ends.proofs.Crossing.{captures-sync, global-sync, hall-row-sync, hall-sync, settings-sync, slot-send}
use Rattle.serve_ends.proofs.serve.serve_all.Goals as goal

pub for_each_mut-requires-send-T : goal.for_each_mut-requires-send-T
for_each_mut-requires-send-T g c κs within =
    let slot = slot-send _ _ _ g.D.Disk c.type_bounds.send-D c.type_bounds.send-S c.type_bounds.send-K in
    search (sendable, crosses) depth 20

pub for_each_mut-requires-sync-F : goal.for_each_mut-requires-sync-F
for_each_mut-requires-sync-F g c κs within =
    let hall = hall-sync _ g.D.Disk g.D.Disk-dict c.type_bounds.send-D in
    let r = c.type_bounds.sync-R in
    let m = c.type_bounds.sync-M in
    let row = hall-row-sync _ g.D.Disk g.D.Disk-dict c.type_bounds.send-D in
    record {
      shared = (captures-sync []
          (record { mir = named 6; lft = κs.1.1.1.1.1.1.0 })
          (record { mir = named 7; lft = κs.1.1.1.1.1.1.1.0 })
          (record { mir = named 8; lft = κs.1.1.1.1.1.1.1.1.0 })
          (record { mir = named 9; lft = κs.1.1.1.1.1.1.1.1.1.0 })
          (record { mir = named 10; lft = κs.1.1.1.1.1.1.1.1.1.1.0 })
          _ _ _ _ _ tt tt tt tt tt r global-sync row settings-sync m).shared;
    }
