use Rattle.store_disk.proofs.replay.Rebuild.read.Goals as goal

pub add-requires : goal.add-requires
add-requires c = record {
  change = c.change_from-change.ensures.change;
  fault = c.change_from-change.ensures.fault;
}
