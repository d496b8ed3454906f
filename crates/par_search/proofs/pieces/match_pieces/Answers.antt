use Rattle.std.proofs.Common.{arith}
use Rattle.par_search.specs.Flags.{WorkerTerm}
use Rattle.par_search.proofs.Rooms.{map_same}
use Rattle.par_search.proofs.pieces.match_pieces.Goals as goal

pub returns-clause-same : goal.returns-clause-same
returns-clause-same g c = (
  map_same (λ (w : WorkerTerm). w.room) c.args.workers.now c.for_each_mut.new.s c.for_each_mut.auto.s
      (λ i d less. let k = (c.for_each_mut.ensures i d less).1 in grind arith),
  map_same (λ (w : WorkerTerm). w.share) c.args.workers.now c.for_each_mut.new.s c.for_each_mut.auto.s
      (λ i d less. let k = (c.for_each_mut.ensures i d less).1 in grind arith),
)
