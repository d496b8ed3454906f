use Rattle.std.proofs.Common.{◌≡◌, ◌≤◌, All, vec_len}
use Rattle.par_search.specs.Flags.{WorkerTerm}
use Rattle.par_search.proofs.room.reserve_workers.Given as goal

abbrev pub invariant-loop-place : goal.invariant-loop-place
invariant-loop-place l = record {
  number : vec_len l.workers ≡ l._place;
  room : All (λ (w : WorkerTerm). l.piece ≤ w.room) l.workers.items;
  share : All (λ (w : WorkerTerm). l.share ≤ w.share) l.workers.items;
}
