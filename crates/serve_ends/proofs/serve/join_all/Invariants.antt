use Rattle.std.proofs.Common.{◌≡◌, ◌+◌, ◌≤◌, ◌++◌, length, map, vec_capacity}
use Rattle.std.specs.Vec.Iter.{into_iter_items, into_iter_len}
use Rattle.hall.specs.Passes.{IsOf}
use Rattle.serve_ends.specs.Slots.{Joins}
use Rattle.serve_ends.proofs.serve.join_all.Given as goal

abbrev pub invariant-loop-slot : goal.invariant-loop-slot
invariant-loop-slot g l = record {
  rest : l.yielded ++ into_iter_items l.slot-iterator ≡ l.fn.slots.items;
  ends : l.ends.items ≡ map (λ s. s.served) l.yielded;
  of : IsOf l.hall l.pass;
  joins : Joins l.hall l.yielded l.fn.pass l.pass;
  room : length l.ends.items + into_iter_len l.slot-iterator ≤ vec_capacity l.ends;
}
