use Rattle.std.proofs.Common.{◌≡◌, ◌+◌, ◌<◌, ◌≤◌, ◌++◌, get_or, length, map, vec_capacity, ℕ}
use Rattle.std.specs.Vec.Iter.{into_iter_items, into_iter_len}
use Rattle.hall.specs.Passes.{IsOf, known}
use Rattle.serve_ends.specs.Slots.{IsCut, splits}
use Rattle.serve_ends.proofs.serve.cut_all.Given as goal

abbrev pub invariant-loop-served : goal.invariant-loop-served
invariant-loop-served g l = record {
  rest : l.yielded ++ into_iter_items l.served-iterator ≡ l.fn.ends.items;
  ends : map (λ s. s.served) l.slots.items ≡ l.yielded;
  of : IsOf l.hall l.pass;
  gave : known l.pass ≡ splits (length l.slots.items) (known l.fn.pass);
  cut : (i : ℕ) (d : _) → i < length l.slots.items → IsCut l.hall (known l.fn.pass) i (get_or l.slots.items i d);
  room : length l.slots.items + into_iter_len l.served-iterator ≤ vec_capacity l.slots;
}
