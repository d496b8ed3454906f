use Rattle.std.proofs.Common.{◌≡◌, ◌++◌}
use Rattle.std.specs.List.{flat_map}
use Rattle.std.specs.Vec.Iter.{into_iter_items}
use Rattle.store_disk.proofs.texts.joined.Given as goal

abbrev pub invariant-loop-piece : goal.invariant-loop-piece
invariant-loop-piece g l = record {
  rest : l.yielded ++ into_iter_items l.piece-iterator ≡ l.fn.pieces.items;
  all : l.all.items ≡ flat_map (λ piece. piece.items) l.yielded;
}
