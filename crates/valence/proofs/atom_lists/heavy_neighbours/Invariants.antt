use Rattle.std.proofs.Common.{◌≡◌, ℕ, length, take, slice_index_or, false}
use Rattle.std.specs.List.{list_any}
use Rattle.valence.specs.Suppressed.{leads_to_heavy}
use Rattle.valence.proofs.atom_lists.heavy_neighbours.Given as goal

abbrev pub invariant-loop-bond : goal.invariant-loop-bond
invariant-loop-bond l = record {
  long : length l.leads ≡ 999;
  each : (a : ℕ) → slice_index_or l.leads a false ≡ list_any (leads_to_heavy l.atoms a) (take l.bond-index l.bonds);
}
