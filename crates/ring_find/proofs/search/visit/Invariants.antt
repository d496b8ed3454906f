use Rattle.std.proofs.Common.{◌≡◌, ◌≢◌, ◌≤◌, ◌<◌, ◌+◌, ℕ, true, false, length, slice_index, slice_index_or}
use Rattle.chem_core.specs.declared.adjacency.Step.{Step}
use Rattle.ring_find.specs.Search.{IsRingSearch}
use Rattle.ring_find.proofs.search.visit.Given as goal

abbrev pub invariant-loop-step : goal.invariant-loop-step
invariant-loop-step l =
    record {
      search : IsRingSearch l.graph.ends l.kept l.bond l.graph.atoms l.marks l.queue.items l.next;
      within : l.next < length l.queue.items;
      here : slice_index l.queue.items l.next ≡ l.at;
      mark : slice_index l.marks l.at + 1 ≡ l.mark;
      done : (k : ℕ) (d : Step) → k < l.step-index → (slice_index_or l.steps k d).bond ≢ l.bond
          → slice_index_or l.kept (slice_index_or l.steps k d).bond false ≡ true
          → (0 < slice_index l.marks (slice_index_or l.steps k d).to)
          × (slice_index l.marks (slice_index_or l.steps k d).to ≤ l.mark);
    }
