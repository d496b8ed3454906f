use Rattle.std.proofs.Common.{◌≡◌, ◌≤◌, All, vec_len}
use Rattle.store_core.specs.Records.{PageTerm}
use Rattle.par_search.proofs.room.reserve_pages.Given as goal

abbrev pub invariant-loop-place : goal.invariant-loop-place
invariant-loop-place l = record {
  number : vec_len l.pages ≡ l._place;
  room : All (λ (p : PageTerm). l.size ≤ p.room) l.pages.items;
}
