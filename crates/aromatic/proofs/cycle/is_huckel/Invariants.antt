use Rattle.std.proofs.Common.{◌≡◌, ◌≤◌, ◌*◌, take, sum_by}
use Rattle.aromatic.specs.Route.{given_at}
use Rattle.aromatic.proofs.cycle.is_huckel.Given as goal

abbrev pub invariant-loop-link : goal.invariant-loop-link
invariant-loop-link l = record {
  sum : l.total ≡ sum_by (λ m. given_at l.gives m.to) (take l.link-index l.path);
  small : l.total ≤ 255 * l.link-index;
}
