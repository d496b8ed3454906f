use Rattle.std.proofs.Common.{◌≡◌, ◌<◌, ◌-◌, ◌∷◌, ◌++◌, [], ℕ, length, get_or}
use Rattle.aromatic.specs.declared.links.Link.{Link}
use Rattle.aromatic.specs.Links.{links_in}
use Rattle.aromatic.specs.Route.{CanReach, atoms_of}
use Rattle.aromatic.proofs.cycle.+extend.Given as goal

abbrev pub decreases-extend : goal.decreases-extend
decreases-extend l = 18 - length l.path.now.links.items

abbrev pub invariant-loop-link : goal.invariant-loop-link
invariant-loop-link l = record {
  same : l.path.links.items ≡ l.fn.path.links.items;
  flags : l.path.flags.items ≡ l.fn.path.flags.items;
  none : (k : ℕ) (d : Link) → k < l.link-index → CanReach (links_in l.links) l.gives l.target
      (atoms_of l.fn.path.links.items ++ (get_or l.link-items k d).to ∷ []) → ⊥;
}
