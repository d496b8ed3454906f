use Rattle.std.proofs.Common.{◌≡◌, [], replicate}
use Rattle.aromatic.specs.Links.{links_in}
use Rattle.aromatic.proofs.links.no_links.Given as goal

abbrev pub invariant-loop : goal.invariant-loop
invariant-loop l = links_in l.links.items ≡ replicate l.counter []
