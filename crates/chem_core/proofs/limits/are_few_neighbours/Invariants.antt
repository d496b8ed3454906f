use Rattle.std.proofs.Common.{◌≡◌, ℕ, ◌<◌, ◌≤◌, get_or, take, length}
use Rattle.chem_core.specs.Graph.{degree}
use Rattle.chem_core.specs.Sound.{ends_among}
use Rattle.chem_core.proofs.limits.are_few_neighbours.Given as goal

-- how many of the bonds so far end at each atom
abbrev pub invariant-loop-bond : goal.invariant-loop-bond
invariant-loop-bond l = record {
  room : length l.counts.items ≡ l.atoms;
  counted : (a : ℕ) → a < l.atoms → get_or l.counts.items a 0 ≡ degree (ends_among (take l.bond-index l.bonds)) a;
  few : (a : ℕ) → a < l.atoms → get_or l.counts.items a 0 ≤ 12;
}
