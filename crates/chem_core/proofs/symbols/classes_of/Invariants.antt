use Rattle.std.proofs.Common.{◌≡◌, ◌↔◌, ◌<◌, ℕ, take}
use Rattle.std.specs.Int.{bit_at}
use Rattle.chem_core.specs.Symbols.{HasClass}
use Rattle.chem_core.proofs.symbols.classes_of.Given as goal

abbrev pub invariant-loop-atom : goal.invariant-loop-atom
invariant-loop-atom l = (c : ℕ) → c < 64 → bit_at l.classes c ≡ 1 ↔ HasClass (take l.atom-index l.atoms) c
