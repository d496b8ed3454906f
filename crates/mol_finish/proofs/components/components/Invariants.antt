use Rattle.std.proofs.Common.{◌<◌, ℕ, []}
use Rattle.mol_finish.specs.Naming.{IsNamed, IsNaming}
use Rattle.mol_finish.proofs.components.components.Given as goal

abbrev pub invariant-loop-atom : goal.invariant-loop-atom
invariant-loop-atom l =
    record {
      naming : IsNaming l.adjacency.atoms l.adjacency.ends l.components.items [] 0;
      below : (a : ℕ) → a < l.atom → IsNamed l.components.items a;
    }
