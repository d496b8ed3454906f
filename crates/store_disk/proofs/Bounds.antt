-- Counts of faults, as the machine tells them.
use Rattle.std.proofs.Common.{arith, inl, inr, ℕ}
use Rattle.disk_edge.specs.Disk as disk
use Rattle.store_machine.specs.Machine.{Rose}

pub rose : (old new : ℕ) → disk.Rose old new → Rose old new
rose old new r = elim r [ inl less ↦ inl less | inr end ↦ inr (omega (arith, end)) ]
