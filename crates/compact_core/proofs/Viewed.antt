-- A copy that is opened, and the same copy as a contract sees it.
use Rattle.std.proofs.Common.{◌≡◌, ℕ, List, subst}
use Rattle.disk_edge.specs.Disk.{DiskModel}
use Rattle.disk_edge.specs.Moments.{AtEachMoment}
use Rattle.journal_core.specs.declared.header.Header.{Header}
use Rattle.compact_core.specs.Carrying.{Carrying}

pub at_view : {D : Type 0} (model : DiskModel D) (P : Header → List ℕ → Type 0) (j k : Carrying D) (new : D) → j ≡ k
    → AtEachMoment model j.disk new (P j.header) → AtEachMoment model k.disk new (P k.header)
at_view model P j k new is m = subst (λ (s : Carrying _). AtEachMoment model s.disk new (P s.header)) is m
