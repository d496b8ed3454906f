-- A disk whose content is not known: any image may be left, at any moment, and its clock does not move.
use Rattle.std.specs.Prelude.{◌⊎◌, ◌≤◌, ℕ, List, Option, None}
use Rattle.std.proofs.Common.{inl}
use Rattle.disk_edge.specs.Disk.{DiskModel}

abbrev pub any_image : {D : Type 0} → D → List ℕ → Type 0
any_image d c = Unit {0}

abbrev pub any_between : {D : Type 0} → D → ℕ → ℕ → List ℕ → Type 0
any_between d t u c = Unit {0}

-- with this count of faults, and this bound of it
abbrev pub untold : {D : Type 0} → (D → ℕ) → (D → Option ℕ) → DiskModel D
untold faults bound = record {
  content = λ d. None;
  images = any_image;
  clock = λ d. 0;
  images_between = any_between;
  faults = faults;
  bound = bound;
}

pub in_parts : {D : Type 0} (d : D) (t v u : ℕ) (c : List ℕ) → t ≤ v → v ≤ u → any_between d t u c
    → any_between d t v c ⊎ any_between d v u c
in_parts d t v u c tv vu b = inl tt
