-- Two disks, one of which was changed. For callers.
use Rattle.std.specs.Prelude.{Bool, false, not, true}
use Rattle.disk_pair.specs.Term.{Paired}
use Rattle.disk_pair.specs.declared.choice.Which.{Which}
use Rattle.disk_pair.specs.declared.choice.Which.TheVariants.{First, Second}
use Rattle.disk_pair.specs.declared.other.Other.{Other}
use Rattle.disk_pair.specs.declared.other.Other.TheVariants.{Idle, Copy}

abbrev pub changed_other : {D : Type 0} → (D → D) → Other D → Other D
changed_other f (Idle disk doubtful) = Idle (f disk) doubtful
changed_other f (Copy carry) = Copy (record carry { disk = f carry.disk })

-- f of the current disk, or of the other one
abbrev pub changed_at : {D : Type 0} → Bool → (D → D) → Paired D → Paired D
changed_at true f pair = record pair { journal = record pair.journal { disk = f pair.journal.disk } }
changed_at false f pair = record pair { other = changed_other f pair.other }

-- true if a disk is the current one; the flag says that the second is current
abbrev pub is_current : Which → Bool → Bool
is_current First second = not second
is_current Second second = second

abbrev pub changed : {D : Type 0} → Which → (D → D) → Paired D → Paired D
changed which f pair = changed_at (is_current which pair.second) f pair
