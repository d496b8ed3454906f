-- A journal that is written on an empty disk.
use Rattle.std.proofs.Common.{◌≡◌, ◌≤◌, ◌⊎◌, inl, inr, ℕ, List, [], ◌∷◌, ◌++◌, length, refl, ap, arith}
use Rattle.disk_edge.specs.Disk.{DiskModel, written, Torn, Same, Elapses, Keeps}
use Rattle.disk_edge.specs.Moments.{AtEachMoment, two_calls}
use Rattle.disk_edge.specs.TornLaws.{torn_same}
use Rattle.journal_core.specs.Records.{header, prefix, text}
use Rattle.journal_core.specs.declared.format.TheConstants.{CLOSED}

pub nil_of : (l : List ℕ) → length l ≡ 0 → l ≡ []
nil_of [] is = refl
nil_of (b ∷ l) is = absurd (omega (arith, is))

pub text_on_nothing : (l : List ℕ) → l ≡ [] → written 0 (header ++ CLOSED ∷ []) l ≡ text header []
unfolding prefix
text_on_nothing l is = ap (λ (k : List ℕ). written 0 (header ++ CLOSED ∷ []) k) is

module _ {D : Type 0} (model : DiskModel D) (old mid new : D)
    (parts : (t v u : ℕ) (c : List ℕ) → t ≤ v → v ≤ u
    → model.images_between new t u c → model.images_between new t v c ⊎ model.images_between new v u c)
    (time : Elapses model old mid) (same : Same (model.images old) (model.images mid))
    (past : Keeps model mid new)
    (moments : AtEachMoment model mid new (λ c. (d : List ℕ) × model.images mid d × Torn 0 9 d c)) where
  pub torn_moments : AtEachMoment model old new (λ c. (d : List ℕ) × model.images old d × Torn 0 9 d c)
  torn_moments = two_calls model old mid new (λ c. (d : List ℕ) × model.images old d × Torn 0 9 d c) parts time.later
      past
      (λ c m. elim (time.during c m) [
        | inl before ↦ (c, before, torn_same 0 9 c)
        | inr after ↦
            (c, same.no_more c after, torn_same 0 9 c)
      ])
      (λ c m. let t = moments c m in (t.0, same.no_more t.0 t.1, t.2))

  pub torn_now : ((c : List ℕ) → model.images new c → model.images_between new (model.clock new) (model.clock new) c)
      → ((t t' u' u : ℕ) (c : List ℕ) → t ≤ t' → u' ≤ u
      → model.images_between new t' u' c → model.images_between new t u c)
      → (c : List ℕ) → model.images new c → (d : List ℕ) × model.images old d × Torn 0 9 d c
  torn_now counts_now whole c i =
      torn_moments c (whole (model.clock old) (model.clock new) (model.clock new) (model.clock new) c
      (omega (arith, time.later, past.later)) (omega arith) (counts_now c i))
