-- Bytes that gather behind those that were written.
use Rattle.std.proofs.Common.{◌≡◌, ◌-◌, ◌+◌, ◌++◌, [], ℕ, List, length, sym, ◌∙◌, ap, arith, append_assoc, length-append}
use Rattle.std.proofs.lemmas.List.{append-nil}
use Rattle.disk_edge.specs.Disk.{DiskModel}
use Rattle.compact_core.specs.Copies.{Gathered, Stands}

module _ {D : Type 0} {model : DiskModel D} {disk : D} {gate : ℕ} {tail pending : List ℕ}
    (g : Gathered model disk gate tail pending) where
  -- where what was written ends
  pub written_end : {place : ℕ} → place ≡ length tail + 1 → place - length pending ≡ length g.written + 1
  written_end at = omega (arith, at, ap length g.is, length-append g.written pending)

  -- bytes that are pending too
  pub more_pending : (bytes : List ℕ) {longer more : List ℕ} → longer ≡ tail ++ bytes → more ≡ pending ++ bytes
      → Gathered model disk gate longer more
  more_pending bytes longer_is more_is = record {
    written = g.written;
    stands = g.stands;
    is = ap (λ (l : List ℕ). g.written ++ l) more_is ∙ sym (append_assoc g.written pending bytes)
        ∙ ap (λ (l : List ℕ). l ++ bytes) g.is ∙ sym longer_is;
  }

  module _ {new : D} where
    -- a call that leaves what stood
    pub still_pending : {same : List ℕ} → same ≡ pending → Stands model new gate g.written
        → Gathered model new gate tail same
    still_pending is s = record {
      written = g.written;
      stands = s;
      is = ap (λ (l : List ℕ). g.written ++ l) is ∙ g.is;
    }

    -- a write of what was pending
    pub none_pending : {bytes none : List ℕ} → bytes ≡ pending → none ≡ []
        → Stands model new gate (g.written ++ bytes) → Gathered model new gate tail none
    none_pending {bytes = bytes} bytes_is none_is s = record {
      written = g.written ++ bytes;
      stands = s;
      is = ap (λ (l : List ℕ). (g.written ++ bytes) ++ l) none_is ∙ append-nil (g.written ++ bytes)
          ∙ ap (λ (l : List ℕ). g.written ++ l) bytes_is ∙ g.is;
    }
