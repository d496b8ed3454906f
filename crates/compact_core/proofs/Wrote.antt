-- What is at a place at which bytes were written.
use Rattle.std.proofs.Common.{◌≡◌, ◌≢◌, ◌≤◌, ℕ, ◌+◌, ◌-◌, List, [], ◌∷◌, ◌++◌, length, take, drop, Option, Some, None, sym, refl, ◌∙◌, ap, subst, arith, append_assoc, length-take}
use Rattle.std.proofs.lemmas.List.{drop-drop, drop_at}
use Rattle.disk_edge.specs.Disk.{Becomes, IfTold, written}
use Rattle.disk_edge.specs.TornLaws.{after_written}
use Rattle.journal_core.specs.declared.format.TheConstants.{CLOSED, OPEN}
use Rattle.compact_core.specs.Copies.{IsAt}
use Rattle.compact_core.proofs.Gates.{same_byte}
use Rattle.compact_core.proofs.Writes.{some_is, told_before, told_written, untold_written}

is_written : (at : ℕ) (bytes l : List ℕ) → at ≤ length l → IsAt at bytes (written at bytes l)
is_written at bytes l le = (
  drop (at + length bytes) l,
  ap (λ (k : List ℕ). drop at k) (append_assoc (take at l) bytes (drop (at + length bytes) l))
      ∙ drop_at (take at l) (bytes ++ drop (at + length bytes) l) at (omega (arith, length-take at l, le)),
)

-- a write that is done
pub wrote : (at : ℕ) (bytes : List ℕ) (old new : Option (List ℕ)) → IfTold old (λ l. at ≤ length l)
    → Becomes old new (written at bytes) → IfTold new (IsAt at bytes)
wrote at bytes old new start becomes k told =
    let l = told_before old new k (untold_written old new (written at bytes) becomes) told in
    let is : written at bytes l.0 ≡ k = some_is (written at bytes l.0) k
    (sym (told_written old new (written at bytes) l.0 l.1 becomes) ∙ told) in
    subst (IsAt at bytes) is (is_written at bytes l.0 (start l.0 l.1))

-- the last of what was written
pub is_behind : (at : ℕ) (front last l : List ℕ) → IsAt at (front ++ last) l → IsAt (at + length front) last l
is_behind at front last l (rest, is) = (
  rest,
  sym (drop-drop (length front) at l)
      ∙ (ap (λ (k : List ℕ). drop (length front) k) (is ∙ append_assoc front last rest)
      ∙ drop_at front (last ++ rest) (length front) refl),
)

not_gate : (l : List ℕ) (at : ℕ) → IsAt at (CLOSED ∷ []) l → take 1 (drop at l) ≢ OPEN ∷ []
not_gate l at closed is_open =
    let same = same_byte CLOSED OPEN (sym (ap (λ (k : List ℕ). take 1 k) closed.1) ∙ is_open) in
    omega (arith, same)

-- a closed gate stays so where the first byte is written over
pub still_closed : (at : ℕ) (byte : ℕ) (l : List ℕ) → 1 ≤ at → IsAt at (CLOSED ∷ []) l
    → take 1 (drop at (written 0 (byte ∷ []) l)) ≢ OPEN ∷ []
still_closed at byte l some closed = not_gate (written 0 (byte ∷ []) l) at (
  closed.0,
  ap (λ n. drop n (written 0 (byte ∷ []) l)) at_is
      ∙ (sym (drop-drop (at - 1) 1 (written 0 (byte ∷ []) l))
      ∙ (ap (λ (k : List ℕ). drop (at - 1) k) (after_written 0 (byte ∷ []) l)
      ∙ (drop-drop (at - 1) 1 l ∙ (ap (λ n. drop n l) (sym at_is) ∙ closed.1)))),
)
  where
    at_is : at ≡ 1 + (at - 1)
    at_is = omega (arith, some)
