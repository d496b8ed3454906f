-- One past the last record of a page.
use Rattle.std.proofs.Common.{◌≡◌, ◌+◌, ◌-◌, ap, arith, length, List, [], ◌∷◌, None, Option, slice_get, Some, subst, suc, ℕ}
use Rattle.std.specs.Arc.{arc_value}
use Rattle.store_machine.specs.Searches.{past}
use Rattle.store_core.specs.Records.{Shared, founds}

id_in : Option Shared → ℕ
id_in None = 0
id_in (Some r) = (arc_value r).id

same-id : (r x : Shared) → Some r ≡ Some x → (arc_value r).id ≡ (arc_value x).id
unfolding id_in
same-id r x e = ap id_in e

pub past-last : (from : ℕ) (rs : List Shared) (x : Shared) → slice_get rs (length rs - 1) ≡ Some x
    → past from (founds rs) ≡ (arc_value x).id + 1
past-last from [] x e = cc
past-last from (r ∷ []) x e = ap (λ n. n + 1) (same-id r x e)
past-last from (r ∷ q ∷ qs) x e =
    let n : suc (suc (length qs)) - 1 ≡ suc (suc (length qs) - 1) = omega arith in
    past-last ((arc_value r).id + 1) (q ∷ qs) x (subst (λ k. slice_get (r ∷ q ∷ qs) k ≡ Some x) n e)
