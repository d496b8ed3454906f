use Rattle.std.proofs.Common.{rules, ◌↔◌, ◌≡◌, Bool, false, IsTrue, List, nat_lt, refl, true, ℕ}
use Rattle.std.proofs.lemmas.Bool.{false≢true}
use Rattle.std.proofs.lemmas.Fn.{always_returns_same}
use Rattle.std.specs.List.{IsAllAdjacentAnswer}
use Rattle.std.specs.List.Sorted.{IsStrictlyIncreasing}
use Rattle.lookup.proofs.hits.is_ascending.Goals as goal

by_pairs : (ids : List ℕ) (r : Bool) → IsAllAdjacentAnswer (λ x y b. b ≡ nat_lt x y) ids r
    → IsTrue r ↔ IsStrictlyIncreasing ids
by_pairs ids true h = (λ yes k less. let is = h k 0 less in search rules, λ up. refl)
by_pairs ids false h = (
  λ no. absurd (false≢true no),
  λ up. let is = h.2 0 in let less = up h.0 h.1 in absurd (search rules),
)

pub returns : goal.returns
returns c =
    by_pairs c.args.ids.now c.is_sorted_by.result
    (c.is_sorted_by.ensures.cases nat_lt (always_returns_same _ _ _ (λ a r f k. search rules)))
