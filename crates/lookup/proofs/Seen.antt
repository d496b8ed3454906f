-- Records that a visitor saw, one list behind another.
use Rattle.std.proofs.Common.{◌≡◌, ◌++◌, ◌<◌, ◌+◌, ◌∙◌, ap, append-nil, append_assoc, get_or, length, List, [], ◌∷◌, subst, sym, take, ℕ}
use Rattle.std.proofs.lemmas.List.{map_more}
use Rattle.std.specs.Arc.{arc_value}
use Rattle.store_core.specs.Records.{Shared, found_of, founds}
use Rattle.store_machine.specs.declared.machine.Found.{Found}
use Rattle.lookup.specs.Walks.{Saw}

module _ {V G : Type 0} (has_seen : V → G → V → List Found → Type 0) (given : G) where
  pub saw-none : (a : V) → Saw has_seen given a a []
  saw-none a start before s = subst (λ (l : List Found). has_seen start given a l) (sym (append-nil before)) s

  pub saw-more : (a b c : V) (xs ys : List Found) → Saw has_seen given a b xs → Saw has_seen given b c ys
      → Saw has_seen given a c (xs ++ ys)
  saw-more a b c xs ys p q start before s =
      subst (λ (l : List Found). has_seen start given c l) (append_assoc before xs ys)
      (q start (before ++ xs) (p start before s))

  -- one record more of a page
  pub saw-next : (a b c : V) (page : List Shared) (i : ℕ) (r : Shared) → i < length page → r ≡ get_or page i r
      → Saw has_seen given a b (founds (take i page)) → Saw has_seen given b c (found_of (arc_value r) ∷ [])
      → Saw has_seen given a c (founds (take (i + 1) page))
  saw-next a b c page i r less is p q =
      let f : Shared → Found = λ x. found_of (arc_value x) in
      let more : founds (take (i + 1) page) ≡ founds (take i page) ++ f r ∷ [] =
      map_more f page i r less ∙ ap (λ x. founds (take i page) ++ f x ∷ []) (sym is) in
      subst (λ (l : List Found). Saw has_seen given a c l) (sym more)
      (saw-more a b c (founds (take i page)) (f r ∷ []) p q)
