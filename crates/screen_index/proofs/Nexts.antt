-- The least pair that is wanted, in parts of the pairs.
use Rattle.std.proofs.Common.{◌≡◌, ◌<◌, ◌++◌, All, ap, arith, get_or, inl, inr, length, List, Some, subst, sym, Bool, ℕ}
use Rattle.std.proofs.lemmas.Bool.{cases_lt}
use Rattle.std.proofs.lemmas.List.{get_or_default}
use Rattle.std.proofs.lemmas.List.Elements.{All-contains, Contains-append_cases, Contains-append_left, Contains-append_right}
use Rattle.std.specs.List.{AllWithin}
use Rattle.screen_index.specs.declared.entry.Screened.{Screened}
use Rattle.screen_index.specs.Pairs.{Ascend, IsNext, IsWanted, rank_of}
use Rattle.screen_index.proofs.Places.{apart, pairs}

module _ {V : Type 0} where
  -- no pair is wanted
  abbrev pub NoneWanted : List Bool → ℕ → List (Screened V) → Type 0
  NoneWanted want from xs = All (λ x. ¬ IsWanted want from x) xs

  -- the first that is wanted
  pub first-is : (want : List Bool) (from i : ℕ) (xs : List (Screened V)) (x : Screened V) → Ascend 0 xs → i < length xs
      → x ≡ get_or xs i x → AllWithin (λ x. ¬ IsWanted want from x) xs 0 i → IsWanted want from x
      → IsNext want from xs (Some x)
  first-is want from i xs x up less is none wanted = (
    (i, less, sym is),
    wanted,
    λ y c also. elim (cases_lt c.0 i) [
      | inl lt ↦ absurd (none c.0 y (omega arith) lt (subst (IsWanted want from) (sym c.2) also))
      | inr ge ↦ elim (cases_lt i c.0) [
        | inl gt ↦
            let h = pairs 0 xs up i c.0 y gt c.1 in
            omega (arith, h, ap rank_of c.2, ap rank_of (get_or_default xs i x y less), ap rank_of is)
        | inr le ↦
            let same : c.0 ≡ i = omega (arith, ge, le) in
            omega (
              arith,
              ap rank_of c.2,
              ap (λ n. rank_of (get_or xs n y)) same,
              ap rank_of (get_or_default xs i x y less),
              ap rank_of is,
            )
      ]
    ],
  )

  -- behind pairs of which none is wanted, and before pairs that come later
  pub next-within : (want : List Bool) (from : ℕ) (fore bs cs : List (Screened V)) (x : Screened V)
      → Ascend 0 (fore ++ (bs ++ cs)) → NoneWanted want from fore → IsNext want from bs (Some x)
      → Ascend 0 (bs ++ cs) → IsNext want from (fore ++ (bs ++ cs)) (Some x)
  next-within want from fore bs cs x up none (member, wanted, least) parts = (
    Contains-append_right fore (bs ++ cs) x (Contains-append_left bs cs x member),
    wanted,
    λ y c also. elim (Contains-append_cases fore (bs ++ cs) y c) [
      | inl a ↦ absurd (All-contains (λ z. ¬ IsWanted want from z) fore y none a also)
      | inr r ↦ elim (Contains-append_cases bs cs y r) [
        | inl b ↦ least y b also
        | inr d ↦
            let h = apart 0 bs cs member.0 x parts member.1 d.0 y d.1 in
            omega (arith, h, ap rank_of member.2, ap rank_of d.2)
      ]
    ],
  )
