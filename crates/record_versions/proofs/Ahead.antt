-- Chains ahead of a finder are those that are looked for.
use Rattle.std.proofs.Common.{◌≡◌, ◌≢◌, ◌+◌, ◌<◌, ◌≤◌, ◌∙◌, ap, arith, cond, false, List, [], ◌∷◌, nat_cmp, refl, Some, subst, sym, ℕ}
use Rattle.std.proofs.lemmas.Bool.Decides.{nat_tests}
use Rattle.std.specs.BTreeMap.{is_at}
use Rattle.std.specs.List.Sorted.{IsStrictlySortedBy}
use Rattle.std.specs.Map.{keys_of}
use Rattle.record_versions.specs.Ahead.{AreOwn, Rise}
use Rattle.record_versions.specs.Entries.{chain_of, entries_in, row_of}
use Rattle.record_versions.specs.Rows.{Row}
use Rattle.record_versions.proofs.Walk.{Between, between-rises, chain-between, first-chain, rest-chain, rises}

at-below : (a b : ℕ) → a < b → is_at (nat_cmp a) b ≡ false
at-below a b less = grind (arith, nat_tests)

module _ {V : Type 0} where
  own : (all left : List (ℕ × Row V)) (a : ℕ) → Rise a left
      → ((id : ℕ) → a ≤ id → chain_of left id ≡ chain_of all id) → AreOwn all left
  own all [] a up same = tt
  own all (e ∷ es) a up same = (
    sym (same e.0 up.0) ∙ first-chain e es e.0 refl,
    own all es (e.0 + 1) up.1
        (λ id le. sym (rest-chain e es id (omega (arith, le)))
        ∙ same id (let h = up.0 in omega (arith, h, le))),
  )

  -- those from an identifier on
  pub rise-from : (all left : List (ℕ × Row V)) (a : ℕ) → IsStrictlySortedBy nat_cmp (keys_of all)
      → left ≡ Between a all → Rise a left
  rise-from all left a sorted is = subst (Rise a) (sym is) (between-rises a 0 all (rises all sorted))

  pub own-from : (all left : List (ℕ × Row V)) (a : ℕ) → IsStrictlySortedBy nat_cmp (keys_of all) → left ≡ Between a all
      → AreOwn all left
  own-from all left a sorted is =
      own all left a (rise-from all left a sorted is) (λ id le. chain-between a id le all left is)

  -- an identifier below all of them has no chain
  pub none-below : (a id : ℕ) (es : List (ℕ × Row V)) → id < a → Rise a es → chain_of es id ≡ []
  none-below a id [] less up = refl
  none-below a id (e ∷ es) less up =
      let low = up.0 in
      ap (λ b. entries_in (cond b (Some e.1) (row_of es id))) (at-below id e.0 (omega (arith, less, low)))
      ∙ none-below (e.0 + 1) id es (omega (arith, less, low)) up.1

  pub none-first : (id : ℕ) (e : ℕ × Row V) (es : List (ℕ × Row V)) → Rise id (e ∷ es) → e.0 ≢ id
      → chain_of (e ∷ es) id ≡ []
  none-first id e es up other =
      let low = up.0 in none-below e.0 id (e ∷ es) (omega (arith, low, other)) (omega arith, up.1)
