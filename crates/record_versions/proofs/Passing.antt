-- A walk over chains in the order of identifiers, for the first that has an entry at a version.
use Rattle.std.proofs.Common.{◌≡◌, ◌+◌, ◌<◌, ◌≤◌, ◌∙◌, ap, arith, inl, inr, List, [], ◌∷◌, None, refl, Some, subst, sym, ℕ}
use Rattle.std.proofs.lemmas.Bool.{cases_lt}
use Rattle.record_versions.specs.Ahead.{Rise}
use Rattle.record_versions.specs.Entries.{IsLatest, chain_of}
use Rattle.record_versions.specs.Readings.{IsAhead, IsFirstAt}
use Rattle.record_versions.specs.Rows.{Row}
use Rattle.record_versions.specs.declared.entries.Entry.{Entry}
use Rattle.record_versions.proofs.Ahead.{none-below}
use Rattle.record_versions.proofs.Walk.{first-chain, rest-chain}

module _ {V : Type 0} where
  -- the walk has come to an identifier, and none before it has an entry at the version
  pub record Passed (version from : ℕ) (chains left : List (ℕ × Row V)) : Type 0 where
    pub to : ℕ
    pub later : from ≤ to
    pub ahead : IsAhead to chains left
    pub none : (id : ℕ) → from ≤ id → id < to → IsLatest version (chain_of chains id) None

  pub none-passed : (version from : ℕ) (chains left : List (ℕ × Row V)) → IsAhead from chains left
      → Passed version from chains left
  none-passed version from chains left ahead = record {
    to = from;
    later = omega arith;
    ahead = ahead;
    none = λ id low high. absurd (omega (arith, low, high));
  }

  no-entry : (version : ℕ) (ks : List (Entry V)) → ks ≡ [] → IsLatest version ks None
  no-entry version ks e =
      subst (λ l. IsLatest version l None) (sym e) (λ i d less. absurd (omega (arith, less)))

  module _ (version from : ℕ) (chains rest : List (ℕ × Row V)) (e : ℕ × Row V) (p : Passed version from chains (e ∷ rest)) where
    -- its chain is the one that is read
    own : chain_of chains e.0 ≡ e.1.entries
    own = sym (p.ahead.1 e.0 p.ahead.0.0) ∙ first-chain e rest e.0 refl

    -- no identifier before it has an entry at the version
    pub before : (id : ℕ) → from ≤ id → id < e.0 → IsLatest version (chain_of chains id) None
    before id low high = elim (cases_lt id p.to) [
      | inl lt ↦ p.none id low lt
      | inr ge ↦ no-entry version (chain_of chains id)
          (sym (p.ahead.1 id ge) ∙ none-below e.0 id (e ∷ rest) high (omega arith, p.ahead.0.1))
    ]

    -- those behind it are ahead
    pub behind : IsAhead (e.0 + 1) chains rest
    behind = (
      p.ahead.0.1,
      λ id low. sym (rest-chain e rest id (omega (arith, low)))
          ∙ p.ahead.1 id (let up = p.ahead.0.0 in omega (arith, up, low)),
    )

    -- it has none either
    pub passed-one : IsLatest version e.1.entries None → Passed version from chains rest
    passed-one latest = record {
      to = e.0 + 1;
      later = let up = p.ahead.0.0 in omega (arith, p.later, up);
      ahead = behind;
      none = λ id low high. elim (cases_lt id e.0) [
        | inl lt ↦ before id low lt
        | inr ge ↦
            let same : id ≡ e.0 = omega (arith, ge, high) in
            subst (λ n. IsLatest version (chain_of chains n) None) (sym same)
            (subst (λ ks. IsLatest version ks None) (sym own) latest)
      ];
    }

    -- it is the first that has one
    pub first-at : (k : Entry V) → IsLatest version e.1.entries (Some k)
        → IsFirstAt version from chains (Some (e.0, k))
    first-at k latest = (
      let up = p.ahead.0.0 in omega (arith, p.later, up),
      subst (λ ks. IsLatest version ks (Some k)) (sym own) latest,
      before,
    )

  -- none has one
  pub none-at : (version from : ℕ) (chains : List (ℕ × Row V)) → Passed version from chains []
      → IsFirstAt version from chains None
  none-at version from chains p id low = elim (cases_lt id p.to) [
    | inl lt ↦ p.none id low lt
    | inr ge ↦ no-entry version (chain_of chains id) (sym (p.ahead.1 id ge))
  ]
