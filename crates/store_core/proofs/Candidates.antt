-- A pair of an index beside the chain of its identifier, and the record that is found by it.
use Rattle.std.proofs.Common.{◌≡◌, ◌<◌, ◌≤◌, ◌∙◌, AllPairs, ap, arith, Bool, Bor, Contains, get_or, inl, inr, length, List, MatchOption, None, Option, refl, Some, subst, sym, ℕ}
use Rattle.std.proofs.lemmas.Bool.{cases_lt}
use Rattle.std.proofs.lemmas.List.{get_or_default}
use Rattle.std.proofs.lemmas.Option.{same_Some}
use Rattle.std.specs.Arc.{arc_value}
use Rattle.record_versions.specs.Entries.{IsLatest, chain_of}
use Rattle.screen_index.specs.Pairs.{Holds}
use Rattle.screen_index.specs.declared.entry.Screened.{Screened}
use Rattle.store_core.specs.Kept.{Chains, HasPrint, IsCandidate, IsFoundAt, IsOf, Kept, kept_of, record_of}
use Rattle.store_core.specs.Records.{RecordTerm, Shared}

-- in a chain a version stands once
one-version : (ks : List Kept) (k l : Kept) → AllPairs (λ x y. x.version < y.version) ks → Contains ks k
    → Contains ks l → k.version ≡ l.version → k ≡ l
one-version ks k l up c d e =
    elim (cases_lt c.0 d.0) [
      | inl lt ↦ absurd (apart c.0 d.0 k l lt d.1 c.2 d.2 e)
      | inr ge ↦ elim (cases_lt d.0 c.0) [
        | inl gt ↦ absurd (apart d.0 c.0 l k gt c.1 d.2 c.2 (sym e))
        | inr le ↦
            let same : c.0 ≡ d.0 = omega (arith, ge, le) in
            sym c.2 ∙ (get-any c.0 k l c.1 ∙ (ap (λ n. get_or ks n l) same ∙ d.2))
      ]
    ]
  where
    get-any : (i : ℕ) (a b : Kept) → i < length ks → get_or ks i a ≡ get_or ks i b
    get-any i a b less = get_or_default ks i a b less

    apart : (i j : ℕ) (a b : Kept) → i < j → j < length ks → get_or ks i a ≡ a → get_or ks j b ≡ b
        → a.version ≡ b.version → ⊥
    apart i j a b lt within f g same =
        let h = up i j a lt within in
        omega (
          arith,
          h,
          ap (λ (x : Kept). x.version) f,
          ap (λ (x : Kept). x.version) (get-any j a b within),
          ap (λ (x : Kept). x.version) g,
          same,
        )

module _ (chains : Chains) (x : Screened Shared) (o : IsOf chains x) where
  -- the record of the entry at its version
  pub of-version : (r : Shared) → AllPairs (λ (k l : Kept). k.version < l.version) (chain_of chains x.id)
      → Contains (chain_of chains x.id) (record { version = x.version; value = Some r })
      → arc_value x.value ≡ arc_value r
  of-version r up c =
      let e = one-version (chain_of chains x.id) (record { version = x.version; value = Some o.own })
      (record { version = x.version; value = Some r }) up o.there c refl in
      o.value ∙ ap (λ (s : Shared). arc_value s) (same_Some o.own r (ap (λ (k : Kept). k.value) e))

  -- in chains that have its entry, and no entry more of its identifier
  pub of-fewer : (new : Chains)
      → Contains (chain_of new x.id) (record { version = x.version; value = Some o.own })
      → ((k : Kept) → Contains (chain_of new x.id) k → Contains (chain_of chains x.id) k) → IsOf new x
  of-fewer new there fewer = record {
    own = o.own;
    there = there;
    value = o.value;
    until = λ k c. o.until k (fewer k c);
  }

module _ (want : List Bool) (chains : Chains) (x : Screened Shared) (candidate : IsCandidate want chains x) where
  abbrev own : Shared
  own = candidate.of_entry.own

  pub own-print : HasPrint want (Some own)
  own-print = subst (λ (r : RecordTerm). Holds r.print want) candidate.of_entry.value candidate.print

  -- no later entry is the latest
  pub found-at-once : (version : ℕ) → x.version ≤ version → version < x.until
      → IsFoundAt version want (chain_of chains x.id) (Some x.value)
  found-at-once version early before = record {
    latest = Some (record { version = x.version; value = Some own });
    is_latest = (
      candidate.of_entry.there,
      early,
      λ l c le. elim (cases_lt x.version l.version) [
        | inl later ↦ let ends = candidate.of_entry.until l c later in absurd (omega (arith, ends, before, le))
        | inr is ↦ is
      ],
    );
    is_found = (own-print, ap Some (sym candidate.of_entry.value));
  }

  -- the print of the entry at its version holds what is wanted
  pub at-version : (r : Shared) (version : ℕ) → version ≡ x.version
      → AllPairs (λ (k l : Kept). k.version < l.version) (chain_of chains x.id)
      → Contains (chain_of chains x.id) (record { version = version; value = Some r }) → HasPrint want (Some r)
  at-version r version same up c =
      subst (λ (q : RecordTerm). Holds q.print want)
      (of-version chains x candidate.of_entry r up
      (subst (λ v. Contains (chain_of chains x.id) (record { version = v; value = Some r })) same c))
      candidate.print

-- the latest entry was looked up
module _ (want : List Bool) (ks : List Kept) (version at : ℕ) (r : Shared)
    (latest : IsLatest version ks (Some (record { version = at; value = Some r }))) where
  pub found-later : HasPrint want (Some r) → IsFoundAt version want ks (Some r)
  found-later print = record {
    latest = Some (record { version = at; value = Some r });
    is_latest = latest;
    is_found = (print, refl);
  }

  pub not-found : ¬ HasPrint want (Some r) → IsFoundAt version want ks None
  not-found not = record {
    latest = Some (record { version = at; value = Some r });
    is_latest = latest;
    is_found = not;
  }

pub none-found : (want : List Bool) (ks : List Kept) (version : ℕ) (o : Option Kept) → record_of o ≡ None
    → IsLatest version ks o → IsFoundAt version want ks None
none-found want ks version o none latest = record {
  latest = o;
  is_latest = latest;
  is_found = subst (λ q. ¬ HasPrint want q) (sym none) (λ print. print);
}

-- what was found of an identifier is its latest entry
pub found-is : (version : ℕ) (ks : List Kept) (r : Option (ℕ × Bor (Option Shared)))
    → MatchOption r (IsLatest version ks None)
    (λ x. IsLatest version ks (Some (record { version = x.0; value = x.1.now }))) → IsLatest version ks (kept_of r)
found-is version ks None h = h
found-is version ks (Some x) h = h
