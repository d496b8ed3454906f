-- The list of the kept entries, with one more.
use Rattle.std.proofs.Common.{◌≡◌, ◌≢◌, ◌+◌, ◌++◌, ◌<◌, ap, arith, Contains, get_or, inl, inr, length, length-append, List, [], ◌∷◌, refl, subst, sym, ℕ}
use Rattle.std.proofs.lemmas.List.Elements.{Contains-append_left, Contains-get_or, Contains-push, Contains-push_cases}
use Rattle.record_versions.specs.Entries.{chain_of, entries}
use Rattle.store_machine.specs.declared.machine.Entry.{Entry}
use Rattle.store_core.specs.Kept.{Chains, HasEntry, Kept, Lists}
use Rattle.store_core.proofs.Indexed.{Adds, added-has, added-here, added-there}
use Rattle.store_core.proofs.Taken.{pairs-push}

pub lists-more : (old new : Chains) (id : ℕ) (k : Kept) → Adds old new id k
    → length (entries new) ≡ length (entries old) + 1
    → ((l : Kept) → Contains (chain_of old id) l → l.version < k.version) → (es : List Entry) → Lists es old
    → Lists (es ++ record { id = id; version = k.version } ∷ []) new
lists-more old new id k adds more late es l =
    let x : Entry = record { id = id; version = k.version } in record {
      distinct = pairs-push (λ (a b : Entry). a ≢ b) es x l.distinct (λ i d less. apart (get_or es i d)
          (Contains-get_or es i d less));
      exactly = λ e. (
        (λ c. elim (Contains-push_cases es x e c) [
          | inl d ↦ let r = (l.exactly e).0 d in (r.0, added-there old new id k adds e.id r.0 r.1, r.2)
          | inr same ↦ subst (HasEntry new) same (k, added-here old new id k adds, refl)
        ]),
        (λ h. elim (added-has old new id k adds e.id h.0 h.1) [
          | inl d ↦ Contains-append_left es (x ∷ []) e ((l.exactly e).1 (h.0, d, h.2))
          | inr f ↦ subst (Contains (es ++ x ∷ [])) (is e h.0 f.0 f.1 h.2) (Contains-push es x)
        ]),
      );
      count = let two = length-append es (x ∷ []) in omega (arith, more, l.count, two);
    }
  where
    apart : (e : Entry) → Contains es e → e ≢ record { id = id; version = k.version }
    apart e c same =
        let h = (l.exactly (record { id = id; version = k.version })).0 (subst (Contains es) same c) in
        let below = late h.0 h.1 in omega (arith, below, h.2)

    is : (e : Entry) (m : Kept) → e.id ≡ id → k ≡ m → m.version ≡ e.version
        → record { id = id; version = k.version } ≡ e
    is e m same f v =
        let version : k.version ≡ e.version = omega (arith, ap (λ (y : Kept). y.version) f, v) in
        λ i. record { id = sym same i; version = version i }
