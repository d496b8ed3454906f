-- The list of all entries, as the chain of one identifier changes.
use Rattle.std.proofs.Common.{◌≡◌, ◌+◌, ◌++◌, ◌∙◌, ap, arith, Bool, cond, Equal, false, Greater, is_eq, length, length-append, Less, List, [], ◌∷◌, map, nat_cmp, None, Option, Ordering, refl, Some, sym, true, ℕ}
use Rattle.std.proofs.lemmas.List.{length-map}
use Rattle.std.specs.BTreeMap.{insert_entry}
use Rattle.std.specs.Map.{lookup, set_value}
use Rattle.std.specs.Ordering.{match_ordering}
use Rattle.record_versions.specs.Entries.{entries, entries_in, row_of}
use Rattle.record_versions.specs.Rows.{Row}
use Rattle.record_versions.specs.declared.entries.Entry.{Entry}

none-some : {X : Type 0} {x : X} → None ≡ Some x → ⊥
none-some e = cc

module _ {V : Type 0} where
  abbrev of : ℕ → List (Entry V) → List (ℕ × Entry V)
  of id ks = map (λ k. (id, k)) ks

  -- how many there are, where one chain changes
  pub length-changed : (t : ℕ → Bool) (es : List (ℕ × Row V)) (r s : Row V) → Some r ≡ lookup t es
      → length (entries (set_value t es s)) + length r.entries ≡ length (entries es) + length s.entries
  length-changed t [] r s e = absurd (none-some (sym e))
  length-changed t (c ∷ cs) r s e = go (length-changed t cs r s) (t c.0) e
    where
      go : (Some r ≡ lookup t cs
          → length (entries (set_value t cs s)) + length r.entries ≡ length (entries cs) + length s.entries) → (b : Bool)
          → Some r ≡ cond b (Some c.1) (lookup t cs)
          → length (entries (cond b ((c.0, s) ∷ cs) (c ∷ set_value t cs s))) + length r.entries
          ≡ length (entries (c ∷ cs)) + length s.entries
      go more true f =
          let same : r ≡ c.1 = cc in
          let own : Entry V → ℕ × Entry V = λ k. (c.0, k) in
          omega (
            arith,
            length-append (of c.0 s.entries) (entries cs),
            length-append (of c.0 c.1.entries) (entries cs),
            length-map s.entries own,
            length-map c.1.entries own,
            ap (λ (x : Row V). length x.entries) same,
          )
      go more false f =
          let rest = more f in
          omega (
            arith,
            rest,
            length-append (of c.0 c.1.entries) (entries (set_value t cs s)),
            length-append (of c.0 c.1.entries) (entries cs),
          )

  -- a chain changes in its room alone
  pub same-entries : (t : ℕ → Bool) (es : List (ℕ × Row V)) (r s : Row V) → Some r ≡ lookup t es
      → s.entries ≡ r.entries → entries (set_value t es s) ≡ entries es
  same-entries t [] r s e same = absurd (none-some (sym e))
  same-entries t (c ∷ cs) r s e same = go (λ f. same-entries t cs r s f same) (t c.0) e
    where
      go : (Some r ≡ lookup t cs → entries (set_value t cs s) ≡ entries cs) → (b : Bool) → Some r ≡ cond b (Some c.1) (lookup t cs)
          → entries (cond b ((c.0, s) ∷ cs) (c ∷ set_value t cs s)) ≡ entries (c ∷ cs)
      go more true f =
          let is : r ≡ c.1 = cc in
          ap (λ l. of c.0 l ++ entries cs) (same ∙ ap (λ (x : Row V). x.entries) is)
      go more false f = ap (λ l. of c.0 c.1.entries ++ l) (more f)

  -- a chain without entries is put in
  pub empty-entries : (id : ℕ) (es : List (ℕ × Row V)) (r : Row V) → r.entries ≡ [] → row_of es id ≡ None
      → entries (insert_entry nat_cmp es id r) ≡ entries es
  empty-entries id [] r none absent = ap (λ l. of id l ++ []) none
  empty-entries id (c ∷ cs) r none absent = go (empty-entries id cs r none) (nat_cmp id c.0) absent
    where
      go : (row_of cs id ≡ None → entries (insert_entry nat_cmp cs id r) ≡ entries cs) → (o : Ordering) → cond (is_eq o) (Some c.1) (row_of cs id) ≡ None
          → entries (match_ordering o ((id, r) ∷ c ∷ cs) ((c.0, r) ∷ cs) (c ∷ insert_entry nat_cmp cs id r))
          ≡ entries (c ∷ cs)
      go more Less e = ap (λ l. of id l ++ entries (c ∷ cs)) none
      go more Equal e = absurd (none-some (sym e))
      go more Greater e = ap (λ l. of c.0 c.1.entries ++ l) (more e)

  -- and each identifier has the chain that it had
  pub empty-chain : (b : Bool) (o n : Option (Row V)) (r : Row V) → r.entries ≡ [] → n ≡ cond b (Some r) o
      → (b ≡ true → o ≡ None) → entries_in n ≡ entries_in o
  empty-chain true o n r none is absent = ap entries_in is ∙ (none ∙ sym (ap entries_in (absent refl)))
  empty-chain false o n r none is absent = ap entries_in is
