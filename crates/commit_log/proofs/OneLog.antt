-- Bytes are a log of one list of changes.
use Rattle.std.proofs.Common.{◌≡◌, inl, inr, ⊎_elim, ◌≤◌, ℕ, List, [], ◌∷◌, ◌++◌, length, take, drop, refl, sym, ◌∙◌, ap, subst, arith, append_assoc}
use Rattle.std.proofs.lemmas.List.{take_at, drop_at}
use Rattle.std.proofs.lemmas.Nat.{from_le_bytes-to_le_bytes_4}
use Rattle.std.specs.Int.{to_le_bytes, from_le_bytes, w32}
use Rattle.std.specs.List.{AllByRecursion}
use Rattle.journal_core.proofs.RecordLaws.{GoesOn, NoRecord, same_body, one_list, not_both, text_opens, compare, broken_none, shut_none}
use Rattle.journal_core.specs.Records.{IsShort, Breaks, body, prefix}
use Rattle.journal_core.specs.declared.format.TheConstants.{OPEN}
use Rattle.commit_log.specs.Change.{Change, registered, revised, withdrawn, format_byte, written, IsInRange, IsNoChange}
use Rattle.commit_log.specs.declared.change.Format.{Format}
use Rattle.commit_log.specs.declared.change.Format.TheVariants.{Smiles, Molfile}
use Rattle.commit_log.specs.Log.{IsLog, IsLogged, Unread, DamagesLog, payloads, log_text}

all_short : (changes : List Change) → AllByRecursion IsLogged changes → AllByRecursion IsShort (payloads changes)
all_short [] all = tt
all_short (c ∷ changes) all = (all.0.1, all_short changes all.1)

behind_short : (before : List (List ℕ)) (changes : List Change) → AllByRecursion IsShort before
    → AllByRecursion IsLogged changes → AllByRecursion IsShort (before ++ payloads changes)
behind_short [] changes short all = all_short changes all
behind_short (p ∷ before) changes short all = (short.0, behind_short before changes short.1 all)

pub is_read : (front : List ℕ) (before : List (List ℕ)) (changes : List Change) (rest : List ℕ)
    → AllByRecursion IsShort before → AllByRecursion IsLogged changes
    → IsLog front before changes (log_text front before changes ++ rest)
is_read front before changes rest short all = record {
  opens = text_opens front (before ++ payloads changes) rest (behind_short before changes short all);
  logged = all;
}

-- the same payloads in front leave the same behind them
same_behind : (before xs ys : List (List ℕ)) → before ++ xs ≡ before ++ ys → xs ≡ ys
same_behind before xs ys is = sym (drop_at before xs (length before) refl)
    ∙ ap (λ (l : List (List ℕ)). drop (length before) l) is ∙ drop_at before ys (length before) refl

head_is : (x y : List ℕ) (xs ys : List (List ℕ)) → x ∷ xs ≡ y ∷ ys → x ≡ y
head_is x y xs ys is = cc is

tail_is : (x y : List ℕ) (xs ys : List (List ℕ)) → x ∷ xs ≡ y ∷ ys → xs ≡ ys
tail_is x y xs ys is = cc is

first_is : (a b : ℕ) (xs ys : List ℕ) → a ∷ xs ≡ b ∷ ys → a ≡ b
first_is a b xs ys is = cc is

behind_is : (a b : ℕ) (xs ys : List ℕ) → a ∷ xs ≡ b ∷ ys → xs ≡ ys
behind_is a b xs ys is = cc is

-- each payload of a log is read
is_change : (cs : List Change) (xs : List (List ℕ)) (p : List ℕ) (more : List (List ℕ)) → payloads cs ≡ xs ++ p ∷ more
    → AllByRecursion IsLogged cs → IsNoChange p → ⊥
is_change [] [] p more is all none = cc is
is_change [] (x ∷ xs) p more is all none = cc is
is_change (c ∷ cs) [] p more is all none = none c all.0.0 (sym (head_is (written c) p (payloads cs) more is))
is_change (c ∷ cs) (x ∷ xs) p more is all none =
    is_change cs xs p more (tail_is (written c) x (payloads cs) (xs ++ p ∷ more) is) all.1 none

module _ (front : List ℕ) (before : List (List ℕ)) where
  -- no log goes on where one payload is not read
  unread_stops : (cs : List Change) (payload rest : List ℕ) → IsShort payload → IsNoChange payload → (ds : List Change)
      → AllByRecursion IsLogged ds
      → GoesOn (before ++ payloads cs) (before ++ payloads ds) (OPEN ∷ (body payload ++ rest)) → ⊥
  unread_stops cs payload rest short none ds all on =
      let same = same_body payload on.payload rest on.rest short on.short (behind_is OPEN OPEN (body payload ++ rest)
      (body on.payload ++ on.rest) on.is) in
      is_change ds (payloads cs) on.payload on.more
      (same_behind before (payloads ds) (payloads cs ++ on.payload ∷ on.more)
      (on.longer ∙ append_assoc before (payloads cs) (on.payload ∷ on.more)))
      all (subst IsNoChange same.0 none)

  -- what stands behind these records, where no log goes on
  record Stops (changes : List Change) (bytes : List ℕ) : Type 0 where
    tail : List ℕ
    is : bytes ≡ prefix front (before ++ payloads changes) ++ tail
    fit : AllByRecursion IsShort (before ++ payloads changes)
    stops : (ds : List Change) → AllByRecursion IsLogged ds
        → GoesOn (before ++ payloads changes) (before ++ payloads ds) tail → ⊥

  stops_at : (at : ℕ) (bytes : List ℕ) (d : DamagesLog front before at bytes) → Stops d.changes bytes
  unfolding NoRecord
  stops_at at bytes d = ⊎_elim
      (λ (b : Breaks front (before ++ payloads d.changes) bytes). record {
        tail = b.tail;
        is = b.is;
        fit = b.fit;
        stops = λ ds all on.
            broken_none b.tail b.broken (before ++ payloads d.changes) (before ++ payloads ds) on;
      })
      (λ (u : Unread front (before ++ payloads d.changes) bytes). record {
        tail = OPEN ∷ (body u.payload ++ u.rest);
        is = u.is;
        fit = u.fit;
        stops = unread_stops d.changes u.payload u.rest u.short u.none;
      })
      d.damage

  pub one_place : (a b : ℕ) (bytes : List ℕ) → DamagesLog front before a bytes → DamagesLog front before b bytes → a ≡ b
  one_place a b bytes d e =
      let s = stops_at a bytes d in
      let t = stops_at b bytes e in
      elim (compare front (before ++ payloads d.changes) (before ++ payloads e.changes) s.tail t.tail s.fit t.fit
      (sym s.is ∙ t.is)) [
        | inl same ↦ d.place ∙ ap (λ (ps : List (List ℕ)). length (prefix front ps)) same.0 ∙ sym e.place
        | inr on ↦ absurd (⊎_elim (s.stops e.changes e.logged) (t.stops d.changes d.logged) on)
      ]

  unread_none : (cs ds : List Change) (bytes : List ℕ) → IsLog front before cs bytes
      → Unread front (before ++ payloads ds) bytes → ⊥
  unfolding NoRecord
  unread_none cs ds bytes log u =
      let o = log.opens in
      let ps = before ++ payloads ds in
      elim (compare front ps (before ++ payloads cs) (OPEN ∷ (body u.payload ++ u.rest)) (o.gate ∷ o.rest) u.fit o.fit
      (sym u.is ∙ o.is)) [
        | inl same ↦ o.shut (sym (first_is OPEN o.gate (body u.payload ++ u.rest) o.rest same.1))
        | inr on ↦ ⊎_elim (unread_stops ds u.payload u.rest u.short u.none cs log.logged)
            (shut_none o.gate o.rest o.shut (before ++ payloads cs) ps) on
      ]

  pub log_or_damage : (changes : List Change) (at : ℕ) (bytes : List ℕ) → IsLog front before changes bytes
      → DamagesLog front before at bytes → ⊥
  log_or_damage changes at bytes log d = ⊎_elim
      (λ (b : Breaks front (before ++ payloads d.changes) bytes).
      not_both front (before ++ payloads changes) (before ++ payloads d.changes) bytes log.opens b)
      (λ (u : Unread front (before ++ payloads d.changes) bytes). unread_none changes d.changes bytes log u)
      d.damage

-- an identifier in four bytes, and what is behind it
same_field : (m n : ℕ) (xs ys : List ℕ) → m ≤ 999999999 → n ≤ 999999999 → to_le_bytes w32 m ++ xs ≡ to_le_bytes w32 n
    ++ ys → (m ≡ n) × (xs ≡ ys)
same_field m n xs ys p q is =
    let fields : to_le_bytes w32 m ≡ to_le_bytes w32 n =
    sym (take_at (to_le_bytes w32 m) xs 4 refl) ∙ ap (λ (l : List ℕ). take 4 l) is
    ∙ take_at (to_le_bytes w32 n) ys 4 refl in (
      sym (from_le_bytes-to_le_bytes_4 m (omega (arith, p))) ∙ ap (λ (l : List ℕ). from_le_bytes w32 l) fields
          ∙ from_le_bytes-to_le_bytes_4 n (omega (arith, q)),
      sym (drop_at (to_le_bytes w32 m) xs 4 refl) ∙ ap (λ (l : List ℕ). drop 4 l) is
          ∙ drop_at (to_le_bytes w32 n) ys 4 refl,
    )

pub same_format : (f g : Format) → format_byte f ≡ format_byte g → f ≡ g
same_format Smiles Smiles is = refl
same_format Smiles Molfile is = absurd (omega (arith, is))
same_format Molfile Smiles is = absurd (omega (arith, is))
same_format Molfile Molfile is = refl

with_text : (kind id id' : ℕ) (f f' : Format) (t t' : List ℕ) → id ≤ 999999999 → id' ≤ 999999999
    → kind ∷ (to_le_bytes w32 id ++ format_byte f ∷ t) ≡ kind ∷ (to_le_bytes w32 id' ++ format_byte f' ∷ t')
    → (id ≡ id') × (f ≡ f') × (t ≡ t')
with_text kind id id' f f' t t' p q is =
    let e = same_field id id' (format_byte f ∷ t) (format_byte f' ∷ t') p q
    (behind_is kind kind (to_le_bytes w32 id ++ format_byte f ∷ t) (to_le_bytes w32 id' ++ format_byte f' ∷ t')
    is) in (
      e.0,
      same_format f f' (first_is (format_byte f) (format_byte f') t t' e.1),
      behind_is (format_byte f) (format_byte f') t t' e.1,
    )

pub one_change : (a b : Change) → IsInRange a → IsInRange b → written a ≡ written b → a ≡ b
one_change (registered id f t) (registered id' f' t') p q is = let e = with_text 1 id id' f f' t t' p.1 q.1 is in
    λ i. registered (e.0 i) (e.1 i) (e.2 i)
one_change (registered id f t) (revised id' f' t') p q is =
    absurd (omega (
      arith,
      first_is 1 2 (to_le_bytes w32 id ++ format_byte f ∷ t) (to_le_bytes w32 id' ++ format_byte f'
          ∷ t') is,
    ))
one_change (registered id f t) (withdrawn id') p q is =
    absurd (omega (arith, first_is 1 3 (to_le_bytes w32 id ++ format_byte f ∷ t) (to_le_bytes w32 id') is))
one_change (revised id f t) (registered id' f' t') p q is =
    absurd (omega (
      arith,
      first_is 2 1 (to_le_bytes w32 id ++ format_byte f ∷ t) (to_le_bytes w32 id' ++ format_byte f'
          ∷ t') is,
    ))
one_change (revised id f t) (revised id' f' t') p q is = let e = with_text 2 id id' f f' t t' p.1 q.1 is in
    λ i. revised (e.0 i) (e.1 i) (e.2 i)
one_change (revised id f t) (withdrawn id') p q is =
    absurd (omega (arith, first_is 2 3 (to_le_bytes w32 id ++ format_byte f ∷ t) (to_le_bytes w32 id') is))
one_change (withdrawn id) (registered id' f' t') p q is =
    absurd (omega (arith, first_is 3 1 (to_le_bytes w32 id) (to_le_bytes w32 id' ++ format_byte f' ∷ t') is))
one_change (withdrawn id) (revised id' f' t') p q is =
    absurd (omega (arith, first_is 3 2 (to_le_bytes w32 id) (to_le_bytes w32 id' ++ format_byte f' ∷ t') is))
one_change (withdrawn id) (withdrawn id') p q is =
    let e = same_field id id' [] [] p.1 q.1
    (ap (λ (l : List ℕ). l ++ []) (behind_is 3 3 (to_le_bytes w32 id) (to_le_bytes w32 id') is)) in
    λ i. withdrawn (e.0 i)

same_changes : (cs ds : List Change) → AllByRecursion IsLogged cs → AllByRecursion IsLogged ds
    → payloads cs ≡ payloads ds → cs ≡ ds
same_changes [] [] p q is = refl
same_changes [] (d ∷ ds) p q is = cc is
same_changes (c ∷ cs) [] p q is = cc is
same_changes (c ∷ cs) (d ∷ ds) p q is =
    let first = one_change c d p.0.0 q.0.0 (head_is (written c) (written d) (payloads cs) (payloads ds) is) in
    let rest = same_changes cs ds p.1 q.1 (tail_is (written c) (written d) (payloads cs) (payloads ds) is) in
    λ i. first i ∷ rest i

pub one_log : (front : List ℕ) (before : List (List ℕ)) (cs ds : List Change) (bytes : List ℕ)
    → IsLog front before cs bytes → IsLog front before ds bytes → cs ≡ ds
one_log front before cs ds bytes p q = same_changes cs ds p.logged q.logged
    (same_behind before (payloads cs) (payloads ds)
    (one_list front (before ++ payloads cs) (before ++ payloads ds) bytes p.opens q.opens))
