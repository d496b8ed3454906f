-- Places in a base and in a log, and where one may not go on.
use Rattle.std.proofs.Common.{◌≡◌, ◌+◌, ◌*◌, ◌++◌, ◌≤◌, ◌∙◌, ap, append_assoc, arith, inl, inr, length, length-append, List, [], ◌∷◌, map, subst, sym, ℕ}
use Rattle.std.proofs.lemmas.List.{append-nil, map-append}
use Rattle.std.specs.Int.{to_le_bytes, w32}
use Rattle.std.specs.List.{AllByRecursion}
use Rattle.commit_log.specs.Base as base
use Rattle.commit_log.specs.Base.{AreEntries, TakesBase, base_payloads, entries_of}
use Rattle.commit_log.specs.Change.{Change as Logged, change_of, written}
use Rattle.commit_log.specs.Entry as entry
use Rattle.commit_log.specs.Entry.{Entry, entry_of}
use Rattle.commit_log.specs.Log.{IsLogged, Takes, changes_of, end_of, payloads, placed}
use Rattle.commit_log.specs.declared.base.BaseEntry.{BaseEntry}
use Rattle.commit_log.specs.declared.change.Commit.{Commit}
use Rattle.journal_core.proofs.FrontLaws.{front_push}
use Rattle.journal_core.specs.Fronts.{BeginsAt, front_of}
use Rattle.journal_core.proofs.RecordLaws.{length-prefix_push}
use Rattle.journal_core.specs.Records.{body, prefix}
use Rattle.journal_core.specs.declared.format.TheConstants.{LONGEST_PAYLOAD}
use Rattle.journal_core.specs.declared.header.Header.{Header}
use Rattle.store_disk.specs.Loads.{LacksStructure, MayNotFollow}
use Rattle.store_disk.specs.Replays.{LacksText, Stops}

-- the end of a base is not far, nor is that of a log
pub base-near : (version last at : ℕ) (es : List Entry) → AreEntries version last es
    → base.end_of at es ≤ at + (5 + LONGEST_PAYLOAD) * length es
base-near version last at [] are = omega arith
base-near version last at (e ∷ es) are =
    omega (arith, base-near version e.id (at + 4 + length (entry.written e)) es are.2, are.1)

pub end-near : (at : ℕ) (cs : List Logged) → AllByRecursion IsLogged cs
    → end_of at cs ≤ at + (5 + LONGEST_PAYLOAD) * length cs
end-near at [] all = omega arith
end-near at (c ∷ cs) all = omega (arith, end-near (at + 5 + length (written c)) cs all.1, all.0.1)

-- a place is the length of what stands before it
length-front_push : (h : Header) (ps : List (List ℕ)) (p : List ℕ)
    → length (front_of h (ps ++ p ∷ [])) ≡ length (front_of h ps) + 4 + length p
length-front_push h ps p = omega (
  arith,
  ap (λ (l : List ℕ). length l) (front_push h ps p),
  length-append (front_of h ps) (body p),
  length-append (to_le_bytes w32 (length p)) p,
)

base-end-is : (h : Header) (ps : List (List ℕ)) (es : List Entry)
    → base.end_of (length (front_of h ps)) es ≡ length (front_of h (ps ++ base_payloads es))
base-end-is h ps [] = ap (λ (l : List (List ℕ)). length (front_of h l)) (sym (append-nil ps))
base-end-is h ps (e ∷ es) =
    ap (λ n. base.end_of n es) (sym (length-front_push h ps (entry.written e)))
    ∙ (base-end-is h (ps ++ entry.written e ∷ []) es ∙ ap (λ (l : List (List ℕ)). length (front_of h l))
    (append_assoc ps (entry.written e ∷ []) (base_payloads es)))

end-is : (front : List ℕ) (ps : List (List ℕ)) (cs : List Logged)
    → end_of (length (prefix front ps)) cs ≡ length (prefix front (ps ++ payloads cs))
end-is front ps [] = ap (λ (l : List (List ℕ)). length (prefix front l)) (sym (append-nil ps))
end-is front ps (c ∷ cs) =
    ap (λ n. end_of n cs) (sym (length-prefix_push front ps (written c)))
    ∙ (end-is front (ps ++ written c ∷ []) cs ∙ ap (λ (l : List (List ℕ)). length (prefix front l))
    (append_assoc ps (written c ∷ []) (payloads cs)))

-- where the entries before one end, its record stands; and so for commits
abbrev base-with-place : ℕ × BaseEntry → ℕ × Entry
base-with-place one = (one.0, entry_of one.1)

abbrev one-entry : ℕ × BaseEntry → Entry
one-entry one = entry_of one.1

abbrev with-place : Commit → ℕ × Logged
with-place c = (c.at, change_of c.wire)

first-place : {A : Type 0} (a b : ℕ × A) (xs ys : List (ℕ × A)) → a ∷ xs ≡ b ∷ ys → a.0 ≡ b.0
first-place {A} a b xs ys e = ap (λ (p : ℕ × A). p.0) (first e)
  where
    first : a ∷ xs ≡ b ∷ ys → a ≡ b
    first e = cc e

later-places : {A : Type 0} (a b : ℕ × A) (xs ys : List (ℕ × A)) → a ∷ xs ≡ b ∷ ys → xs ≡ ys
later-places a b xs ys e = cc e

base-place-of : (at : ℕ) (before : List (ℕ × BaseEntry)) (one : ℕ × BaseEntry) (more : List (ℕ × BaseEntry))
    → map base-with-place (before ++ one ∷ more) ≡ base.placed at (entries_of (before ++ one ∷ more))
    → one.0 ≡ base.end_of at (entries_of before)
base-place-of at [] one more e = first-place _ _ _ _ e
base-place-of at (b ∷ before) one more e =
    base-place-of (at + 4 + length (entry.written (entry_of b.1))) before one more (later-places _ _ _ _ e)

place-of : (at : ℕ) (before : List Commit) (c : Commit) (more : List Commit)
    → map with-place (before ++ c ∷ more) ≡ placed at (changes_of (before ++ c ∷ more))
    → c.at ≡ end_of at (changes_of before)
place-of at [] c more e = first-place _ _ _ _ e
place-of at (b ∷ before) c more e =
    place-of (at + 5 + length (written (change_of b.wire))) before c more (later-places _ _ _ _ e)

-- a base that has entries begins behind a header of format 2
begins-second : (h : Header) (place : ℕ) → BeginsAt h place → 1 ≤ h.base_count → place ≡ length (front_of h [])
unfolding front_of
begins-second h place (inl one) some =
    let none : h.base_count ≡ 0 = ap (λ (k : Header). k.base_count) one.1 in absurd (omega (arith, none, some))
begins-second h place (inr two) some = omega (arith, two)

some-of : {A : Type 0} (before : List A) (one : A) (more xs : List A) → xs ≡ before ++ one ∷ more
    → 1 ≤ length xs
some-of {A} before one more xs is =
    omega (arith, ap (λ (l : List A). length l) is, length-append before (one ∷ more))

-- a text without a structure is one of a base that was read
pub lacks-structure : (h : Header) (found : List (ℕ × BaseEntry)) (start end at : ℕ) → BeginsAt h start
    → length found ≡ h.base_count → TakesBase h.base_version start found end → LacksText found at
    → LacksStructure h (entries_of found) at
lacks-structure h found start end at begins count takes lacks =
    let is : entries_of found ≡ entries_of lacks.before ++ entry_of lacks.one.1 ∷ entries_of lacks.more =
    ap entries_of lacks.is ∙ map-append one-entry lacks.before (lacks.one ∷ lacks.more) in
    let some : 1 ≤ length found = some-of lacks.before lacks.one lacks.more found lacks.is in
    let first = begins-second h start begins (omega (arith, some, count)) in
    record {
      before = entries_of lacks.before;
      entry = entry_of lacks.one.1;
      more = entries_of lacks.more;
      is = is;
      place = lacks.place
          ∙ (base-place-of start lacks.before lacks.one lacks.more
          (subst (λ l. map base-with-place l ≡ base.placed start (entries_of l)) lacks.is takes.places)
          ∙ (ap (λ n. base.end_of n (entries_of lacks.before)) first
          ∙ base-end-is h [] (entries_of lacks.before)));
      sound = lacks.sound;
      none = lacks.none;
    }

-- a log that stops does not follow the base
pub may-not-follow : (version : ℕ) (entries : List Entry) (front : List ℕ) (log : List Commit) (start end at : ℕ)
    → start ≡ length (prefix front []) → Takes start log end → Stops version entries log at
    → MayNotFollow version entries front (changes_of log) at
may-not-follow version entries front log start end at begins takes stops = record {
  before = changes_of stops.before;
  change = change_of stops.commit.wire;
  more = changes_of stops.more;
  is = ap changes_of stops.is
      ∙ map-append (λ (c : Commit). change_of c.wire) stops.before (stops.commit ∷ stops.more);
  place = stops.place
      ∙ (place-of start stops.before stops.commit stops.more
      (subst (λ l. map with-place l ≡ placed start (changes_of l)) stops.is takes.places)
      ∙ (ap (λ n. end_of n (changes_of stops.before)) begins ∙ end-is front [] (changes_of stops.before)));
  history = stops.history;
  few = stops.few;
  refused = stops.refused;
}
