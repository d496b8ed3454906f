-- Entries of a base that are taken one after the other.
use Rattle.std.proofs.Common.{◌≡◌, ℕ, ◌+◌, List, [], ◌∷◌, ◌++◌, length, refl, sym, ◌∙◌, ap, subst}
use Rattle.std.proofs.lemmas.List.{map-append}
use Rattle.commit_log.specs.Base.{AreEntries, Follows, TakesBase, base_payloads, end_of, entries_of, last_id, placed}
use Rattle.commit_log.specs.Entry.{Entry, entry_of, written}
use Rattle.commit_log.specs.declared.base.BaseEntry.{BaseEntry}
use Rattle.journal_core.specs.Records.{IsShort}

pub payloads_push : (entries : List Entry) (e : Entry) → base_payloads (entries ++ e ∷ []) ≡ base_payloads entries
    ++ written e ∷ []
payloads_push entries e = map-append written entries (e ∷ [])

pub entries_push : (found : List (ℕ × BaseEntry)) (one : ℕ × BaseEntry) → entries_of (found ++ one ∷ [])
    ≡ entries_of found ++ entry_of one.1 ∷ []
entries_push found one = map-append (λ (o : ℕ × BaseEntry). entry_of o.1) found (one ∷ [])

pub last_push : (last : ℕ) (entries : List Entry) (e : Entry) → last_id last (entries ++ e ∷ []) ≡ e.id
last_push last [] e = refl
last_push last (o ∷ entries) e = last_push o.id entries e

end_push : (at : ℕ) (entries : List Entry) (e : Entry) → end_of at (entries ++ e ∷ []) ≡ end_of at entries + 4
    + length (written e)
end_push at [] e = refl
end_push at (o ∷ entries) e = end_push (at + 4 + length (written o)) entries e

placed_push : (at : ℕ) (entries : List Entry) (e : Entry) → placed at (entries ++ e ∷ []) ≡ placed at entries
    ++ (end_of at entries, e) ∷ []
placed_push at [] e = refl
placed_push at (o ∷ entries) e = ap (λ (l : List (ℕ × Entry)). (at, o) ∷ l)
    (placed_push (at + 4 + length (written o)) entries e)

are_push : (version last : ℕ) (entries : List Entry) (e : Entry) → AreEntries version last entries
    → Follows version (last_id last entries) e → IsShort (written e) → AreEntries version last (entries ++ e ∷ [])
are_push version last [] e all follows short = (follows, short, tt)
are_push version last (o ∷ entries) e all follows short =
    (all.0, all.1, are_push version o.id entries e all.2 follows short)

pub takes_none : (version start : ℕ) → TakesBase version start [] start
takes_none version start = record { places = refl; ends = refl; entries = tt }

pub takes_more : (version start end : ℕ) (found : List (ℕ × BaseEntry)) (one : ℕ × BaseEntry)
    → TakesBase version start found end → one.0 ≡ end
    → Follows version (last_id 0 (entries_of found)) (entry_of one.1) → IsShort (written (entry_of one.1))
    → TakesBase version start (found ++ one ∷ []) (end + 4 + length (written (entry_of one.1)))
takes_more version start end found one takes at follows short =
    let e = entry_of one.1 in
    let more = entries_push found one in
    record {
      places = map-append (λ (o : ℕ × BaseEntry). (o.0, entry_of o.1)) found (one ∷ [])
          ∙ (λ i. takes.places i ++ ((at ∙ takes.ends) i, e) ∷ [])
          ∙ sym (placed_push start (entries_of found) e)
          ∙ ap (λ (es : List Entry). placed start es) (sym more);
      ends = ap (λ (n : ℕ). n + 4 + length (written e)) takes.ends
          ∙ sym (end_push start (entries_of found) e) ∙ ap (λ (es : List Entry). end_of start es) (sym more);
      entries = subst (AreEntries version 0) (sym more)
          (are_push version 0 (entries_of found) e takes.entries follows short);
    }
