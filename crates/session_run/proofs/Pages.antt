-- The pages of a search: one by one, and together.
use Rattle.std.proofs.Common.{◌≡◌, ◌≢◌, ◌≤◌, ◌++◌, ◌∙◌, ap, append-nil, arith, Bool, Err, false, inl, inr, length, List, [], ◌∷◌, map, Ok, OnErr, OnOk, refl, Result, subst, suc, sym, true, ℕ}
use Rattle.std.specs.Prelude.{is_ok}
use Rattle.std.specs.declared.alloc.AllocError.{AllocError}
use Rattle.par_search.specs.Moves.{IsEnded, after, place_behind}
use Rattle.par_search.specs.Rooms.{HasNothing}
use Rattle.par_search.specs.Searches.{SearchTerm, calls_at, is_worn, next_calls, place_after}
use Rattle.par_search.specs.declared.fault.SearchFault.{SearchFault}
use Rattle.par_search.specs.declared.fault.SearchFault.TheVariants as faults
use Rattle.par_search.specs.declared.room.PageHits.{PageHits}
use Rattle.shell_lang.specs.Reply as line
use Rattle.shell_lang.specs.Reply.{text_of}
use Rattle.smarts_parse.specs.Pattern.{PatternTerm, pattern_of}
use Rattle.store_core.specs.Calls.{WornAs}
use Rattle.store_core.specs.Records.{Shared, founds}
use Rattle.store_machine.specs.Answers.{AreMatched}
use Rattle.store_machine.specs.Searches.{Place, At, End}
use Rattle.store_machine.specs.declared.machine.Event.TheVariants as events
use Rattle.store_machine.specs.declared.machine.Found.{Found}
use Rattle.store_machine.specs.declared.machine.Reply.TheVariants as replies
use Rattle.session_acts.specs.Cursors.{Calls}
use Rattle.session_run.specs.Walks.{ArePartlyWritten, AreWritten, IsLost, Pages}
use Rattle.session_run.specs.declared.listing.Shown.{Shown}

-- no more are matched than there are
pub matched_few : (pattern : PatternTerm) (records : List Found) (hits : List ℕ) → AreMatched pattern records hits
    → length hits ≤ length records
matched_few pattern [] hits m = omega (arith, ap length m)
matched_few pattern (r ∷ rs) hits (inl m) = let k = matched_few pattern rs m.1 m.3 in omega (arith, k, ap length m.2)
matched_few pattern (r ∷ rs) hits (inr m) = let k = matched_few pattern rs hits m.1 in omega (arith, k)

pub written : (hits out out' : List ℕ) (r : Result (Unit {0}) AllocError)
    → OnOk r (out' ≡ out ++ text_of (map line.Hit hits))
    → OnErr r (ArePartlyWritten hits out out') → AreWritten (is_ok r) hits out out'
written hits out out' (Ok _) ok err = ok
written hits out out' (Err _) ok err = err

-- nothing is written of no hits
unwritten : (out out' : List ℕ) (w : Bool) → AreWritten w [] out out' → out' ≡ out
unwritten out out' true e = e ∙ append-nil out
unwritten out out' false p = p.3
    ∙ (ap (λ (s : List ℕ). out ++ text_of (map line.Hit s)) (none p.0 p.1 p.2) ∙ append-nil out) where
      none : (some others : List ℕ) → [] ≡ some ++ others → some ≡ []
      none [] others e = refl
      none (x ∷ xs) others e = cc

pub founds-length : (records : List Shared) → length (founds records) ≡ length records
founds-length [] = refl
founds-length (r ∷ rs) = ap suc (founds-length rs)

abbrev pub failed : SearchFault → Result PageHits SearchFault
failed fault = Err fault

abbrev pub unshown : SearchFault → Result Shown SearchFault
unshown fault = Err fault

-- the search at another place
abbrev pub moved_to : SearchTerm → Place → SearchTerm
moved_to search place = record search { place = place }

-- a worn service, by where the search is
pub worn_by : (place : Place) (fault : SearchFault) (none : Type 0) (before worn : Type 0)
    → (place ≡ End → IsEnded (failed fault) × none)
    → (place ≢ End → WornAs before worn (is_worn (failed fault))) → fault ≡ faults.Worn → worn
worn_by End fault none before worn ended w e = absurd (ended refl).0
worn_by (At from) fault none before worn ended w e = (w (λ k. cc)).1 (ap (λ (f : SearchFault). is_worn (failed f)) e)

module _ (Made : Calls → Type 0) (IsWorn : Type 0) (old new : SearchTerm) (out out' : List ℕ) where
  -- a page that was shown
  pub page_shown : (page : PageHits) (w : Bool) (shown : Shown)
      → new ≡ after old (Ok page) → Made (next_calls old (Ok page)) → (old.place ≡ End → HasNothing page)
      → AreMatched (pattern_of old.pattern) (founds page.records.now) page.hits.now
      → page.tried ≡ length page.records.now → AreWritten w page.hits.now out out'
      → shown.tried ≡ page.tried → shown.hits ≡ length page.hits.now → shown.last ≡ page.last → shown.whole ≡ w
      → Pages Made IsWorn old new out out' (Ok shown)
  page_shown page w shown n made ended m tried wr t h l e = by old.place refl where
    by : (p : Place) → old.place ≡ p → Pages Made IsWorn old new out out' (Ok shown)
    by (At from) q = inl (record {
      from = from;
      records = founds page.records.now;
      hits = page.hits.now;
      place = q;
      made = subst (λ (b : Bool). Made
          ((events.Fetch old.slot old.want from old.size, replies.Page (founds page.records.now) b) ∷ [])) (sym l)
          (subst (λ (p : Place). Made (calls_at p old (Ok page))) q made);
      matched = m;
      moved = n ∙ (ap (λ (p : Place). moved_to old (place_behind p page)) q
          ∙ ap (λ (b : Bool). moved_to old (place_after from (founds page.records.now) b)) (sym l));
      tried = t ∙ (tried ∙ sym (founds-length page.records.now));
      count = h;
      written = subst (λ (b : Bool). AreWritten b page.hits.now out out') (sym e) wr;
    })
    by End q =
        let nothing = ended q in
        inr (record {
          place = q;
          made = subst (λ (p : Place). Made (calls_at p old (Ok page))) q made;
          same = n ∙ (ap (λ (p : Place). moved_to old (place_behind p page)) q
              ∙ ap (λ (p : Place). moved_to old p) (sym q));
          unwritten = unwritten out out' w (subst (λ (hs : List ℕ). AreWritten w hs out out') nothing.hits wr);
          tried = t ∙ nothing.tried;
          count = h ∙ ap length nothing.hits;
          last = l ∙ nothing.last;
        })

  -- a page that was not fetched
  pub page_failed : (fault : SearchFault) → new ≡ after old (Err fault) → Made (next_calls old (Err fault))
      → fault ≢ faults.Pins → (fault ≡ faults.Worn → IsWorn) → out' ≡ out → Pages Made IsWorn old new out out' (Err fault)
  page_failed faults.Pins n made pins worn o = pins refl
  page_failed faults.Worn n made pins worn o = (by old.place made, n, o, worn refl) where
    by : (p : Place) → Made (calls_at p old (Err faults.Worn)) → Made []
    by (At from) m = m
    by End m = m
  page_failed faults.NoMemory n made pins worn o = by old.place refl where
    by : (p : Place) → old.place ≡ p → IsLost Made old new out out'
    by (At from) q = record {
      calls = (events.Fetch old.slot old.want from old.size, replies.NoMemory) ∷ [];
      made = subst (λ (p : Place). Made (calls_at p old (Err faults.NoMemory))) q made;
      by = inr (from, q, refl);
      same = n;
      unwritten = o;
    }
    by End q = record {
      calls = [];
      made = subst (λ (p : Place). Made (calls_at p old (Err faults.NoMemory))) q made;
      by = inl refl;
      same = n;
      unwritten = o;
    }

-- nothing was asked
pub lost_none : (Made : Calls → Type 0) (s : SearchTerm) (out out' : List ℕ) → Made [] → out' ≡ out
    → IsLost Made s s out out'
lost_none Made s out out' m e = record { calls = []; made = m; by = inl refl; same = refl; unwritten = e }

-- no memory was found for a text
pub lost_exit : (Made : Calls → Type 0) (IsWorn : Type 0) (s : SearchTerm) (out out' : List ℕ) (r : Result Shown SearchFault)
    → (y : SearchFault) × (r ≡ unshown y) × (y ≡ faults.NoMemory) → Made [] → out' ≡ out → Pages Made IsWorn s s out out' r
lost_exit Made IsWorn s out out' r p m e =
    subst (λ (x : Result Shown SearchFault). Pages Made IsWorn s s out out' x) (sym (p.1 ∙ ap unshown p.2))
    (lost_none Made s out out' m e)
