-- A search that is listed batch by batch, and its end.
use Rattle.std.proofs.Common.{◌≡◌, ◌++◌, ◌+◌, ◌∙◌, ap, append-nil, append_assoc, arith, Bool, Err, false, inl, inr, length, length-append, List, [], ◌∷◌, map, Ok, refl, Result, subst, sym, true, ℕ}
use Rattle.std.proofs.lemmas.List.{map-append}
use Rattle.par_search.specs.Fetches.{AreFetches}
use Rattle.par_search.specs.Searches.{SearchTerm}
use Rattle.par_search.specs.declared.fault.SearchFault.{SearchFault}
use Rattle.par_search.specs.declared.fault.SearchFault.TheVariants as faults
use Rattle.par_search.proofs.Paged.{pages-append}
use Rattle.shell_lang.specs.Reply as line
use Rattle.shell_lang.specs.Reply.{reply_line, text_of}
use Rattle.smarts_parse.specs.Pattern.{pattern_of}
use Rattle.store_core.specs.declared.service.Service as meaning
use Rattle.store_machine.specs.Answers.{AreMatched}
use Rattle.store_machine.specs.Searches.{Place, At, fetched, records_of}
use Rattle.store_machine.specs.Structures.{IsNeedOf}
use Rattle.session_acts.specs.Acts.{Lines}
use Rattle.session_acts.specs.Cursors.{Calls, IsSearched}
use Rattle.session_acts.proofs.Held.{leave-same}
use Rattle.session_acts.proofs.LookedUp.{fetches_leave}
use Rattle.session_acts.proofs.Listings.{searched_more, searched_none}
use Rattle.session_run.specs.Made.{Uses}
use Rattle.session_run.specs.Walks.{ArePartlyWritten, AreWritten, Listing, Pages, Stretch}
use Rattle.session_run.specs.declared.listing.Shown.{Shown}
use Rattle.session_run.proofs.Pages.{moved_to}

pub text-append : (xs ys : Lines) → text_of (xs ++ ys) ≡ text_of xs ++ text_of ys
text-append [] ys = refl
text-append (x ∷ xs) ys = ap (λ t. reply_line x ++ t) (text-append xs ys)
    ∙ sym (append_assoc (reply_line x) (text_of xs) (text_of ys))

pub hits-append : (xs ys : List ℕ)
    → text_of (map line.Hit (xs ++ ys)) ≡ text_of (map line.Hit xs) ++ text_of (map line.Hit ys)
hits-append xs ys = ap text_of (map-append line.Hit xs ys) ∙ text-append (map line.Hit xs) (map line.Hit ys)

-- hits that are written behind hits
behind : (out hits more : List ℕ)
    → (out ++ text_of (map line.Hit hits)) ++ text_of (map line.Hit more) ≡ out ++ text_of (map line.Hit (hits ++ more))
behind out hits more =
    append_assoc out (text_of (map line.Hit hits)) (text_of (map line.Hit more))
    ∙ ap (λ t. out ++ t) (sym (hits-append hits more))

written_more : (w : Bool) (hits more out out' out'' : List ℕ) → out' ≡ out ++ text_of (map line.Hit hits)
    → AreWritten w more out' out'' → AreWritten w (hits ++ more) out out''
written_more true hits more out out' out'' e f =
    f ∙ (ap (λ t. t ++ text_of (map line.Hit more)) e ∙ behind out hits more)
written_more false hits more out out' out'' e p = (
  hits ++ p.0,
  p.1,
  ap (λ l. hits ++ l) p.2 ∙ sym (append_assoc hits p.0 p.1),
  p.3 ∙ (ap (λ t. t ++ text_of (map line.Hit p.0)) e ∙ behind out hits p.0),
)

pub partly : (w : Bool) (hits out out' : List ℕ) → AreWritten w hits out out' → ArePartlyWritten hits out out'
partly true hits out out' e = (hits, [], sym (append-nil hits), e)
partly false hits out out' p = p

-- pages of a search from its beginning to a place, that want this
abbrev SearchedTo : SearchTerm → List Bool → Place → Calls → ℕ → List ℕ → Type 0
SearchedTo begun want place pages tried hits =
    (t : IsSearched (pattern_of begun.pattern) begun.slot begun.size place pages tried hits) × (t.want ≡ want)

-- before the first page
pub listing_none : (Made : Calls → Type 0) (s : SearchTerm) (out : List ℕ) → Made [] → s.place ≡ At 0
    → IsNeedOf (pattern_of s.pattern) s.want → Listing Made s s 0 0 out true out
listing_none Made s out m e need =
    let none = searched_none (pattern_of s.pattern) s.want s.slot s.size need in
    let there = subst (λ (p : Place). SearchedTo s s.want p [] 0 []) (sym e) none in
    record {
      pages = [];
      hits = [];
      made = m;
      searched = there.0;
      want = there.1;
      moved = refl;
      length_is = refl;
      written = sym (append-nil out);
      answered = λ e. tt;
    }

not_whole : false ≡ true → ⊥
not_whole e = cc

-- whether all is written or a part
pub listing_cut : {Made : Calls → Type 0} {begun now : SearchTerm} {tried count : ℕ} {out out' : List ℕ} {w : Bool}
    → Listing Made begun now tried count out w out' → Listing Made begun now tried count out false out'
listing_cut {out = out} {out' = out'} {w = w} l = record {
  pages = l.pages;
  hits = l.hits;
  made = l.made;
  searched = l.searched;
  want = l.want;
  moved = l.moved;
  length_is = l.length_is;
  written = partly w l.hits out out' l.written;
  answered = λ e. absurd (not_whole e);
}

module _ {First Next All : Calls → Type 0} {begun now new : SearchTerm} {tried count : ℕ} {out out' out'' : List ℕ}
    (joins : (xs ys : Calls) → First xs → Next ys → All (xs ++ ys)) (l : Listing First begun now tried count out true out') where
  -- more pages
  pub listing_more : {more extra : ℕ} {w : Bool} → Stretch Next now new more extra out' w out''
      → Listing All begun new (tried + more) (count + extra) out w out''
  listing_more {more} {extra} {w} p = record {
    pages = l.pages ++ p.pages;
    hits = l.hits ++ p.hits;
    made = joins l.pages p.pages l.made p.made;
    searched = there.0;
    want = there.1 ∙ l.want;
    moved = p.moved ∙ ap (λ (s : SearchTerm). moved_to s new.place) l.moved;
    length_is = omega (arith, length-append l.hits p.hits, l.length_is, p.length_is);
    written = written_more w l.hits p.hits out out' out'' l.written p.written;
    answered = λ e. pages-append l.pages p.pages (l.answered refl) (p.answered e);
  } where
    fetches : AreFetches begun.slot begun.size l.searched.want now.place p.pages new.place
    fetches = subst (λ (want : List Bool). AreFetches begun.slot begun.size want now.place p.pages new.place)
        (sym l.want)
        (subst (λ (s : SearchTerm). AreFetches s.slot s.size s.want now.place p.pages new.place) l.moved p.fetches)

    number : more ≡ length (records_of (fetched begun.slot p.pages))
    number = subst (λ (s : SearchTerm). more ≡ length (records_of (fetched s.slot p.pages))) l.moved p.count_is

    right : AreMatched (pattern_of begun.pattern) (records_of (fetched begun.slot p.pages)) p.hits
    right = subst
        (λ (s : SearchTerm). AreMatched (pattern_of s.pattern) (records_of (fetched s.slot p.pages)) p.hits) l.moved
        p.matched

    there : SearchedTo begun l.searched.want new.place (l.pages ++ p.pages) (tried + more) (l.hits ++ p.hits)
    there = searched_more (pattern_of begun.pattern) begun.slot begun.size now.place new.place l.pages p.pages tried more
        l.hits p.hits l.searched (l.answered refl) fetches number right

-- a batch that is counted
pub listing_counted : {Made : Calls → Type 0} {begun now : SearchTerm} {out out' : List ℕ} {w : Bool}
    {tried count tried' count' : ℕ} → Listing Made begun now tried count out w out' → tried' ≡ tried → count' ≡ count
    → Listing Made begun now tried' count' out w out'
listing_counted {Made} {begun} {now} {out} {out'} {w} {tried} {count} {tried'} {count'} l t h =
    subst (λ (n : ℕ). Listing Made begun now n count' out w out') (sym t)
    (subst (λ (n : ℕ). Listing Made begun now tried n out w out') (sym h) l)

-- a page moves its search alone
pub page_size : (Made : Calls → Type 0) (IsWorn : Type 0) (old new : SearchTerm) (out out' : List ℕ)
    (r : Result Shown SearchFault) → Pages Made IsWorn old new out out' r → new.size ≡ old.size
page_size Made IsWorn old new out out' (Ok shown) (inl p) = ap (λ (s : SearchTerm). s.size) p.moved
page_size Made IsWorn old new out out' (Ok shown) (inr p) = ap (λ (s : SearchTerm). s.size) p.same
page_size Made IsWorn old new out out' (Err faults.NoMemory) p = ap (λ (s : SearchTerm). s.size) p.same
page_size Made IsWorn old new out out' (Err faults.Worn) p = ap (λ (s : SearchTerm). s.size) p.1
page_size Made IsWorn old new out out' (Err faults.Pins) p = absurd p

-- its pin is held all the time
pub still_held : {S : Type 0} (of : meaning.Ghosts S) {a b : S} {begun now : SearchTerm} {tried count : ℕ}
    {out out' : List ℕ} {whole : Bool} → Listing (Uses of a b) begun now tried count out whole out'
    → of.holds a begun.slot begun.version → of.holds b now.slot now.version
still_held of {a} {b} {begun = begun} l h =
    let leave = leave-same (of.holds a) l.pages
    (fetches_leave begun.slot begun.size l.searched.want (At 0) _ l.pages l.searched.fetches) in
    subst (λ (s : SearchTerm). of.holds b s.slot s.version) (sym l.moved)
    ((l.made.pins.now begun.slot begun.version).1 ((leave begun.slot begun.version).1 h))
