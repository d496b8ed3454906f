-- The end of a search: its pin is given back, and its last line is said.
use Rattle.std.proofs.Common.{◌≡◌, ◌++◌, ◌∙◌, ap, append-nil, append_assoc, Bool, Err, false, IfSome, inl, inr, length, List, [], ◌∷◌, map, None, Ok, Option, refl, Result, Some, subst, sym, true, ℕ}
use Rattle.par_search.specs.Searches.{SearchTerm}
use Rattle.shell_lang.specs.Reply as line
use Rattle.shell_lang.specs.Reply.{reply_line, reply_of, text_of}
use Rattle.shell_lang.specs.declared.reply.Reply as written
use Rattle.smarts_parse.specs.Pattern.{pattern_of}
use Rattle.store_machine.specs.Searches.{Place, At, End}
use Rattle.store_machine.specs.declared.machine.Event.{Event}
use Rattle.store_machine.specs.declared.machine.Event.TheVariants as events
use Rattle.store_machine.specs.declared.machine.Reply.{Reply}
use Rattle.store_machine.specs.declared.machine.Reply.TheVariants as replies
use Rattle.session_acts.specs.Acts.{Answers, IsCutShort, Lines, Lists, MaySearch, Search, Searched}
use Rattle.session_acts.specs.Cursors.{Calls, Cursor, IsSearched}
use Rattle.session_acts.specs.Texts.{IsPatternOf}
use Rattle.dialogue.specs.Dialogue.{IsPrefixOf}
use Rattle.session_run.specs.Made.{Answered, Broken, Said, Tells, Unsaid}
use Rattle.session_run.specs.Searched.{IsLastLine, PinAnswer, Returns}
use Rattle.session_run.specs.Walks.{Broke, Listed, Listing, Part, Whole}
use Rattle.session_run.specs.declared.listing.Walk.{Walk}
use Rattle.dialogue.specs.declared.end.Stop.{Stop}
use Rattle.dialogue.specs.declared.end.Stop.TheVariants as stops
use Rattle.session_run.proofs.Listed.{text-append}

lists_cut : (place : Place) (version tried : ℕ) (hits : List ℕ) (lines : Lines) → IsCutShort hits lines
    → Lists place version tried hits lines
lists_cut End version tried hits lines c = inr c
lists_cut (At from) version tried hits lines c = c

abbrev pub unpin : ℕ → Calls
unpin slot = (events.Unpin slot, replies.Unpinned) ∷ []

-- its pin is the same
pub pin_kept : {Made : Calls → Type 0} {begun now : SearchTerm} {tried count : ℕ} {out out' : List ℕ} {whole : Bool}
    → Listing Made begun now tried count out whole out' → (now.slot ≡ begun.slot) × (now.version ≡ begun.version)
pin_kept l = (ap (λ (s : SearchTerm). s.slot) l.moved, ap (λ (s : SearchTerm). s.version) l.moved)

-- a search that was listed, whole or in part
abbrev pub AnyListing : (Calls → Type 0) → SearchTerm → SearchTerm → List ℕ → List ℕ → Type 0
AnyListing Made begun now out out' =
    (tried count : ℕ) × (whole : Bool) × Listing Made begun now tried count out whole out'

pub any_listing : {Made : Calls → Type 0} {IsWorn : Type 0} {old new : Walk} {out out' : List ℕ} (whole : Bool)
    → Listed Made IsWorn old new out out' (Ok whole) → AnyListing Made old.search new.search out out'
any_listing {new = new} true (Whole all ended) = (new.tried, new.hits, true, all)
any_listing false (Part tried count some) = (tried, count, false, some)

-- lines behind a text of hits
pub text_more : (out out' out'' some : List ℕ) (said : line.Reply) → out' ≡ out ++ text_of (map line.Hit some)
    → out'' ≡ out' ++ reply_line said → out'' ≡ out ++ text_of (map line.Hit some ++ said ∷ [])
text_more out out' out'' some said e f =
    f ∙ (ap (λ t. t ++ reply_line said) e ∙ (append_assoc out (text_of (map line.Hit some)) (reply_line said)
    ∙ ap (λ t. out ++ t) (ap (λ t. text_of (map line.Hit some) ++ t) (sym (append-nil (reply_line said)))
    ∙ sym (text-append (map line.Hit some) (said ∷ [])))))

said_behind : {X : Type 0} {Made : Calls → Type 0} {IsWorn : Type 0} {Is : Calls → Lines → X → Type 0} {x : X}
    {out out'' : List ℕ} (out' some : List ℕ) (calls : Calls) (one : line.Reply) (stop : Result (Unit {0}) Stop)
    → out' ≡ out ++ text_of (map line.Hit some) → Made calls → Is calls (map line.Hit some ++ one ∷ []) x
    → Tells one out' out'' stop → Answered Made IsWorn Is out out'' x stop
said_behind {out = out} {out'' = out''} out' some calls one (Ok u) e m is t =
    Said u (record { calls = calls; lines = map line.Hit some ++ one ∷ []; made = m; is = is })
    (text_more out out' out'' some one e t)
said_behind out' some calls one (Err stops.NoMemory) e m is t =
    Unsaid (record { calls = calls; lines = map line.Hit some ++ one ∷ []; made = m; is = is })
said_behind out' some calls one (Err stops.Worn) e m is t = absurd t

-- the service was worn before the pin was given back
pub listing_broken : {First Made : Calls → Type 0} {IsWorn : Type 0} {begun now : SearchTerm} {tried count : ℕ}
    {out out' out'' : List ℕ} {whole : Bool} (l : Listing First begun now tried count out whole out') (calls : Calls)
    → Made calls → IsPrefixOf calls (l.pages ++ unpin begun.slot) → IsWorn
    → Answered Made IsWorn (PinAnswer begun) out out'' tt (Err stops.Worn)
listing_broken {begun = begun} {now = now} {tried = tried} l calls made begins worn = Broken (record {
  calls = calls;
  whole = l.pages ++ unpin begun.slot;
  lines = line.MemoryFault ∷ [];
  after = tt;
  made = made;
  begins = begins;
  is = record {
    place = now.place;
    pages = l.pages;
    tried = tried;
    hits = l.hits;
    made = refl;
    searched = l.searched;
    lists = lists_cut now.place begun.version tried l.hits (line.MemoryFault ∷ []) ([], l.hits, refl, refl);
  };
  worn = worn;
})

pub listed_broken : {Made : Calls → Type 0} {IsWorn : Type 0} {old new : Walk} {out out' out'' : List ℕ} (stop : Stop)
    → Listed Made IsWorn old new out out' (Err stop)
    → Answered Made IsWorn (PinAnswer old.search) out out'' tt (Err stop)
listed_broken {old = old} stops.Worn (Broke tried count whole l worn) =
    listing_broken l l.pages l.made (unpin old.search.slot, refl) worn
listed_broken stops.NoMemory l = elim l [ ]

-- a part of the hits was listed
cut : {First Next All : Calls → Type 0} {IsWorn : Type 0} {begun now : SearchTerm} {tried count : ℕ} {whole : Bool}
    {out out' out'' : List ℕ} (joins : (xs ys : Calls) → First xs → Next ys → All (xs ++ ys))
    (l : Listing First begun now tried count out whole out') (some others : List ℕ) → l.hits ≡ some ++ others
    → out' ≡ out ++ text_of (map line.Hit some) → Next (unpin begun.slot)
    → (one : line.Reply) (stop : Result (Unit {0}) Stop) → one ≡ line.MemoryFault → Tells one out' out'' stop
    → Answered All IsWorn (PinAnswer begun) out out'' tt stop
cut {begun = begun} {now = now} {tried = tried} {out' = out'} joins l some others e o m one stop s t =
    said_behind out' some (l.pages ++ unpin begun.slot) one stop o (joins l.pages (unpin begun.slot) l.made m) (record {
      place = now.place;
      pages = l.pages;
      tried = tried;
      hits = l.hits;
      made = refl;
      searched = l.searched;
      lists = lists_cut now.place begun.version tried l.hits (map line.Hit some ++ one ∷ [])
          (some, others, e, ap (λ (r : line.Reply). map line.Hit some ++ r ∷ []) s);
    }) t

module _ {First Next All : Calls → Type 0} {FirstWorn IsWorn : Type 0}
    (joins : (xs ys : Calls) → First xs → Next ys → All (xs ++ ys)) {old new : Walk} {out out' : List ℕ} where
  -- its reply is not told
  pub unreturned : {out'' : List ℕ} (slot : ℕ) (whole : Bool) (stop : Stop)
      → Listed First FirstWorn old new out out' (Ok whole) → Returns Next IsWorn slot (Err stop)
      → Answered All IsWorn (PinAnswer old.search) out out'' tt (Err stop)
  unreturned slot whole stops.Worn l r =
      let a = any_listing whole l in
      let pages = a.3.pages in
      listing_broken a.3 (pages ++ []) (joins pages [] a.3.made r.0)
      (unpin old.search.slot, ap (λ (c : Calls). c ++ unpin old.search.slot) (append-nil pages)) r.1
  unreturned slot whole stops.NoMemory l r = absurd r

  -- the last line was said
  pub ended_said : {out'' : List ℕ} (whole : Bool) (end : Option written.Reply) (reply : written.Reply)
      (stop : Result (Unit {0}) Stop)
      → Listed First FirstWorn old new out out' (Ok whole) → Next (unpin new.search.slot)
      → IfSome end (λ r. reply_of r ≡ line.End new.search.version new.tried new.hits)
      → IsLastLine whole end reply → Tells (reply_of reply) out' out'' stop
      → Answered All IsWorn (PinAnswer old.search) out out'' tt stop
  ended_said true None reply stop (Whole l ended) m e is t =
      cut joins l l.hits [] (sym (append-nil l.hits)) l.written
      (subst (λ (n : ℕ). Next (unpin n)) (pin_kept l).0 m) (reply_of reply) stop is t
  ended_said false end reply stop (Part tried count l) m e is t =
      let w = l.written in
      cut joins l w.0 w.1 w.2 w.3 (subst (λ (n : ℕ). Next (unpin n)) (pin_kept l).0 m) (reply_of reply) stop is t
  ended_said true (Some r) reply stop (Whole l ended) m e is t =
      let kept = pin_kept l in
      let said : reply_of reply ≡ line.End old.search.version new.tried (length l.hits) =
      ap (λ (x : written.Reply). reply_of x) is ∙ (e
      ∙ (ap (λ v. line.End v new.tried new.hits) kept.1
      ∙ ap (λ n. line.End old.search.version new.tried n) l.length_is)) in
      said_behind out' l.hits (l.pages ++ unpin old.search.slot) (reply_of reply) stop l.written
      (joins l.pages (unpin old.search.slot) l.made (subst (λ (n : ℕ). Next (unpin n)) kept.0 m))
      (record {
        place = new.search.place;
        pages = l.pages;
        tried = new.tried;
        hits = l.hits;
        made = refl;
        searched = l.searched;
        lists = subst (λ (p : Place). Lists p old.search.version new.tried l.hits
            (map line.Hit l.hits ++ reply_of reply ∷ [])) (sym ended)
            (inl (ap (λ (x : line.Reply). map line.Hit l.hits ++ x ∷ []) said));
      }) t

-- a search behind its pin
abbrev pin_of : SearchTerm → Event × Reply
pin_of s = (events.Pin, replies.Pinned s.slot s.version)

to_search : {size : ℕ} {cursors : List Cursor} (text : List ℕ) (s : SearchTerm) → IsPatternOf text (pattern_of s.pattern)
    → s.size ≡ size → (calls : Calls) (lines : Lines) → PinAnswer s calls lines tt
    → Answers size (MaySearch text) cursors (pin_of s ∷ calls) lines cursors
to_search text s is size_is calls lines p = record {
  act = Search (pattern_of s.pattern);
  allowed = is;
  does = Searched (pattern_of s.pattern) (pin_of s ∷ calls) lines (record {
    slot = s.slot;
    version = s.version;
    place = p.place;
    pages = p.pages;
    tried = p.tried;
    hits = p.hits;
    made = ap (λ (c : Calls). pin_of s ∷ c) p.made;
    searched = subst (λ (n : ℕ). IsSearched (pattern_of s.pattern) s.slot n p.place p.pages p.tried p.hits)
        size_is p.searched;
    lists = p.lists;
  });
}

pub searched_from : {First Next All : Calls → Type 0} {IsWorn : Type 0} {size : ℕ} {cursors : List Cursor}
    {out out' : List ℕ} {stop : Result (Unit {0}) Stop} (joins : (xs ys : Calls) → First xs → Next ys → All (xs ++ ys))
    (text : List ℕ) (s : SearchTerm) → IsPatternOf text (pattern_of s.pattern) → s.size ≡ size
    → First (pin_of s ∷ []) → Answered Next IsWorn (PinAnswer s) out out' tt stop
    → Answered All IsWorn (Answers size (MaySearch text) cursors) out out' cursors stop
searched_from joins text s is size_is begun (Said u did e) = Said u (record {
  calls = pin_of s ∷ did.calls;
  lines = did.lines;
  made = joins (pin_of s ∷ []) did.calls begun did.made;
  is = to_search text s is size_is did.calls did.lines did.is;
}) e
searched_from joins text s is size_is begun (Unsaid did) = Unsaid (record {
  calls = pin_of s ∷ did.calls;
  lines = did.lines;
  made = joins (pin_of s ∷ []) did.calls begun did.made;
  is = to_search text s is size_is did.calls did.lines did.is;
})
searched_from {cursors = cursors} joins text s is size_is begun (Broken w) = Broken (record {
  calls = pin_of s ∷ w.calls;
  whole = pin_of s ∷ w.whole;
  lines = w.lines;
  after = cursors;
  made = joins (pin_of s ∷ []) w.calls begun w.made;
  begins = (w.begins.0, ap (λ (c : Calls). pin_of s ∷ c) w.begins.1);
  is = to_search text s is size_is w.whole w.lines w.is;
  worn = w.worn;
})
