-- What `open`, `next` and `close` answer, by the cursor of a name.
use Rattle.std.proofs.Common.{◌≡◌, ◌++◌, ◌∙◌, ap, append-nil, append_assoc, Bool, drop, Err, get_or, inl, inr, List, [], ◌∷◌, refl, Result, set, subst, suc, sym, take, ℕ}
use Rattle.std.specs.List.{remove}
use Rattle.par_search.specs.Searches.{HasBegun, SearchTerm}
use Rattle.shell_lang.specs.Reply as line
use Rattle.smarts_parse.specs.Pattern.{PatternTerm, pattern_of}
use Rattle.smarts_parse.specs.declared.pattern.Pattern.{Pattern}
use Rattle.store_machine.specs.Searches.{Place, At}
use Rattle.store_machine.specs.declared.machine.Event.TheVariants as events
use Rattle.store_machine.specs.declared.machine.Reply.TheVariants as replies
use Rattle.session_acts.specs.Acts.{Advances, Answers, Close, Closed, Fault, IsNamed, Lines, MayClose, MayOpen, MayTurn, Open, Opened, Turn, Turned, new_cursor}
use Rattle.session_acts.specs.Cursors.{Calls, Cursor, IsNoName, unpins}
use Rattle.session_acts.specs.Pins.{AreHeld, HeldAfter, HeldBy, MovePins, Returns, SameOthers}
use Rattle.session_acts.specs.Texts.{IsPatternOf}
use Rattle.dialogue.specs.Dialogue.{IsPrefixOf}
use Rattle.session_acts.proofs.Held.{held-at, held-same, held-without, others-without, same_others, same_others-more}
use Rattle.session_run.specs.Made.{Answered, Tells}
use Rattle.session_run.specs.Opened.{opened}
use Rattle.session_run.specs.Responds.{IsFit}
use Rattle.session_run.specs.Searched.{IsNew}
use Rattle.session_run.specs.Searched as searched
use Rattle.session_run.specs.Servable.{IsServable}
use Rattle.session_run.specs.Walks.{AreSized, CursorAnswer, IsNamedAt, cursor_of, cursors_of}
use Rattle.session_run.specs.declared.cursors.Cursor as rust
use Rattle.session_run.specs.declared.cursors.Cursors.{Cursors}
use Rattle.session_run.specs.declared.settings.Settings.{Settings}
use Rattle.dialogue.specs.declared.end.Stop.{Stop}
use Rattle.dialogue.specs.declared.end.Stop.TheVariants as stops
use Rattle.session_run.proofs.Ending.{unpin}
use Rattle.session_run.proofs.Lines.{answered_as, broken, noted, said}
use Rattle.session_run.proofs.Named.{pushed, removed, set-split, sized-at, sized-removed, sized-set, split}

-- the same cursors, told otherwise
pub still : {Made : Calls → Type 0} {IsWorn : Type 0} {Is : Calls → Lines → List Cursor → Type 0} {out out' : List ℕ}
    {items items' : List rust.Cursor} {result : Result (Unit {0}) Stop} → items' ≡ items
    → Answered Made IsWorn Is out out' (cursors_of items) result
    → Answered Made IsWorn Is out out' (cursors_of items') result
still {Made} {IsWorn} {Is} {out} {out'} {items} {items'} {result} e a =
    subst (λ (l : List rust.Cursor). Answered Made IsWorn Is out out' (cursors_of l) result) (sym e) a

pub fit_as : (old new : Cursors) → new.settings ≡ old.settings → AreSized old.settings.page (opened new) → IsFit old
    → IsFit new
fit_as old new e sized fit = record {
  servable = subst IsServable (sym e) fit.servable;
  sized = subst (λ (s : Settings). AreSized s.page (opened new)) (sym e) sized;
}

pub fit_same : (old new : Cursors) → new.settings ≡ old.settings → opened new ≡ opened old → IsFit old → IsFit new
fit_same old new e same fit =
    fit_as old new e (subst (λ (l : List rust.Cursor). AreSized old.settings.page l) (sym same) fit.sized) fit

pub fit_new : (s : Settings) (cursors : Cursors) → IsServable s → cursors.settings ≡ s → opened cursors ≡ []
    → IsFit cursors
fit_new s cursors servable e none = record {
  servable = subst IsServable (sym e) servable;
  sized = subst (λ (l : List rust.Cursor). AreSized cursors.settings.page l) (sym none) tt;
}

-- A cursor at the beginning of its search
abbrev cursor_with : List Bool → ℕ → ℕ → List ℕ → PatternTerm → Place → ℕ → ℕ → Cursor
cursor_with want slot version name pattern place tried hits = record {
  name = name;
  pattern = pattern;
  want = want;
  slot = slot;
  version = version;
  place = place;
  tried = tried;
  hits = hits;
}

same_with : (want : List Bool) (slot version : ℕ) (name name' : List ℕ) (p p' : PatternTerm) (place place' : Place)
    (tried tried' hits hits' : ℕ)
    → name' ≡ name → p' ≡ p → place' ≡ place → tried' ≡ tried → hits' ≡ hits
    → cursor_with want slot version name' p' place' tried' hits' ≡ cursor_with want slot version name p place tried hits
same_with want slot version name name' p p' place place' tried tried' hits hits' a b d e f = rw (a, b, d, e, f) refl

pub opens : {Made : Calls → Type 0} {IsWorn : Type 0} {size : ℕ} {out out' : List ℕ} {items' : List rust.Cursor}
    {result : Result (Unit {0}) Stop} (name text : List ℕ) (pattern : Pattern) (page : ℕ) (items : List rust.Cursor)
    (c : rust.Cursor) → c.name.items ≡ name → HasBegun pattern page c.walk.search → IsNew c.walk
    → IsPatternOf text (pattern_of pattern) → IsNoName (cursors_of items) name → items' ≡ items ++ c ∷ []
    → Made ((events.Pin, replies.Pinned c.walk.search.slot c.walk.search.version) ∷ [])
    → Tells (line.Opened c.walk.search.version) out out' result
    → Answered Made IsWorn (Answers size (MayOpen (cursors_of items) name text) (cursors_of items)) out out'
    (cursors_of items') result
opens {size = size} {result = result} name text pattern page items c n begun new is free e made t =
    let s : SearchTerm = c.walk.search in
    let calls = (events.Pin, replies.Pinned s.slot s.version) ∷ [] in
    let lines = line.Opened s.version ∷ [] in
    let p : pattern_of s.pattern ≡ pattern_of pattern = ap (λ (p : Pattern). pattern_of p) begun.pattern_is in
    let then : cursors_of (items ++ c ∷ [])
    ≡ cursors_of items ++ new_cursor name (pattern_of pattern) s.want s.slot s.version ∷ [] =
    pushed items c ∙ ap (λ (x : Cursor). cursors_of items ++ x ∷ [])
    (same_with s.want s.slot s.version name c.name.items (pattern_of pattern) (pattern_of s.pattern)
    (At 0) s.place 0 c.walk.tried 0 c.walk.hits n p begun.place new.tried new.hits) in
    still e (said calls (line.Opened s.version) result made
    (subst (λ (l : List Cursor). Answers size (MayOpen (cursors_of items) name text) (cursors_of items) calls lines l)
    (sym then) (record {
      act = Open name (pattern_of pattern);
      allowed = (refl, is);
      does = Opened name (pattern_of pattern) s.want s.slot s.version free begun.need;
    })) t)

-- The cursor of a name among the others
module _ (name : List ℕ) (items : List rust.Cursor) (place : ℕ) (x : rust.Cursor) (n : IsNamedAt items name place)
    (e : x ≡ get_or items place x) where
  abbrev before : List Cursor
  before = cursors_of (take place items)

  abbrev after : List Cursor
  after = cursors_of (drop (suc place) items)

  around : cursors_of items ≡ before ++ cursor_of x ∷ after
  around = split items place x n.within e

  is_named : IsNamed name (cursors_of items) before (cursor_of x) after
  is_named = record { place = around; named = ap (λ (y : rust.Cursor). y.name.items) e ∙ n.named x }

  pub pin_at : (held : ℕ → ℕ → Type 0) → AreHeld held (cursors_of items)
      → held x.walk.search.slot x.walk.search.version
  pin_at held h = held-at held before after (cursor_of x) (subst (AreHeld held) around h)

  pub size_at : (size : ℕ) → AreSized size items → x.walk.search.size ≡ size
  size_at size h = ap (λ (y : rust.Cursor). y.walk.search.size) e ∙ sized-at size items place x n.within h

  -- it is closed
  closing : (size : ℕ) → Answers size (MayClose (cursors_of items) name) (cursors_of items)
      (unpin x.walk.search.slot) (line.Closed ∷ []) (cursors_of (remove items place))
  closing size =
      subst (λ (l : List Cursor). Answers size (MayClose (cursors_of items) name) (cursors_of items)
      (unpin x.walk.search.slot) (line.Closed ∷ []) l) (sym (removed items place))
      (record { act = Close name; allowed = refl; does = Closed name before after (cursor_of x) is_named })

  pub closes : {Made : Calls → Type 0} {IsWorn : Type 0} {size : ℕ} {out out' : List ℕ} {items' : List rust.Cursor}
      {result : Result (Unit {0}) Stop} → items' ≡ remove items place → Made (unpin x.walk.search.slot)
      → Tells line.Closed out out' result
      → Answered Made IsWorn (Answers size (MayClose (cursors_of items) name) (cursors_of items)) out out'
      (cursors_of items') result
  closes {size = size} {result = result} r made t =
      still r (said (unpin x.walk.search.slot) line.Closed result made (closing size) t)

  -- or the service is worn before
  pub unclosed : {Made : Calls → Type 0} {IsWorn : Type 0} {size : ℕ} {out out' : List ℕ} (items' : List rust.Cursor)
      (stop : Stop) → searched.Returns Made IsWorn x.walk.search.slot (Err stop)
      → Answered Made IsWorn (Answers size (MayClose (cursors_of items) name) (cursors_of items)) out out'
      (cursors_of items') (Err stop)
  unclosed {size = size} items' stops.Worn r =
      broken (unpin x.walk.search.slot) (line.Closed ∷ []) (cursors_of (remove items place)) _ r.0 r.1 (closing size)
      refl
  unclosed items' stops.NoMemory r = absurd r

  pub sized_without : (size : ℕ) {items' : List rust.Cursor} → items' ≡ remove items place → AreSized size items
      → AreSized size items'
  sized_without size r h = subst (λ (l : List rust.Cursor). AreSized size l) (sym r) (sized-removed size items place h)

  -- it moves on
  to_next : (size : ℕ) → x.walk.search.size ≡ size → (calls : Calls) (lines : Lines) (c : Cursor)
      → CursorAnswer x.walk.search.size (cursor_of x) calls lines c
      → Answers size (MayTurn (cursors_of items) name) (cursors_of items) calls lines (before ++ c ∷ after)
  to_next size s calls lines c (inl a) =
      rw (a.0, a.1, a.2) (subst (λ (l : List Cursor). Answers size (MayTurn (cursors_of items) name) (cursors_of items)
      [] (line.MemoryFault ∷ []) l) around (noted Fault tt))
  to_next size s calls lines c (inr a) = record {
    act = Turn name;
    allowed = refl;
    does = Turned name before after (cursor_of x) c calls lines is_named
        (subst (λ (k : ℕ). Advances k (cursor_of x) calls lines c) s a);
  }

  pub nexts : {Made : Calls → Type 0} {IsWorn : Type 0} {out out' : List ℕ} {items' : List rust.Cursor}
      {result : Result (Unit {0}) Stop} (size : ℕ) (x' : rust.Cursor) → x.walk.search.size ≡ size
      → items' ≡ set items place x'
      → Answered Made IsWorn (CursorAnswer x.walk.search.size (cursor_of x)) out out' (cursor_of x') result
      → Answered Made IsWorn (Answers size (MayTurn (cursors_of items) name) (cursors_of items)) out out'
      (cursors_of items') result
  nexts {Made} {IsWorn} {out} {out'} {result = result} size x' s r a =
      still r (subst (λ (l : List Cursor). Answered Made IsWorn (Answers size (MayTurn (cursors_of items) name)
      (cursors_of items)) out out' l result) (sym (set-split items place x' n.within))
      (answered_as (λ (c : Cursor). before ++ c ∷ after) (to_next size s) a))

  pub sized_with : (size : ℕ) (x' : rust.Cursor) {items' : List rust.Cursor} → items' ≡ set items place x'
      → x'.walk.search.size ≡ x.walk.search.size → AreSized size items → AreSized size items'
  sized_with size x' r s h =
      subst (λ (l : List rust.Cursor). AreSized size l) (sym r) (sized-set size items place x' (s ∙ size_at size h) h)

-- The pins of all cursors are given back
pub first_pin : (held : ℕ → ℕ → Type 0) (items items' : List rust.Cursor) (x : rust.Cursor) → items ≡ x ∷ items'
    → AreHeld held (cursors_of items) → held x.walk.search.slot x.walk.search.version
first_pin held items items' x e h =
    held-at held [] (cursors_of items') (cursor_of x) (subst (λ (l : List rust.Cursor). AreHeld held (cursors_of l)) e h)

pub rest_held : (held held' : ℕ → ℕ → Type 0) (items items' : List rust.Cursor) (x : rust.Cursor) → items ≡ x ∷ items'
    → MovePins (unpin x.walk.search.slot) held held' → AreHeld held (cursors_of items)
    → AreHeld held' (cursors_of items')
rest_held held held' items items' x e m h =
    held-same (HeldBy held (Returns x.walk.search.slot)) held' (cursors_of items') m.now
    (held-without held [] (cursors_of items') (cursor_of x)
    (subst (λ (l : List rust.Cursor). AreHeld held (cursors_of l)) e h))

pub rest_unpins : (all calls : Calls) (items items' : List rust.Cursor) (x : rust.Cursor) → items ≡ x ∷ items'
    → all ≡ calls ++ unpins (cursors_of items)
    → all ≡ (calls ++ unpin x.walk.search.slot) ++ unpins (cursors_of items')
rest_unpins all calls items items' x e f =
    f ∙ (ap (λ (l : List rust.Cursor). calls ++ unpins (cursors_of l)) e
    ∙ sym (append_assoc calls (unpin x.walk.search.slot) (unpins (cursors_of items'))))

-- no other pin moved
pub unpins_others : (held : ℕ → ℕ → Type 0) (cursors : List Cursor)
    → SameOthers held cursors (HeldAfter held (unpins cursors)) []
unpins_others held [] = same_others held held [] (λ slot version. (λ x. x, λ x. x))
unpins_others held (c ∷ cs) =
    same_others-more held (HeldBy held (Returns c.slot)) (HeldAfter (HeldBy held (Returns c.slot)) (unpins cs))
    (c ∷ cs) cs [] (others-without held [] cs c) (unpins_others (HeldBy held (Returns c.slot)) cs)

pub returned_part : (Made : Calls → Type 0) (IsWorn : Type 0) (cursors : List Cursor) (stop : Stop)
    → searched.ReturnsAll Made IsWorn cursors (Err stop)
    → (calls : Calls) × Made calls × IsPrefixOf calls (unpins cursors) × IsWorn
returned_part Made IsWorn cursors stops.Worn r = r
returned_part Made IsWorn cursors stops.NoMemory r = absurd r

pub part_returned : (First Next All : Calls → Type 0) (IsWorn : Type 0) (cursors : List Cursor) (slot : ℕ)
    (joins : (xs ys : Calls) → First xs → Next ys → All (xs ++ ys)) (stop : Stop) (calls left : Calls) → First calls
    → searched.Returns Next IsWorn slot (Err stop) → unpins cursors ≡ calls ++ left
    → searched.ReturnsAll All IsWorn cursors (Err stop)
part_returned First Next All IsWorn cursors slot joins stops.Worn calls left made r e = (
  calls ++ [],
  joins calls [] made r.0,
  (left, ap (λ (l : Calls). l ++ left) (append-nil calls) ∙ sym e),
  r.1,
)
part_returned First Next All IsWorn cursors slot joins stops.NoMemory calls left made r e = absurd r

pub all_returned : (Made : Calls → Type 0) {all : Calls} (calls : Calls) (items : List rust.Cursor) → items ≡ []
    → all ≡ calls ++ unpins (cursors_of items) → Made calls → Made all
all_returned Made calls items none e m =
    subst Made (sym (e ∙ (ap (λ (l : List rust.Cursor). calls ++ unpins (cursors_of l)) none ∙ append-nil calls))) m
