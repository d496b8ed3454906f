-- Answers behind a lookup: what was found is listed, or a change is committed, or memory ran out.
use Rattle.std.proofs.Common.{◌≡◌, ◌++◌, ◌∙◌, append-nil, append_assoc, ap, arith, Bool, Err, inl, inr, List, [], ◌∷◌, None, Ok, refl, Result, slice_get, Some, subst, sym, ℕ}
use Rattle.std.proofs.lemmas.Option.{get_or_from_slice_get, slice_get-get_or, slice_get_within}
use Rattle.chem_core.specs.Molecule.{Molecule}
use Rattle.lookup.specs.Asked.{IsEmptyPrint}
use Rattle.lookup.specs.Fetches as fetches
use Rattle.lookup.specs.Fetches.{CutShort, FailsBy, Fetches, HeldBesides, Looks, NoneFree, Unasked, Whole, WornAfter, WornBefore, begun_calls, lookup_calls}
use Rattle.lookup.specs.declared.hits.HitList.{HitList}
use Rattle.lookup.specs.declared.similar.SimilarList.{SimilarList}
use Rattle.mol_finish.specs.Structure.{HasMolecule, IsAnswer}
use Rattle.mol_finish.specs.declared.fault.Format.{Format}
use Rattle.mol_finish.specs.declared.fault.Format.TheVariants.{Smiles}
use Rattle.mol_finish.specs.declared.fault.TextFault.{TextFault}
use Rattle.mol_finish.specs.declared.fault.TextFault.TheVariants as texts
use Rattle.par_search.specs.declared.fault.SearchFault.{SearchFault}
use Rattle.shell_lang.specs.Reply as line
use Rattle.shell_lang.specs.declared.reply.Refusal.TheVariants as refusals
use Rattle.shell_lang.specs.declared.reply.Reply as written
use Rattle.path_print.specs.Prints.{IsPrint}
use Rattle.store_core.specs.Calls.{NotRaised, SameHeld}
use Rattle.store_core.specs.Records.{IsRecord, RecordTerm}
use Rattle.store_core.specs.declared.service.Service as meaning
use Rattle.store_machine.specs.Searches.{End, Place, fetched, records_of}
use Rattle.store_machine.specs.declared.machine.Change.{Change}
use Rattle.store_machine.specs.declared.machine.Event.TheVariants as events
use Rattle.store_machine.specs.declared.machine.Found.{Found}
use Rattle.store_machine.specs.declared.machine.Reply.TheVariants as replies
use Rattle.session_acts.specs.Acts.{Act, AllSame, AllSimilar, Answers, Ask, Asks, Closed, Does, DoesAll, Fault, FoundData, IsNew, Lines, ListedSame, ListedSimilar, MayAsk, NewLost, Opened, Refused, RegisterNew, RegisteredEach, RegisteredNew, Responds, Same, SameLost, Say, Says, Searched, Silence, Similar, SimilarLost, Turned, same_lines, similar_lines}
use Rattle.session_acts.specs.Cursors.{Calls, Cursor}
use Rattle.session_acts.specs.Lookups.{FindsSame, FindsSimilar, LooksUp}
use Rattle.session_acts.specs.Pins.{AreApart, HeldBy, MovePins, Takes}
use Rattle.session_acts.specs.Texts.{IsTextFault}
use Rattle.session_acts.specs.Watching.{Standing, Watched}
use Rattle.session_acts.proofs.Found.{IsPrinted}
use Rattle.session_acts.proofs.Held.{apart-more, leave-apart, leave-moves}
use Rattle.session_acts.proofs.LookedUp.{fetches_leave, pin_returned}
use Rattle.session_acts.proofs.WatchActs.{asks_no_watch, watch_is}
use Rattle.session_run.specs.Made.{Answered, AnsweredBy, Broken, Said, TellsAll, Unsaid, Uses, Writes}
use Rattle.session_run.specs.Responds.{IsTextRefusal}
use Rattle.session_run.specs.Searched.{IsFaultLine}
use Rattle.session_run.specs.Standings.{both}
use Rattle.dialogue.specs.declared.end.Stop.{Stop}
use Rattle.dialogue.specs.declared.end.Stop.TheVariants as stops
use Rattle.session_run.proofs.Joined.{uses-kept}
use Rattle.session_run.proofs.Lines.{broken, noted, said}
use Rattle.session_run.proofs.Standing.{looks_still, over-append}

-- a text that is refused
pub text_unread : {size : ℕ} {cursors : List Cursor} (Allowed : Act → Type 0) (format : Format) (text : List ℕ)
    (fault : TextFault) (one : line.Reply) → Allowed (Say Fault)
    → ((f : TextFault) → IsTextFault format text f → Allowed (Say (Refused (refusals.Text f))))
    → IsAnswer format text (Err fault) → IsTextRefusal fault one
    → Answers size Allowed cursors [] (one ∷ []) cursors
text_unread {size} {cursors} Allowed format text texts.NoMemory one lacks may is e =
    subst (λ (l : line.Reply). Answers size Allowed cursors [] (l ∷ []) cursors) (sym e) (noted Fault lacks)
text_unread {size} {cursors} Allowed format text fault one lacks may is e =
    subst (λ (l : line.Reply). Answers size Allowed cursors [] (l ∷ []) cursors) (sym e)
    (noted (Refused (refusals.Text fault)) (may fault is))

-- the structure of a text, as its record has it
pub printed_of : (text : List ℕ) (a b r : RecordTerm) → a ≡ r → b ≡ r → IsRecord a → IsPrint a.mol a.print
    → r.format ≡ Smiles → r.text ≡ text → IsPrinted text b.mol b.print
printed_of text a b r e f is print format text_is =
    subst (λ (x : RecordTerm). IsPrinted text x.mol x.print) (e ∙ sym f) (record {
      structure = subst (λ (k : Format). HasMolecule k text a.mol) (ap (λ (x : RecordTerm). x.format) e ∙ format)
          (subst (λ (t : List ℕ). HasMolecule a.format t a.mol) (ap (λ (x : RecordTerm). x.text) e ∙ text_is)
          is.structure);
      print_is = print;
    })

-- the first of a list, or none
pub first_some : (items read : List ℕ) (x : ℕ) → read ≡ items → Some x ≡ slice_get read 0
    → (more : List ℕ) × (items ≡ x ∷ more)
first_some items read x e is = by items (subst (λ (l : List ℕ). slice_get l 0 ≡ Some x) e (sym is)) where
  by : (l : List ℕ) → slice_get l 0 ≡ Some x → (more : List ℕ) × (l ≡ x ∷ more)
  by [] h = absurd (omega (arith, slice_get_within [] 0 x h))
  by (y ∷ ys) h = (ys, ap (λ (n : ℕ). n ∷ ys) (get_or_from_slice_get (y ∷ ys) 0 x x h))

pub first_none : (items read : List ℕ) → read ≡ items → None ≡ slice_get read 0 → items ≡ []
first_none items read e is = by items (subst (λ (l : List ℕ). slice_get l 0 ≡ None) e (sym is)) where
  some_or_none : (y : ℕ) → Some y ≡ None → ⊥
  some_or_none y h = cc

  by : (l : List ℕ) → slice_get l 0 ≡ None → l ≡ []
  by [] h = refl
  by (y ∷ ys) h = absurd (some_or_none _ (sym (slice_get-get_or (y ∷ ys) 0 y (omega arith)) ∙ h))

-- What a lookup does to the pins: to its end, and up to where its pin is held
given_back : (a b : ℕ → ℕ → Type 0) (size : ℕ) (want : List Bool) (place : Place) (f : Fetches a size want place)
    → SameHeld a b → MovePins (lookup_calls f.slot f.version f.pages) a b
given_back a b size want place f held =
    let taken : ℕ → ℕ → Type 0 = HeldBy a (Takes f.slot f.version) in
    let leave = fetches_leave f.slot size want _ place f.pages f.are in
    let unpin : Calls = (events.Unpin f.slot, replies.Unpinned) ∷ [] in
    let apart : AreApart a (lookup_calls f.slot f.version f.pages) =
    (f.free, apart-more taken f.pages unpin (leave-apart taken f.pages leave) (tt, tt)) in
    let same = pin_returned a f.slot f.version size want place (lookup_calls f.slot f.version f.pages) f.pages refl f.are apart
    in
    record {
      now = λ s v. (
        λ x. (same s v).1 ((held s v).0 x),
        λ x. (held s v).1 ((same s v).0 x),
      );
      apart = apart;
    }

kept_on : (a b : ℕ → ℕ → Type 0) (size : ℕ) (want : List Bool) (place : Place) (f : Fetches a size want place)
    → HeldBesides a f.slot f.version b → MovePins (begun_calls f.slot f.version f.pages) a b
kept_on a b size want place f held =
    let m = leave-moves (HeldBy a (Takes f.slot f.version)) b f.pages
    (fetches_leave f.slot size want _ place f.pages f.are) held in
    record { now = m.now; apart = (f.free, m.apart) }

abbrev pub looks_up : {held : ℕ → ℕ → Type 0} {size : ℕ} {want : List Bool} {place : Place} (f : Fetches held size want place)
    → LooksUp size want place (lookup_calls f.slot f.version f.pages)
looks_up f = record { slot = f.slot; version = f.version; pages = f.pages; made = refl; fetches = f.are }

-- a lookup that failed
fails_any : {S X : Type 0} {of : meaning.Ghosts S} {old new : S} {size : ℕ} {want : List Bool}
    {Is : ℕ → List Found → X → Type 0} {fault : SearchFault} (l : Looks of old new size want Is (Err fault))
    → FailsBy (λ version pages. Unit {0}) l
fails_any (CutShort place f made held) = tt
fails_any (Unasked made held) = tt
fails_any (NoneFree made held) = tt
fails_any (WornBefore made held worn) = tt
fails_any (WornAfter place f made held worn) = tt

module _ {S : Type 0} {of : meaning.Ghosts S} {old new : S} {size : ℕ} {want : List Bool} where
  -- as a session counts them
  pub looked_uses : (place : Place) (f : Fetches (of.holds old) size want place)
      → fetches.Makes of old new (lookup_calls f.slot f.version f.pages) → SameHeld (of.holds old) (of.holds new)
      → NotRaised (of.bounds old) (of.bounds new) → Uses of old new (lookup_calls f.slot f.version f.pages)
  looked_uses place f made held bounds = record {
    makes = record { made = made.made };
    pins = given_back (of.holds old) (of.holds new) size want place f held;
    bounds = bounds;
  }

  -- a lookup to its end
  pub looked_whole : {X : Type 0} {Is : ℕ → List Found → X → Type 0} (x : X) → Looks of old new size want Is (Ok x)
      → NotRaised (of.bounds old) (of.bounds new)
      → (calls : Calls) × Uses of old new calls × (l : LooksUp size want End calls)
      × Is l.version (records_of (fetched l.slot l.pages)) x
  looked_whole x (Whole _ f made held is) bounds = (
    lookup_calls f.slot f.version f.pages,
    looked_uses End f made held bounds,
    record { slot = f.slot; version = f.version; pages = f.pages; made = refl; fetches = f.are },
    is,
  )

  -- one that found no memory, or no pin, or the service worn
  module _ {X Y : Type 0} {Is : ℕ → List Found → X → Type 0} {As : Calls → Lines → Y → Type 0} {y : Y}
      {out out' : List ℕ} (pin : As ((events.Pin, replies.NoPin) ∷ []) (line.Refused refusals.Pins ∷ []) y)
      (lacks : As [] (line.MemoryFault ∷ []) y)
      (P : ℕ → Calls → Type 0)
      (lost : (place : Place) (calls : Calls) (l : LooksUp size want place calls) → P l.version l.pages
      → As calls (line.MemoryFault ∷ []) y) where
    pub looked_so : (fault : SearchFault) (given : Result written.Reply Stop) (result : Result (Unit {0}) Stop)
        → (l : Looks of old new size want Is (Err fault)) → FailsBy P l → NotRaised (of.bounds old) (of.bounds new)
        → IsFaultLine fault given → Writes given out out' result → AnsweredBy of old new As out out' y result
    looked_so _ given result (CutShort place f made held) p bounds is w =
        said (lookup_calls f.slot f.version f.pages) line.MemoryFault result (looked_uses place f made held bounds)
        (lost place _ (looks_up f) p)
        (subst (λ (g : Result written.Reply Stop). Writes g out out' result) is w)
    looked_so _ given result (Unasked made held) p bounds is w =
        said [] line.MemoryFault result (uses-kept [] made.made tt held bounds) lacks
        (subst (λ (g : Result written.Reply Stop). Writes g out out' result) is w)
    looked_so _ given result (NoneFree made held) p bounds is w =
        said ((events.Pin, replies.NoPin) ∷ []) (line.Refused refusals.Pins) result
        (uses-kept ((events.Pin, replies.NoPin) ∷ []) made.made (refl, tt) held bounds)
        pin
        (subst (λ (g : Result written.Reply Stop). Writes g out out' result) is w)
    looked_so _ given result (WornBefore made held worn) p bounds is w =
        broken [] (line.MemoryFault ∷ []) y result (uses-kept [] made.made tt held bounds) worn lacks
        (subst (λ (g : Result written.Reply Stop). Writes g out out' result) is w)
    looked_so _ given result (WornAfter place f made held worn) p bounds is w =
        let e : result ≡ Err stops.Worn = subst (λ (g : Result written.Reply Stop). Writes g out out' result) is w in
        subst (λ (r : Result (Unit {0}) Stop). AnsweredBy of old new As out out' y r) (sym e) (Broken (record {
          calls = begun_calls f.slot f.version f.pages;
          whole = lookup_calls f.slot f.version f.pages;
          lines = line.MemoryFault ∷ [];
          after = y;
          made = record {
            makes = record { made = made.made };
            pins = kept_on (of.holds old) (of.holds new) size want place f held;
            bounds = bounds;
          };
          begins = ((events.Unpin f.slot, replies.Unpinned) ∷ [], refl);
          is = lost place _ (looks_up f) p;
          worn = worn;
        }))

  -- the same, whatever was fetched
  module _ {X Y : Type 0} {Is : ℕ → List Found → X → Type 0} {As : Calls → Lines → Y → Type 0} {y : Y}
      {out out' : List ℕ} (pin : As ((events.Pin, replies.NoPin) ∷ []) (line.Refused refusals.Pins ∷ []) y)
      (lacks : As [] (line.MemoryFault ∷ []) y)
      (lost : (place : Place) (calls : Calls) → LooksUp size want place calls → As calls (line.MemoryFault ∷ []) y) where
    pub looked_in_vain : (fault : SearchFault) (given : Result written.Reply Stop) (result : Result (Unit {0}) Stop)
        → Looks of old new size want Is (Err fault) → NotRaised (of.bounds old) (of.bounds new)
        → IsFaultLine fault given → Writes given out out' result → AnsweredBy of old new As out out' y result
    looked_in_vain fault given result l bounds is w =
        looked_so pin lacks (λ version pages. Unit {0}) (λ place calls up any. lost place calls up) fault given result l
        (fails_any l) bounds is w

-- What was found is listed
module _ {Made : Calls → Type 0} {IsWorn : Type 0} {size : ℕ} {Allowed : Act → Type 0} {cursors : List Cursor}
    {out out' : List ℕ} where
  listed : (act : Act) (calls : Calls) (lines : Lines) (result : Result (Unit {0}) Stop) → Made calls → Allowed act
      → Does size cursors act calls lines cursors → Does size cursors act calls (line.MemoryFault ∷ []) cursors
      → TellsAll lines out out' result → Answered Made IsWorn (Answers size Allowed cursors) out out' cursors result
  listed act calls lines result made may does lost (inl e) =
      subst (λ (r : Result (Unit {0}) Stop). Answered Made IsWorn (Answers size Allowed cursors) out out' cursors r)
      (sym e.0) (Said tt (record {
        calls = calls;
        lines = lines;
        made = made;
        is = record { act = act; allowed = may; does = does };
      }) e.1)
  listed act calls lines result made may does lost (inr t) =
      said calls line.MemoryFault result made (record { act = act; allowed = may; does = lost }) t

  pub same_listed : (m : Molecule) (print : List Bool) (calls : Calls) (list : HitList)
      (result : Result (Unit {0}) Stop) → Made calls → Allowed (Same m print) → FindsSame size m print calls list
      → TellsAll (same_lines list) out out' result
      → Answered Made IsWorn (Answers size Allowed cursors) out out' cursors result
  same_listed m print calls list result made may found t =
      listed (Same m print) calls (same_lines list) result made may (ListedSame m print calls _ (AllSame calls list found))
      (ListedSame m print calls _ (SameLost calls End found.lookup)) t

  pub similar_listed : (p q k : ℕ) (print : List Bool) (calls : Calls) (list : SimilarList)
      (result : Result (Unit {0}) Stop) → Made calls → Allowed (Similar p q k print)
      → FindsSimilar size p q k print calls list → TellsAll (similar_lines list) out out' result
      → Answered Made IsWorn (Answers size Allowed cursors) out out' cursors result
  similar_listed p q k print calls list result made may found t =
      listed (Similar p q k print) calls (similar_lines list) result made may
      (ListedSimilar p q k print calls _ (AllSimilar calls list found))
      (ListedSimilar p q k print calls _ (SimilarLost calls found.want End found.none found.lookup)) t

-- no pin was free
pub no_pin : {size : ℕ} {Allowed : Act → Type 0} {cursors : List Cursor} → Allowed (Ask events.Pin)
    → Answers size Allowed cursors ((events.Pin, replies.NoPin) ∷ []) (line.Refused refusals.Pins ∷ []) cursors
no_pin may = record { act = Ask events.Pin; allowed = may; does = Asks events.Pin replies.NoPin _ refl }

-- a lookup that came so far
pub same_lost : {size : ℕ} {Allowed : Act → Type 0} {cursors : List Cursor} (m : Molecule) (print : List Bool)
    → Allowed (Same m print) → (place : Place) (calls : Calls) → LooksUp size print place calls
    → Answers size Allowed cursors calls (line.MemoryFault ∷ []) cursors
same_lost m print may place calls l =
    record { act = Same m print; allowed = may; does = ListedSame m print calls _ (SameLost calls place l) }

pub similar_lost : {size : ℕ} {Allowed : Act → Type 0} {cursors : List Cursor} (p q k : ℕ) (print want : List Bool)
    → Allowed (Similar p q k print) → IsEmptyPrint want → (place : Place) (calls : Calls)
    → LooksUp size want place calls → Answers size Allowed cursors calls (line.MemoryFault ∷ []) cursors
similar_lost p q k print want may none place calls l = record {
  act = Similar p q k print;
  allowed = may;
  does = ListedSimilar p q k print calls _ (SimilarLost calls want place none l);
}

pub new_lost : {size : ℕ} {Allowed : Act → Type 0} {standing : Standing} (change : Change) (m : Molecule)
    (print : List Bool) → Allowed (RegisterNew change m print) → (place : Place) (calls : Calls)
    → LooksUp size print place calls → Responds size Allowed standing calls (line.MemoryFault ∷ []) standing
new_lost {standing = standing} change m print may place calls l = record {
  act = RegisterNew change m print;
  allowed = may;
  does = inl (RegisteredNew change m print calls _ (NewLost calls place l), looks_still standing.watches l);
}

pub new_pinless : {size : ℕ} {Allowed : Act → Type 0} {standing : Standing} → Allowed (Ask events.Pin)
    → Responds size Allowed standing ((events.Pin, replies.NoPin) ∷ []) (line.Refused refusals.Pins ∷ []) standing
new_pinless {standing = standing} may = record {
  act = Ask events.Pin;
  allowed = may;
  does = inl (Asks events.Pin replies.NoPin _ refl, (standing.watches, refl, refl));
}

-- a change is committed behind a lookup that found nothing
module _ {size : ℕ} {Allowed : Act → Type 0} {cursors : List Cursor} (change : Change) (m : Molecule) (print : List Bool)
    (calls : Calls) (list : HitList) (found : FindsSame size m print calls list) (none : list.hits.items ≡ [])
    (may : Allowed (RegisterNew change m print)) where
  committed : {cursors' : List Cursor} {act : Act} {its : Calls} {lines : Lines} → MayAsk (events.Commit change) act
      → Does size cursors act its lines cursors' → Answers size Allowed cursors (calls ++ its) lines cursors
  committed a (Says Silence) = absurd a
  committed a (Says (Refused refusal)) = absurd a
  committed a (Says Fault) = record {
    act = RegisterNew change m print;
    allowed = may;
    does = subst (λ (cs : Calls). Does size cursors (RegisterNew change m print) cs (line.MemoryFault ∷ []) cursors)
        (sym (append-nil calls)) (RegisteredNew change m print calls _ (NewLost calls End found.lookup));
  }
  committed a (Asks event reply one is) = record {
    act = RegisterNew change m print;
    allowed = may;
    does = rw a (RegisteredNew change m print _ _ (IsNew calls list reply one found none (rw a at is)));
  }
  committed a (Searched pattern its lines s) = absurd a
  committed a (Opened name pattern want slot v new need) = absurd a
  committed a (Turned name before after c c' its lines named advances) = absurd a
  committed a (Closed name before after c named) = absurd a
  committed a (ListedSame n other its lines s) = absurd a
  committed a (RegisteredNew change n other its lines s) = absurd a
  committed a (ListedSimilar p q k other its lines s) = absurd a
  committed a (RegisteredEach id records its lines each) = absurd a
  committed a (FoundData id name reply one is) = absurd a

  -- the watches follow the commit
  behind : (w : List Watched) (x : Standing) (its : Calls) (lines : Lines)
      → Responds size (MayAsk (events.Commit change)) (both cursors w) its lines x
      → Responds size Allowed (both cursors w) (calls ++ its) lines (both cursors x.watches)
  behind w x its lines r = by r.allowed r.does where
    by : {act : Act} → MayAsk (events.Commit change) act → DoesAll size (both cursors w) act its lines x
        → Responds size Allowed (both cursors w) (calls ++ its) lines (both cursors x.watches)
    by may (inl d) =
        let a = committed may d.0 in
        record {
          act = a.act;
          allowed = a.allowed;
          does = inl (a.does, over-append calls its w w x.watches (looks_still w found.lookup) d.1);
        }
    by {act = act} may (inr d) = absurd (asks_no_watch (events.Commit change) act may (watch_is d.0))

  pub registered_from : {First Next All : Calls → Type 0} {IsWorn : Type 0} {out out' : List ℕ} {w w' : List Watched}
      {result : Result (Unit {0}) Stop} → ((xs ys : Calls) → First xs → Next ys → All (xs ++ ys)) → First calls
      → Answered Next IsWorn (Responds size (MayAsk (events.Commit change)) (both cursors w)) out out' (both cursors w')
      result → Answered All IsWorn (Responds size Allowed (both cursors w)) out out' (both cursors w') result
  registered_from {w = w} {w'} joins first (Said u did e) = Said u (record {
    calls = calls ++ did.calls;
    lines = did.lines;
    made = joins calls did.calls first did.made;
    is = behind w (both cursors w') did.calls did.lines did.is;
  }) e
  registered_from {w = w} {w'} joins first (Unsaid did) = Unsaid (record {
    calls = calls ++ did.calls;
    lines = did.lines;
    made = joins calls did.calls first did.made;
    is = behind w (both cursors w') did.calls did.lines did.is;
  })
  registered_from {w = w} {w'} joins first (Broken b) = Broken (record {
    calls = calls ++ b.calls;
    whole = calls ++ b.whole;
    lines = b.lines;
    after = both cursors b.after.watches;
    made = joins calls b.calls first b.made;
    begins = (
      b.begins.0,
      append_assoc calls b.calls b.begins.0 ∙ ap (λ (cs : Calls). calls ++ cs) b.begins.1,
    );
    is = behind w b.after b.whole b.lines b.is;
    worn = b.worn;
  })
