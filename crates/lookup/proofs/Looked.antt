-- What a lookup did, by its parts: a pin, its pages, and the pin is given back.
use Rattle.std.proofs.Common.{◌≡◌, ◌≢◌, ◌⊎◌, ◌↔◌, ◌++◌, append-nil, Bool, Err, IfOk, inr, IsErrAnd, IsOkUnless, length, List, [], None, Ok, Option, refl, Result, Some, subst, sym, ℕ}
use Rattle.par_search.specs.Faults.{fault_of}
use Rattle.par_search.specs.declared.fault.SearchFault.{SearchFault}
use Rattle.par_search.specs.declared.fault.SearchFault.TheVariants as faults
use Rattle.snap_registry.specs.declared.Pin.{Pin}
use Rattle.store_core.specs.Calls.{NeedsNone, NotRaised, SameHeld}
use Rattle.store_core.specs.Replies.{pin_calls, unpin_calls}
use Rattle.store_core.specs.declared.service.Service as meaning
use Rattle.store_core.specs.declared.words.CallFault.{CallFault}
use Rattle.store_core.specs.declared.words.CallFault.TheVariants as call
use Rattle.store_machine.specs.Searches.{At, End, Place, fetched, records_of}
use Rattle.store_machine.specs.declared.machine.Found.{Found}
use Rattle.lookup.specs.Fetches.{Calls, FailsBy, Fetches, HeldBesides, IsAnew, Looks, LooksSo, LooksUnless, Makes, begun_calls, lookup_calls}
use Rattle.lookup.specs.Fetches.{CutShort, Failed, Known, Looked, NoneFree, Unasked, Whole, WornAfter, WornBefore}
use Rattle.lookup.specs.Walks.{IsPinnedFrom, Saw, Walked, Walks}
use Rattle.lookup.specs.declared.pages.Seen.{Seen}
use Rattle.par_search.proofs.Held.{held-same, not_raised-same}
use Rattle.lookup.proofs.Held.{held_on, kept_on, none_taken, returned}

abbrev pub result_as : {X Y E : Type 0} → (X → Y) → Result X E → Result Y E
result_as f (Ok x) = Ok (f x)
result_as f (Err e) = Err e

abbrev pub pin_of : CallFault → Result (Option Pin) CallFault
pin_of fault = Err fault

abbrev pub unpin_of : CallFault → Result (Unit {0}) CallFault
unpin_of fault = Err fault

-- the version, how many records there were, and that all were seen
abbrev pub SeenAll : {V G : Type 0} → (V → G → V → List Found → Type 0) → G → V → V → ℕ → List Found
    → Seen → Type 0
SeenAll has_seen given old new version records seen =
    (seen.version ≡ version) × (seen.count ≡ length records) × Saw has_seen given old new records

-- the same of a pin's version
abbrev pub SeenFrom : {V G : Type 0} → ℕ → (V → G → V → List Found → Type 0) → G → V → V → ℕ → List Found → Seen
    → Type 0
SeenFrom at has_seen given old new version records seen =
    (version ≡ at) × (seen.version ≡ version) × (seen.count ≡ length records) × Saw has_seen given old new records

pub same-fault : {S X : Type 0} {of : meaning.Ghosts S} {old new : S} {size : ℕ} {want : List Bool}
    {Is : ℕ → List Found → X → Type 0} (e e' : SearchFault) → e' ≡ e
    → Looks of old new size want Is (Err e) → Looks of old new size want Is (Err e')
same-fault {of = of} {old = old} {new = new} {size = size} {want = want} {Is = Is} e e' same l =
    subst (λ (f : SearchFault). Looks of old new size want Is (Err f)) (sym same) l

-- the same with another answer
pub looks-as : {S X Y : Type 0} {of : meaning.Ghosts S} {old new : S} {size : ℕ} {want : List Bool}
    {Is : ℕ → List Found → X → Type 0} {r : Result X SearchFault} → Looks of old new size want Is r
    → (Is' : ℕ → List Found → Y → Type 0) (f : X → Y)
    → ((version : ℕ) (records : List Found) (x : X) → Is version records x → Is' version records (f x))
    → Looks of old new size want Is' (result_as f r)
looks-as (Whole x k made held is) Is' f h = Whole (f x) k made held (h _ _ x is)
looks-as (CutShort place k made held) Is' f h = CutShort place k made held
looks-as (Unasked made held) Is' f h = Unasked made held
looks-as (NoneFree made held) Is' f h = NoneFree made held
looks-as (WornBefore made held worn) Is' f h = WornBefore made held worn
looks-as (WornAfter place k made held worn) Is' f h = WornAfter place k made held worn

-- what is said of less
pub looks-is : {S X : Type 0} {of : meaning.Ghosts S} {old new : S} {size : ℕ} {want : List Bool}
    {Is : ℕ → List Found → X → Type 0} {r : Result X SearchFault} → Looks of old new size want Is r
    → (Is' : ℕ → List Found → X → Type 0)
    → ((version : ℕ) (records : List Found) (x : X) → Is version records x → Is' version records x)
    → Looks of old new size want Is' r
looks-is (Whole x k made held is) Is' h = Whole x k made held (h _ _ x is)
looks-is (CutShort place k made held) Is' h = CutShort place k made held
looks-is (Unasked made held) Is' h = Unasked made held
looks-is (NoneFree made held) Is' h = NoneFree made held
looks-is (WornBefore made held worn) Is' h = WornBefore made held worn
looks-is (WornAfter place k made held worn) Is' h = WornAfter place k made held worn

-- what was found is of no use
pub looks-short : {S X Y : Type 0} {of : meaning.Ghosts S} {old new : S} {size : ℕ} {want : List Bool}
    {Is : ℕ → List Found → X → Type 0} {x : X} (Is' : ℕ → List Found → Y → Type 0)
    → Looks of old new size want Is (Ok x) → Looks of old new size want Is' (Err faults.NoMemory)
looks-short Is' (Whole x k made held is) = CutShort End k made held

-- a fault, whatever was asked
pub looks-fault : {S X Y : Type 0} {of : meaning.Ghosts S} {old new : S} {size : ℕ} {want : List Bool}
    {Is : ℕ → List Found → X → Type 0} {fault : SearchFault} (Is' : ℕ → List Found → Y → Type 0)
    → Looks of old new size want Is (Err fault) → Looks of old new size want Is' (Err fault)
looks-fault Is' (CutShort place k made held) = CutShort place k made held
looks-fault Is' (Unasked made held) = Unasked made held
looks-fault Is' (NoneFree made held) = NoneFree made held
looks-fault Is' (WornBefore made held worn) = WornBefore made held worn
looks-fault Is' (WornAfter place k made held worn) = WornAfter place k made held worn

-- the result of a `?`, after a fault
pub looks-passed : {S X Y : Type 0} {of : meaning.Ghosts S} {old new : S} {size : ℕ} {want : List Bool}
    {Is : ℕ → List Found → X → Type 0} (Is' : ℕ → List Found → Y → Type 0) (fault : SearchFault)
    (r : Result Y SearchFault) → IsErrAnd r (λ e. e ≡ fault) → Looks of old new size want Is (Err fault)
    → Looks of old new size want Is' r
looks-passed Is' fault (Ok y) same l = absurd same
looks-passed Is' fault (Err e) same l = same-fault fault e same (looks-fault Is' l)

-- and where memory was wanted before any call
pub looks-unasked : {S Y : Type 0} {of : meaning.Ghosts S} {old : S} {size : ℕ} {want : List Bool}
    (Is' : ℕ → List Found → Y → Type 0) (r : Result Y SearchFault) → IsErrAnd r (λ e. e ≡ faults.NoMemory)
    → Makes of old old [] → Looks of old old size want Is' r
looks-unasked {of = of} {old = old} {size = size} {want = want} Is' r same none =
    let unasked : Looks of old old size want Is' (Err faults.NoMemory) = Unasked none (held-same (of.holds old)) in
    looks-passed Is' faults.NoMemory r same unasked

-- what holds of a failed lookup, and whatever follows from that
pub fails-map : {S X : Type 0} {of : meaning.Ghosts S} {old new : S} {size : ℕ} {want : List Bool}
    {Is : ℕ → List Found → X → Type 0} {r : Result X SearchFault} (P Q : ℕ → Calls → Type 0)
    → ((version : ℕ) (pages : Calls) → P version pages → Q version pages)
    → (l : Looks of old new size want Is r) → FailsBy P l → FailsBy Q l
fails-map P Q h (Whole x k made held is) p = tt
fails-map P Q h (CutShort place k made held) p = h _ _ p
fails-map P Q h (Unasked made held) p = tt
fails-map P Q h (NoneFree made held) p = tt
fails-map P Q h (WornBefore made held worn) p = tt
fails-map P Q h (WornAfter place k made held worn) p = h _ _ p

-- a lookup that came to its end did not fail
pub fails-never : {S X : Type 0} {of : meaning.Ghosts S} {old new : S} {size : ℕ} {want : List Bool}
    {Is : ℕ → List Found → X → Type 0} {x : X} (P : ℕ → Calls → Type 0)
    → Looks of old new size want Is (Ok x) → LooksSo P of old new size want Is (Ok x)
fails-never P (Whole x f made held is) = (Whole x f made held is, tt)

-- a fault, whatever was asked
fault-by : {S X Y : Type 0} {of : meaning.Ghosts S} {old new : S} {size : ℕ} {want : List Bool}
    {Is : ℕ → List Found → X → Type 0} {fault : SearchFault} (Is' : ℕ → List Found → Y → Type 0)
    (P : ℕ → Calls → Type 0) (l : Looks of old new size want Is (Err fault)) → FailsBy P l
    → LooksSo P of old new size want Is' (Err fault)
fault-by Is' P (CutShort place k made held) p = (CutShort place k made held, p)
fault-by Is' P (Unasked made held) p = (Unasked made held, tt)
fault-by Is' P (NoneFree made held) p = (NoneFree made held, tt)
fault-by Is' P (WornBefore made held worn) p = (WornBefore made held worn, tt)
fault-by Is' P (WornAfter place k made held worn) p = (WornAfter place k made held worn, p)

-- the result of a `?`
pub looks-passed-by : {S X Y : Type 0} {of : meaning.Ghosts S} {old new : S} {size : ℕ} {want : List Bool}
    {Is : ℕ → List Found → X → Type 0} (Is' : ℕ → List Found → Y → Type 0) (P : ℕ → Calls → Type 0)
    (fault : SearchFault) (r : Result Y SearchFault) → IsErrAnd r (λ e. e ≡ fault)
    → LooksSo P of old new size want Is (Err fault) → LooksSo P of old new size want Is' r
looks-passed-by Is' P fault (Ok y) same l = absurd same
looks-passed-by {of = of} {old = old} {new = new} {size = size} {want = want} Is' P fault (Err e) same l =
    subst (λ (f : SearchFault). LooksSo P of old new size want Is' (Err f)) (sym same) (fault-by Is' P l.0 l.1)

-- what was found at another version than the one that is known is of no use
pub short-anew : {S X Y : Type 0} {of : meaning.Ghosts S} {old new : S} {size known : ℕ} {want : List Bool}
    {Is : ℕ → List Found → X → Type 0} {x : X} (Is' : ℕ → List Found → Y → Type 0)
    → Looks of old new size want (λ version records y. (version ≢ known) × Is version records y) (Ok x)
    → LooksSo (IsAnew known) of old new size want Is' (Err faults.NoMemory)
short-anew Is' (Whole x k made held is) = (CutShort End k made held, inr is.0)

-- what was found is listed, or is of no use
pub looks-listed : {S X Y : Type 0} {of : meaning.Ghosts S} {old new : S} {size : ℕ} {want : List Bool}
    {Is : ℕ → List Found → X → Type 0} {x : X} → Looks of old new size want Is (Ok x)
    → (Is' : ℕ → List Found → Y → Type 0) (r : Result Y SearchFault) → IsOkUnless r faults.NoMemory
    → ((version : ℕ) (records : List Found) → Is version records x → IfOk r (Is' version records))
    → Looks of old new size want Is' r
looks-listed (Whole x k made held is) Is' (Ok y) memory h = Whole y k made held (h _ _ is)
looks-listed (Whole x k made held is) Is' (Err e) memory h =
    same-fault faults.NoMemory e memory (CutShort End k made held)

-- a lookup unless a version is known
pub looked-some : {S X : Type 0} {of : meaning.Ghosts S} {old new : S} {size known : ℕ} {want : List Bool}
    {Is : ℕ → List Found → X → Type 0} {x : X} → LooksUnless known of old new size want Is (Ok (Some x))
    → Looks of old new size want (λ version records y. (version ≢ known) × Is version records y) (Ok x)
looked-some (Looked x looks) = looks

pub looked-none : {S X Y : Type 0} {of : meaning.Ghosts S} {old new : S} {size known : ℕ} {want : List Bool}
    {Is : ℕ → List Found → X → Type 0} (Is' : ℕ → List Found → Y → Type 0)
    → LooksUnless known of old new size want Is (Ok None) → LooksUnless known of old new size want Is' (Ok None)
looked-none Is' (Known f none is made held) = Known f none is made held

pub looked-passed : {S X Y : Type 0} {of : meaning.Ghosts S} {old new : S} {size known : ℕ} {want : List Bool}
    {Is : ℕ → List Found → X → Type 0} (Is' : ℕ → List Found → Y → Type 0) (fault : SearchFault)
    (r : Result (Option Y) SearchFault) → IsErrAnd r (λ e. e ≡ fault)
    → LooksSo (IsAnew known) of old new size want Is (Err fault) → LooksUnless known of old new size want Is' r
looked-passed Is' fault (Ok y) same l = absurd same
looked-passed {of = of} {old = old} {new = new} {size = size} {known = known} {want = want} Is' fault (Err e) same l =
    let m = fault-by Is' (IsAnew known) l.0 l.1 in
    subst (λ (f : SearchFault). LooksUnless known of old new size want Is' (Err f)) (sym same) (Failed fault m.0 m.1)

-- and where memory was wanted before any call
pub looked-unasked : {S Y : Type 0} {of : meaning.Ghosts S} {old : S} {size known : ℕ} {want : List Bool}
    (Is' : ℕ → List Found → Y → Type 0) (r : Result (Option Y) SearchFault) → IsErrAnd r (λ e. e ≡ faults.NoMemory)
    → Makes of old old [] → LooksUnless known of old old size want Is' r
looked-unasked {of = of} {old = old} {size = size} {want = want} Is' r same none =
    let unasked : Looks of old old size want Is' (Err faults.NoMemory) = Unasked none (held-same (of.holds old)) in
    looked-passed Is' faults.NoMemory r same (unasked, tt)

pub looked-fault : {S X : Type 0} {of : meaning.Ghosts S} {old new : S} {size known : ℕ} {want : List Bool}
    {Is : ℕ → List Found → X → Type 0} {fault : SearchFault} → LooksUnless known of old new size want Is (Err fault)
    → LooksSo (IsAnew known) of old new size want Is (Err fault)
looked-fault (Failed fault looks anew) = (looks, anew)

-- where the fetches came to, whatever they gave
abbrev pub any-walked : {S : Type 0} (of : meaning.Ghosts S) (mid then : S) (slot size : ℕ) (want : List Bool)
    (Gives : List Found → ℕ → Type 0) (r : Result ℕ CallFault)
    → Walks of mid then slot size want Gives r → (place : Place) × Walked of mid then slot size want place
any-walked of mid then slot size want Gives (Ok n) w = (End, w.0)
any-walked of mid then slot size want Gives (Err call.NoMemory) w = (w.0, w.1)
any-walked of mid then slot size want Gives (Err call.Worn) w = (w.0, w.1)

-- what a pin's clauses say
pub pinned_from : {S : Type 0} (of : meaning.Ghosts S) (old mid : S) (p : Pin)
    → Makes of old mid (pin_calls (Ok (Some p))) → HeldBesides (of.holds old) p.slot p.version (of.holds mid)
    → ((slot version other : ℕ) → (slot ≡ p.slot) × (version ≡ p.version) → of.holds old slot other → ⊥)
    → NotRaised (of.bounds old) (of.bounds mid) → IsPinnedFrom of old mid p
pinned_from of old mid p made held apart bounds = record {
  made = made;
  held = held;
  free = λ other. apart p.slot p.version other (refl, refl);
  bounds = bounds;
}

-- what is wanted, by another name
pub looks-want : {S X : Type 0} {of : meaning.Ghosts S} {old new : S} {size : ℕ} {Is : ℕ → List Found → X → Type 0}
    {r : Result X SearchFault} (w w' : List Bool) → w ≡ w' → Looks of old new size w Is r
    → Looks of old new size w' Is r
looks-want {of = of} {old = old} {new = new} {size = size} {Is = Is} {r = r} w w' e l =
    subst (λ (v : List Bool). Looks of old new size v Is r) e l

module _ {S X : Type 0} {of : meaning.Ghosts S} (size : ℕ) (want : List Bool) (Is : ℕ → List Found → X → Type 0) where
  pub pin_failed : (old new : S) (fault : CallFault) → Makes of old new (pin_calls (Err fault))
      → ((s v : ℕ) → of.holds new s v ↔ (of.holds old s v ⊎ ⊥)) → NeedsNone (pin_of fault)
      → (fault ≡ call.Worn → of.worn new) → Looks of old new size want Is (Err (fault_of fault))
  pin_failed old new call.Worn made held needs worn =
      WornBefore made (none_taken (of.holds old) (of.holds new) held) (worn refl)
  pin_failed old new call.NoMemory made held needs worn = absurd needs

  pub pin_failed_by : (P : ℕ → Calls → Type 0) (old new : S) (fault : CallFault) → Makes of old new (pin_calls (Err fault))
      → ((s v : ℕ) → of.holds new s v ↔ (of.holds old s v ⊎ ⊥)) → NeedsNone (pin_of fault)
      → (fault ≡ call.Worn → of.worn new) → LooksSo P of old new size want Is (Err (fault_of fault))
  pin_failed_by P old new call.Worn made held needs worn =
      (WornBefore made (none_taken (of.holds old) (of.holds new) held) (worn refl), tt)
  pin_failed_by P old new call.NoMemory made held needs worn = absurd needs

  module _ (joins : (a b c : S) (xs ys : Calls) → Makes of a b xs → Makes of b c ys → Makes of a c (xs ++ ys))
      (old mid then new : S) (p : Pin) (made : Makes of old mid (pin_calls (Ok (Some p))))
      (held : HeldBesides (of.holds old) p.slot p.version (of.holds mid))
      (free : (other : ℕ) → of.holds old p.slot other → ⊥) where
    whole_made : (pages : Calls) → Makes of mid then pages → Makes of then new (unpin_calls p.slot (Ok tt))
        → Makes of old new (lookup_calls p.slot p.version pages)
    whole_made pages walk unpin =
        joins old mid new (pin_calls (Ok (Some p))) (pages ++ unpin_calls p.slot (Ok tt)) made
        (joins mid then new pages (unpin_calls p.slot (Ok tt)) walk unpin)

    begun_made : (pages : Calls) → Makes of mid then pages → Makes of then new []
        → Makes of old new (begun_calls p.slot p.version pages)
    begun_made pages walk none =
        joins old mid new (pin_calls (Ok (Some p))) pages made
        (subst (λ (l : Calls). Makes of mid new l) (append-nil pages) (joins mid then new pages [] walk none))

    abbrev fetches_of : (place : Place) → Walked of mid then p.slot size want place
        → Fetches (of.holds old) size want place
    fetches_of place w = record { slot = p.slot; version = p.version; pages = w.pages; free = free; are = w.are }

    back_as : (place : Place) → Walked of mid then p.slot size want place
        → ((s v : ℕ) → of.holds new s v ↔ (of.holds then s v × ¬ (p.slot ≡ s))) → SameHeld (of.holds old) (of.holds new)
    back_as place w back =
        returned (of.holds old) (of.holds then) (of.holds new) p.slot p.version free
        (held_on (of.holds old) (of.holds mid) (of.holds then) p.slot p.version held w.held) back

    -- all pages, and the pin is given back
    pub looked_all : (n : ℕ) (Gives : List Found → ℕ → Type 0) (x : X) → Walks of mid then p.slot size want Gives (Ok n)
        → Makes of then new (unpin_calls p.slot (Ok tt))
        → ((s v : ℕ) → of.holds new s v ↔ (of.holds then s v × ¬ (p.slot ≡ s)))
        → ((records : List Found) → Gives records n → Is p.version records x)
        → Looks of old new size want Is (Ok x)
    looked_all n Gives x w unpin back is =
        Whole x (fetches_of End w.0) (whole_made w.0.pages w.0.made unpin) (back_as End w.0 back)
        (is (records_of (fetched p.slot w.0.pages)) w.1)

    -- some pages, and the pin is given back
    pub looked_short : (Gives : List Found → ℕ → Type 0) (fault : CallFault)
        → Walks of mid then p.slot size want Gives (Err fault)
        → Makes of then new (unpin_calls p.slot (Ok tt))
        → ((s v : ℕ) → of.holds new s v ↔ (of.holds then s v × ¬ (p.slot ≡ s)))
        → (of.worn then → ⊥)
        → LooksSo (λ version pages. version ≡ p.version) of old new size want Is (Err (fault_of fault))
    looked_short Gives call.NoMemory w unpin back not_worn =
        (CutShort w.0 (fetches_of w.0 w.1) (whole_made w.1.pages w.1.made unpin) (back_as w.0 w.1 back), refl)
    looked_short Gives call.Worn w unpin back not_worn = absurd (not_worn w.2)

    -- the service was worn when the pin was to be given back
    pub looked_worn : (Gives : List Found → ℕ → Type 0) (r : Result ℕ CallFault)
        → (w : Walks of mid then p.slot size want Gives r) → (fault : CallFault)
        → Makes of then new (unpin_calls p.slot (Err fault)) → NeedsNone (unpin_of fault)
        → ((s v : ℕ) → of.holds new s v ↔ (of.holds then s v × ¬ ⊥))
        → (fault ≡ call.Worn → of.worn new)
        → LooksSo (λ version pages. (version ≡ p.version)
        × (pages ≡ (any-walked of mid then p.slot size want Gives r w).1.pages)) of old new size want Is
        (Err (fault_of fault))
    looked_worn Gives r w call.NoMemory unpin needs kept worn = absurd needs
    looked_worn Gives r w call.Worn unpin needs kept worn =
        let any = any-walked of mid then p.slot size want Gives r w in (
          WornAfter any.0 (fetches_of any.0 any.1) (begun_made any.1.pages any.1.made unpin)
              (kept_on (of.holds old) (of.holds then) (of.holds new) p.slot p.version
              (held_on (of.holds old) (of.holds mid) (of.holds then) p.slot p.version held any.1.held) kept)
              (worn refl),
          (refl, refl),
        )

  -- where nothing is fetched
  module _ (joins : (a b c : S) (xs ys : Calls) → Makes of a b xs → Makes of b c ys → Makes of a c (xs ++ ys))
      (old mid new : S) (p : Pin) (none : Makes of mid mid []) (pinned : IsPinnedFrom of old mid p) where
    abbrev no_walk : Walked of mid mid p.slot size want (At 0)
    no_walk = record {
      pages = [];
      made = none;
      are = refl;
      held = held-same (of.holds mid);
      bounds = not_raised-same (of.bounds mid);
    }

    -- the version that was pinned is known
    pub left_known : (known : ℕ) → p.version ≡ known → Makes of mid new (unpin_calls p.slot (Ok tt))
        → ((s v : ℕ) → of.holds new s v ↔ (of.holds mid s v × ¬ (p.slot ≡ s)))
        → LooksUnless known of old new size want Is (Ok None)
    left_known known is unpin back =
        Known (record { slot = p.slot; version = p.version; pages = []; free = pinned.free; are = refl }) refl is
        (joins old mid new (begun_calls p.slot p.version []) (unpin_calls p.slot (Ok tt)) pinned.made unpin)
        (returned (of.holds old) (of.holds mid) (of.holds new) p.slot p.version pinned.free pinned.held back)

    -- or the service is worn then
    pub left_worn : (fault : CallFault) → Makes of mid new (unpin_calls p.slot (Err fault))
        → NeedsNone (unpin_of fault) → ((s v : ℕ) → of.holds new s v ↔ (of.holds mid s v × ¬ ⊥))
        → (fault ≡ call.Worn → of.worn new)
        → LooksSo (λ version pages. pages ≡ []) of old new size want Is (Err (fault_of fault))
    left_worn fault unpin needs kept worn =
        let l = looked_worn joins old mid mid new p pinned.made pinned.held pinned.free (λ records n. Unit {0})
        (Err call.NoMemory) (At 0, no_walk) fault unpin needs kept worn in
        (l.0, fails-map _ (λ version pages. pages ≡ []) (λ version pages h. h.1) l.0 l.1)
