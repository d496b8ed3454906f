-- Fetches of a pin under way, and what a visitor saw of their pages.
use Rattle.std.proofs.Common.{◌≡◌, ◌++◌, ◌+◌, ◌∙◌, ap, append-nil, arith, Bool, cond, Err, false, length, length-append, List, [], ◌∷◌, Ok, refl, subst, sym, true, ℕ}
use Rattle.std.proofs.lemmas.List.{length-map}
use Rattle.std.specs.Arc.{arc_value}
use Rattle.store_core.specs.Calls.{NotRaised, SameHeld, is_worn}
use Rattle.store_core.specs.Records.{Shared, found_of, founds}
use Rattle.store_core.specs.Replies.{fetch_calls}
use Rattle.store_core.specs.declared.service.Service as meaning
use Rattle.store_core.specs.declared.words.CallFault.{CallFault}
use Rattle.store_core.specs.declared.words.CallFault.TheVariants as call
use Rattle.store_machine.specs.Searches.{At, End, Place, fetched, past, records_of}
use Rattle.store_machine.specs.declared.machine.Event.{Event}
use Rattle.store_machine.specs.declared.machine.Event.TheVariants.{Fetch}
use Rattle.store_machine.specs.declared.machine.Found.{Found}
use Rattle.store_machine.specs.declared.machine.Reply.{Reply}
use Rattle.store_machine.specs.declared.machine.Reply.TheVariants as replies
use Rattle.par_search.specs.Fetches.{ArePages}
use Rattle.par_search.proofs.Held.{held-more, held-same, not_raised-more, not_raised-same}
use Rattle.par_search.proofs.Paged.{fetches_lost, fetches_page, pages_more, records_page}
use Rattle.lookup.specs.Fetches.{AreFetches, Calls, Makes}
use Rattle.lookup.specs.Walks.{Saw, Walks}
use Rattle.lookup.proofs.Seen.{saw-more, saw-none}

-- the calls so far, each answered by a page, and what was seen of the pages
pub record Walking {S V G : Type 0} (of : meaning.Ghosts S) (has_seen : V → G → V → List Found → Type 0)
    (given : G) (old now : S) (first seen : V) (slot size : ℕ) (want : List Bool) (place : Place) (count : ℕ)
    : Type 0 where
  pub pages : Calls
  pub made : Makes of old now pages
  pub are : AreFetches slot size want (At 0) pages place
  pub answered : ArePages pages
  pub saw : Saw has_seen given first seen (records_of (fetched slot pages))
  pub count_is : count ≡ length (records_of (fetched slot pages))
  pub held : SameHeld (of.holds old) (of.holds now)
  pub bounds : NotRaised (of.bounds old) (of.bounds now)

-- what all pages gave
abbrev pub Gave : {V G : Type 0} → (V → G → V → List Found → Type 0) → G → V → V → List Found → ℕ
    → Type 0
Gave has_seen given first seen records n = (n ≡ length records) × Saw has_seen given first seen records

module _ {S V G : Type 0} {of : meaning.Ghosts S} (has_seen : V → G → V → List Found → Type 0)
    (given : G) (first : V) (slot size : ℕ) (want : List Bool) where
  pub walking-none : (old : S) → Makes of old old []
      → Walking of has_seen given old old first first slot size want (At 0) 0
  walking-none old made = record {
    pages = [];
    made = made;
    are = refl;
    answered = tt;
    saw = saw-none has_seen given first;
    count_is = refl;
    held = held-same (of.holds old);
    bounds = not_raised-same (of.bounds old);
  }

  -- a page more
  pub walking-page : (joins : (a b c : S) (xs ys : Calls) → Makes of a b xs → Makes of b c ys → Makes of a c (xs ++ ys))
      → {old now new : S} {seen then : V} (from count : ℕ) (page : List Shared) (last : Bool)
      → Walking of has_seen given old now first seen slot size want (At from) count
      → Makes of now new (fetch_calls slot want from size page (Ok last))
      → SameHeld (of.holds now) (of.holds new) → NotRaised (of.bounds now) (of.bounds new)
      → Saw has_seen given seen then (founds page)
      → Walking of has_seen given old new first then slot size want (cond last End (At (past from (founds page))))
      (count + length page)
  walking-page joins {old} {now} {new} {seen} {then} from count page last w made held bounds saw =
      let call : Event × Reply = (Fetch slot want from size, replies.Page (founds page) last) in
      let all = records_page slot size from want w.pages (founds page) last in
      record {
        pages = w.pages ++ call ∷ [];
        made = joins old now new w.pages (call ∷ []) w.made made;
        are = fetches_page slot size from want (At 0) w.pages (founds page) last w.answered w.are;
        answered = pages_more w.pages (Fetch slot want from size) (founds page) last w.answered;
        saw = subst (λ (l : List Found). Saw has_seen given first then l) (sym all)
            (saw-more has_seen given first seen then (records_of (fetched slot w.pages)) (founds page) w.saw saw);
        count_is = omega (
          arith,
          ap (λ (l : List Found). length l) all,
          length-append (records_of (fetched slot w.pages)) (founds page),
          length-map page (λ (r : Shared). found_of (arc_value r)),
          w.count_is,
        );
        held = held-more (of.holds old) (of.holds now) (of.holds new) w.held held;
        bounds = not_raised-more (of.bounds old) (of.bounds now) (of.bounds new) w.bounds bounds;
      }

  -- a page more, with others behind it
  pub walking-on : (joins : (a b c : S) (xs ys : Calls) → Makes of a b xs → Makes of b c ys → Makes of a c (xs ++ ys))
      → {old now new : S} {seen then : V} (from count n next : ℕ) (page : List Shared) (last : Bool)
      → last ≡ false → n ≡ length page → next ≡ past from (founds page)
      → Walking of has_seen given old now first seen slot size want (At from) count
      → Makes of now new (fetch_calls slot want from size page (Ok last))
      → SameHeld (of.holds now) (of.holds new) → NotRaised (of.bounds now) (of.bounds new)
      → Saw has_seen given seen then (founds page)
      → Walking of has_seen given old new first then slot size want (At next) (count + n)
  walking-on joins {old} {now} {new} {seen} {then} from count n next page last is e f w made held bounds saw =
      let p = walking-page joins from count page last w made held bounds saw in
      let there : cond last End (At (past from (founds page))) ≡ At next =
      ap (λ (t : Bool). cond t End (At (past from (founds page)))) is ∙ ap At (sym f) in
      subst (λ (q : Place). Walking of has_seen given old new first then slot size want q (count + n)) there
      (subst (λ (k : ℕ). Walking of has_seen given old new first then slot size want
      (cond last End (At (past from (founds page)))) (count + k)) (sym e) p)

  -- all pages
  pub walked-all : {old new : S} {seen : V} (count : ℕ)
      → Walking of has_seen given old new first seen slot size want End count
      → Walks of old new slot size want (Gave has_seen given first seen) (Ok count)
  walked-all count w = (
    record { pages = w.pages; made = w.made; are = w.are; held = w.held; bounds = w.bounds },
    (w.count_is, w.saw),
  )

  -- a page more, which is the last
  pub walked-last : (joins : (a b c : S) (xs ys : Calls) → Makes of a b xs → Makes of b c ys → Makes of a c (xs ++ ys))
      → {old now new : S} {seen then : V} (from count n : ℕ) (page : List Shared) (last : Bool)
      → last ≡ true → n ≡ length page
      → Walking of has_seen given old now first seen slot size want (At from) count
      → Makes of now new (fetch_calls slot want from size page (Ok last))
      → SameHeld (of.holds now) (of.holds new) → NotRaised (of.bounds now) (of.bounds new)
      → Saw has_seen given seen then (founds page)
      → Walks of old new slot size want (Gave has_seen given first then) (Ok (count + n))
  walked-last joins {old} {now} {new} {seen} {then} from count n page last is e w made held bounds saw =
      let p = walking-page joins from count page last w made held bounds saw in
      let there : cond last End (At (past from (founds page))) ≡ End =
      ap (λ (t : Bool). cond t End (At (past from (founds page)))) is in
      walked-all (count + n)
      (subst (λ (q : Place). Walking of has_seen given old new first then slot size want q (count + n)) there
      (subst (λ (k : ℕ). Walking of has_seen given old new first then slot size want
      (cond last End (At (past from (founds page)))) (count + k)) (sym e) p))

  -- a page more, which was not seen to its end
  pub walked-cut : (joins : (a b c : S) (xs ys : Calls) → Makes of a b xs → Makes of b c ys → Makes of a c (xs ++ ys))
      → {old now new : S} {seen : V} (then : V) (from count : ℕ) (page : List Shared) (last : Bool)
      → Walking of has_seen given old now first seen slot size want (At from) count
      → Makes of now new (fetch_calls slot want from size page (Ok last))
      → SameHeld (of.holds now) (of.holds new) → NotRaised (of.bounds now) (of.bounds new)
      → Walks of old new slot size want (Gave has_seen given first then) (Err call.NoMemory)
  walked-cut joins {old} {now} {new} then from count page last w made held bounds = (
    cond last End (At (past from (founds page))),
    record {
      pages = w.pages ++ (Fetch slot want from size, replies.Page (founds page) last) ∷ [];
      made = joins old now new w.pages _ w.made made;
      are = fetches_page slot size from want (At 0) w.pages (founds page) last w.answered w.are;
      held = held-more (of.holds old) (of.holds now) (of.holds new) w.held held;
      bounds = not_raised-more (of.bounds old) (of.bounds now) (of.bounds new) w.bounds bounds;
    },
  )

  -- pages, and then no memory
  pub walked-short : {old new : S} {seen : V} (then : V) (place : Place) (count : ℕ)
      → Walking of has_seen given old new first seen slot size want place count
      → Walks of old new slot size want (Gave has_seen given first then) (Err call.NoMemory)
  walked-short then place count w =
      (place, record { pages = w.pages; made = w.made; are = w.are; held = w.held; bounds = w.bounds })

  -- a fetch that failed
  pub walked-failed : (joins : (a b c : S) (xs ys : Calls) → Makes of a b xs → Makes of b c ys → Makes of a c (xs ++ ys))
      → {old now new : S} {seen : V} (then : V) (from count : ℕ) (page : List Shared) (fault : CallFault)
      → Walking of has_seen given old now first seen slot size want (At from) count
      → Makes of now new (fetch_calls slot want from size page (Err fault))
      → SameHeld (of.holds now) (of.holds new) → NotRaised (of.bounds now) (of.bounds new)
      → (fault ≡ call.Worn → of.worn new)
      → Walks of old new slot size want (Gave has_seen given first then) (Err fault)
  walked-failed joins {old} {now} {new} then from count page call.NoMemory w made held bounds worn = (
    At from,
    record {
      pages = w.pages ++ (Fetch slot want from size, replies.NoMemory) ∷ [];
      made = joins old now new w.pages _ w.made made;
      are = fetches_lost slot size from want (At 0) w.pages w.answered w.are;
      held = held-more (of.holds old) (of.holds now) (of.holds new) w.held held;
      bounds = not_raised-more (of.bounds old) (of.bounds now) (of.bounds new) w.bounds bounds;
    },
  )
  walked-failed joins {old} {now} {new} then from count page call.Worn w made held bounds worn = (
    At from,
    record {
      pages = w.pages;
      made = subst (λ (l : Calls). Makes of old new l) (append-nil w.pages) (joins old now new w.pages [] w.made made);
      are = w.are;
      held = held-more (of.holds old) (of.holds now) (of.holds new) w.held held;
      bounds = not_raised-more (of.bounds old) (of.bounds now) (of.bounds new) w.bounds bounds;
    },
    worn refl,
  )

-- who answers that it is worn
pub says-worn : (X : Type 0) (fault : CallFault) → fault ≡ call.Worn → is_worn {X = X} (Err fault) ≡ true
says-worn X fault e = ap (λ (f : CallFault). is_worn {X = X} (Err f)) e
