-- Groups of pages, one behind the other: what was fetched of all of them, and the hits of their records.
use Rattle.std.proofs.Common.{◌≡◌, ◌≢◌, ◌+◌, ◌-◌, ◌*◌, ◌++◌, ◌≤◌, ◌∙◌, All, ap, ap₂, append_assoc, arith, Bool, drop, IfSome, length, length-append, List, [], ◌∷◌, None, Option, refl, Some, subst, sym, take, ℕ}
use Rattle.std.proofs.Math.Seq.{drop-append_seam, take-add, take-append-add, take-append_seam, take_all}
use Rattle.std.proofs.lemmas.List.{drop-take}
use Rattle.std.proofs.lemmas.Grind.{flat_map-append}
use Rattle.std.specs.Int.{div_ceil}
use Rattle.smarts_parse.specs.Pattern.{PatternTerm}
use Rattle.snap_registry.specs.declared.Pin.{Pin}
use Rattle.store_core.specs.Records.{PageTerm}
use Rattle.store_core.specs.declared.service.Service as meaning
use Rattle.store_machine.specs.Answers.{AreMatched}
use Rattle.store_machine.specs.Searches.{Place, fetched, records_of}
use Rattle.par_search.specs.Batches.{AreAnswered}
use Rattle.par_search.specs.Fetches.{AreFetches, ArePages, Calls, Makes}
use Rattle.par_search.specs.Flags.{WorkerTerm}
use Rattle.par_search.specs.Groups.{AreBoth, CanMatch, CanSearch, GoesOn, HasMatched}
use Rattle.par_search.specs.Searches.{place_of}
use Rattle.par_search.specs.Shares.{AreSmall, CanFetch, FetchesInto, HasFetched, records_in}
use Rattle.par_search.specs.declared.batch.Fetched.{Fetched}
use Rattle.par_search.specs.declared.fault.SearchFault.{SearchFault}
use Rattle.par_search.specs.declared.fault.SearchFault.TheVariants as fault
use Rattle.par_search.specs.declared.worker.TheConstants.{MOST_RECORDS}
use Rattle.par_search.proofs.Held.{held-more, not_raised-more}
use Rattle.par_search.proofs.Joining.{founds_in, founds_in-append, joined-few}
use Rattle.par_search.proofs.Paged.{fetched-append, fetches-append, pages-append, records-append}
use Rattle.par_search.proofs.Rooming.{kept, page_rooms, rooms-between, same-length, shares-fit}
use Rattle.par_search.proofs.Small.{few-taken, small-append}

-- calls behind pages are answered as they are alone
pages-behind : (xs ys : Calls) → ArePages (xs ++ ys) → ArePages ys
pages-behind [] ys p = p
pages-behind (x ∷ xs) ys p = pages-behind xs ys p.3

answered-append : (o : Option SearchFault) (xs ys : Calls) → ArePages xs → AreAnswered o ys → AreAnswered o (xs ++ ys)
answered-append None xs ys p q = pages-append xs ys p q
answered-append (Some fault.Worn) xs ys p q = pages-append xs ys p q
answered-append (Some fault.NoMemory) xs ys p q = λ all. q (pages-behind xs ys all)
answered-append (Some fault.Pins) xs ys p q = q

-- pages from one place to another, behind those before it
pub up-to : {X : Type 0} (start end : ℕ) (xs : List X) → start ≤ end
    → take start xs ++ drop start (take end xs) ≡ take end xs
up-to start end xs le =
    let whole : start + (end - start) ≡ end = omega (arith, le) in
    ap (λ l. take start xs ++ l) (ap (λ n. drop start (take n xs)) (sym whole) ∙ drop-take start (end - start) xs)
    ∙ sym (take-add start (end - start) xs)
    ∙ ap (λ n. take n xs) whole

module _ {S : Type 0} {of : meaning.Ghosts S} (slot size : ℕ) (want : List Bool) (place : Place) where
  -- pages that were fetched behind others
  pub fetched-more : (joins : (a b c : S) (xs ys : Calls) → Makes of a b xs → Makes of b c ys → Makes of a c (xs ++ ys))
      → {old now new : S} {ps qs : List PageTerm} {f g h : Fetched}
      → HasFetched of old now slot size want place ps f → f.fault ≡ None → f.from ≢ None
      → HasFetched of now new slot size want (place_of f.from) qs g → AreBoth f g h
      → HasFetched of old new slot size want place (ps ++ qs) h
  fetched-more joins {old} {now} {new} {ps} {qs} {f} {g} {h} a e n b both =
      record {
        calls = a.calls ++ b.calls;
        made = joins old now new a.calls b.calls a.made b.made;
        fetches = subst (λ (o : Option ℕ). AreFetches slot size want place (a.calls ++ b.calls) (place_of o))
            (sym both.from) (fetches-append slot size want place (place_of f.from) (place_of g.from) a.calls b.calls pages
            a.fetches b.fetches);
        answered = subst (λ (o : Option SearchFault). AreAnswered o (a.calls ++ b.calls)) (sym both.fault)
            (answered-append g.fault a.calls b.calls pages b.answered);
        within = omega (arith, both.count, whole, b.within, length-append ps qs);
        small = subst AreSmall (sym taken) (small-append ps (take g.count qs) (subst AreSmall all a.small) b.small);
        records = ap records_of (fetched-append slot a.calls b.calls)
            ∙ (records-append (fetched slot a.calls) (fetched slot b.calls)
            ∙ (ap₂ (λ xs ys. xs ++ ys) (a.records ∙ ap founds_in all) b.records
            ∙ (sym (founds_in-append ps (take g.count qs)) ∙ ap founds_in (sym taken))));
        tried = omega (
          arith,
          both.tried,
          a.tried,
          b.tried,
          ap (λ l. length (records_in l)) all,
          ap (λ l. length (records_in l)) taken,
          ap (λ l. length l) (flat_map-append (λ (p : PageTerm). p.records) ps (take g.count qs)),
          length-append (records_in ps) (records_in (take g.count qs)),
        );
        most = omega (arith, a.most, b.most, length-append a.calls b.calls, length-append ps qs);
        full = λ k m. omega (
          arith,
          a.full e n,
          b.full (sym both.fault ∙ k) (λ z. m (both.from ∙ z)),
          length-append a.calls b.calls,
          length-append ps qs,
        );
        whole = λ k m. omega (
          arith,
          both.count,
          whole,
          b.whole (sym both.fault ∙ k) (λ z. m (both.from ∙ z)),
          length-append ps qs,
        );
        from = subst (λ (o : Option ℕ). IfSome o (λ n. n ≤ 1000000000)) (sym both.from) b.from;
        worn = λ k. b.worn (sym both.fault ∙ k);
        held = held-more (of.holds old) (of.holds now) (of.holds new) a.held b.held;
        bounds = not_raised-more (of.bounds old) (of.bounds now) (of.bounds new) a.bounds b.bounds;
      }
    where
      whole : f.count ≡ length ps
      whole = a.whole e n

      pages : ArePages a.calls
      pages = subst (λ (o : Option SearchFault). AreAnswered o a.calls) e a.answered

      all : take f.count ps ≡ ps
      all = take_all f.count ps (omega (arith, whole))

      taken : take h.count (ps ++ qs) ≡ ps ++ take g.count qs
      taken = ap (λ k. take k (ps ++ qs)) (omega (arith, both.count, whole)) ∙ take-append-add ps qs g.count

-- a group of pages that was fetched behind those before it
pub fetches-more : {S : Type 0} {of : meaning.Ghosts S}
    → (joins : (a b c : S) (xs ys : Calls) → Makes of a b xs → Makes of b c ys → Makes of a c (xs ++ ys))
    → {old now new : S} {pin : Pin} {size : ℕ} {want : List Bool} {from start : Option ℕ} {ps qs rs : List PageTerm}
    {f g h : Fetched} (end next : ℕ)
    → FetchesInto of old now pin size want from ps qs (take end qs) f → GoesOn f → start ≡ f.from
    → FetchesInto of now new pin size want start qs rs (take next (drop end rs)) g
    → take end rs ≡ take end qs → AreBoth f g h
    → FetchesInto of old new pin size want from ps rs (take (end + next) rs) h
fetches-more {of = of} joins {old} {now} {new} {pin} {size} {want} {from} {rs = rs} {g = g} {h = h} end next a on at b same both =
    let ahead = take next (drop end rs) in
    record {
      fetched = subst (λ (l : List PageTerm). HasFetched of old new pin.slot size want (place_of from) l h)
          (ap (λ l. l ++ ahead) (sym same) ∙ sym (take-add end next rs))
          (fetched-more pin.slot size want (place_of from) joins a.fetched on.0 on.1
          (subst (λ (o : Option ℕ). HasFetched of now new pin.slot size want (place_of o) ahead g) at b.fetched) both);
      room = b.room ∙ a.room;
    }

-- pages that were fetched, between others that stayed
pub fetches-between : {S : Type 0} {of : meaning.Ghosts S} {old new : S} {pin : Pin} {size : ℕ} {want : List Bool}
    {from : Option ℕ} {all : List PageTerm} {f : Fetched} (first ps qs behind : List PageTerm) (n m : ℕ)
    → all ≡ first ++ (ps ++ behind) → length first ≡ m → length ps ≡ n
    → FetchesInto of old new pin size want from ps qs qs f
    → FetchesInto of old new pin size want from all (first ++ (qs ++ behind))
    (take n (drop m (first ++ (qs ++ behind)))) f
fetches-between {of = of} {old} {new} {pin} {size} {want} {from} {f = f} first ps qs behind n m is start len done =
    let count : length qs ≡ n = same-length (λ (p : PageTerm). p.room) ps qs done.room ∙ len in
    let these : take n (drop m (first ++ (qs ++ behind))) ≡ qs =
    ap (λ k. take n (drop k (first ++ (qs ++ behind)))) (sym start)
    ∙ ap (λ l. take n l) (drop-append_seam first (qs ++ behind))
    ∙ ap (λ k. take k (qs ++ behind)) (sym count) ∙ take-append_seam qs behind in
    record {
      fetched = subst (λ (l : List PageTerm). HasFetched of old new pin.slot size want (place_of from) l f) (sym these)
          done.fetched;
      room = rooms-between first ps qs behind done.room ∙ ap page_rooms (sym is);
    }

-- what can be fetched behind pages that were fetched
pub can-fetch-more : {S : Type 0} {of : meaning.Ghosts S} {old now : S} {pin : Pin} {size : ℕ} {want : List Bool}
    {from start : Option ℕ} {ps qs these : List PageTerm} {f : Fetched}
    → CanFetch of old pin size from ps → FetchesInto of old now pin size want from ps qs these f → start ≡ f.from
    → CanFetch of now pin size start qs
can-fetch-more {pin = pin} {size = size} {ps = ps} {qs = qs} can done at = record {
  held = (done.fetched.held pin.slot pin.version).1 can.held;
  some = can.some;
  few = can.few;
  in_range = subst (λ (o : Option ℕ). IfSome o (λ n. n ≤ 1000000000)) (sym at) done.fetched.from;
  few_pages = omega (arith, can.few_pages, same-length (λ (p : PageTerm). p.room) ps qs done.room);
  room = kept (λ (p : PageTerm). p.room) size ps qs done.room can.room;
}

-- the hits of a group behind those of the pages before it
pub matched-more : {p : PatternTerm} {ws vs us : List WorkerTerm} {xs ys zs : List ℕ} {a b c : ℕ}
    (pages : List PageTerm) (start end : ℕ) → start ≤ end
    → HasMatched p (take start pages) ws vs xs ys a b → HasMatched p (drop start (take end pages)) vs us ys zs b c
    → HasMatched p (take end pages) ws us xs zs a c
matched-more {p = p} {zs = zs} pages start end le first next = record {
  matched = λ before m.
      subst (λ l. AreMatched p l zs)
      (append_assoc before (founds_in (take start pages)) (founds_in (drop start (take end pages)))
      ∙ ap (λ l. before ++ l) (sym (founds_in-append (take start pages) (drop start (take end pages)))
      ∙ ap founds_in (up-to start end pages le)))
      (next.matched (before ++ founds_in (take start pages)) (first.matched before m));
  workers = (next.workers.0 ∙ first.workers.0, next.workers.1 ∙ first.workers.1);
  capacity = next.capacity ∙ first.capacity;
}

-- a group can be matched, where all of the batch can
pub can-match : {p : PatternTerm} {ws vs : List WorkerTerm} {hits : List ℕ} {c d : ℕ} (old pages : List PageTerm)
    (start end n : ℕ) → CanSearch p (length old) ws c → page_rooms pages ≡ page_rooms old
    → HasMatched p (take start pages) ws vs [] hits c d → start ≤ end → AreSmall (take end pages)
    → n ≡ length (records_in (drop start (take end pages)))
    → CanMatch p (drop start (take end pages)) n vs hits d
can-match {p} {ws} {vs} {hits} old pages start end n can same done le small total =
    let number = same-length (λ (q : PageTerm). q.room) old pages same in
    let workers = same-length (λ (w : WorkerTerm). w.room) ws vs done.workers.0 in
    let few = few-taken end pages small in
    let found = joined-few p (records_in (take start pages)) hits (done.matched [] refl) in
    let sum : length (records_in (take start pages)) + n ≡ length (records_in (take end pages)) =
    omega (
      arith,
      length-append (records_in (take start pages)) (records_in (drop start (take end pages))),
      ap (λ l. length l)
          (flat_map-append (λ (q : PageTerm). q.records) (take start pages) (drop start (take end pages))),
      ap (λ l. length (records_in l)) (up-to start end pages le),
      total,
    ) in
    let most : n ≤ length old * MOST_RECORDS = omega (arith, sum, few, number) in
    record {
      total = total;
      some = omega (arith, can.some, workers);
      few = omega (arith, can.few, workers);
      share = subst (λ k. All (λ (w : WorkerTerm). 2 * div_ceil n k ≤ w.share) vs) (sym workers)
          (kept (λ (w : WorkerTerm). w.share) (2 * div_ceil n (length ws)) ws vs done.workers.1
          (shares-fit n (length old * MOST_RECORDS) ws can.some most can.share));
      hits = omega (arith, found, sum, few, number, can.hits, done.capacity);
      sound = can.sound;
    }
