-- Pages that are fetched one behind the other.
use Rattle.std.proofs.Common.{◌≡◌, ◌+◌, ◌*◌, ◌++◌, ◌<◌, ◌≤◌, ◌∙◌, ap, append-nil, arith, Bool, Err, IfSome, length, length-append, List, [], ◌∷◌, None, Ok, Option, refl, set, Some, subst, sym, take, true, ℕ}
use Rattle.std.proofs.lemmas.List.{length-take-le, take_more_set}
use Rattle.store_core.specs.Calls.{NotRaised, SameHeld, is_worn}
use Rattle.store_core.specs.Records.{PageTerm, Shared, founds}
use Rattle.store_core.specs.Replies.{fetch_calls}
use Rattle.store_core.specs.declared.service.Service as meaning
use Rattle.store_core.specs.declared.words.CallFault.{CallFault}
use Rattle.store_core.specs.declared.words.CallFault.TheVariants as call
use Rattle.store_machine.specs.Searches.{At, Place, fetched, records_of}
use Rattle.store_machine.specs.declared.machine.Event.{Event}
use Rattle.store_machine.specs.declared.machine.Event.TheVariants.{Fetch}
use Rattle.store_machine.specs.declared.machine.Reply.{Reply}
use Rattle.store_machine.specs.declared.machine.Reply.TheVariants as replies
use Rattle.par_search.specs.Batches.{AreAnswered}
use Rattle.par_search.specs.Faults.{fault_of}
use Rattle.par_search.specs.Fetches.{AreFetches, ArePages, Calls, Makes}
use Rattle.par_search.specs.Searches.{place_after, place_of}
use Rattle.par_search.specs.Shares.{AreSmall, HasFetched, records_in}
use Rattle.par_search.specs.declared.batch.Fetched.{Fetched}
use Rattle.par_search.specs.declared.fault.SearchFault.{SearchFault}
use Rattle.par_search.specs.declared.fault.SearchFault.TheVariants as fault
use Rattle.par_search.specs.declared.worker.TheConstants.{MOST_RECORDS}
use Rattle.par_search.proofs.Held.{held-more, held-same, not_raised-more, not_raised-same}
use Rattle.par_search.proofs.Joining.{founds_in, founds_in-append}
use Rattle.par_search.proofs.Paged.{fetches_lost, fetches_page, pages_lost, pages_more, records_lost, records_page}
use Rattle.par_search.proofs.Small.{records-more, small-append, small-few}

-- so many pages were fetched, and no fetch failed
pub record Fetching {S : Type 0} (of : meaning.Ghosts S) (old now : S) (slot size : ℕ) (want : List Bool)
    (place : Place) (pages : List PageTerm) (count : ℕ) (f : Fetched) : Type 0 where
  pub calls : Calls
  pub made : Makes of old now calls
  pub fetches : AreFetches slot size want place calls (place_of f.from)
  pub answered : ArePages calls
  pub number : length calls ≡ count
  pub count_is : f.count ≡ count
  pub fault : f.fault ≡ None
  pub small : AreSmall (take count pages)
  pub records : records_of (fetched slot calls) ≡ founds_in (take count pages)
  pub tried : f.tried ≡ length (records_in (take count pages))
  pub from : IfSome f.from (λ n. n ≤ 1000000000)
  pub held : SameHeld (of.holds old) (of.holds now)
  pub bounds : NotRaised (of.bounds old) (of.bounds now)

-- an answer of a worn service
pub says-worn : (X : Type 0) (e : CallFault) → e ≡ call.Worn → is_worn {X = X} (Err e) ≡ true
says-worn X e k = ap (λ (x : CallFault). is_worn {X = X} (Err x)) k

some_fault : (q : Option SearchFault) (x : SearchFault) → q ≡ None → q ≡ Some x → ⊥
some_fault q x k l = cc

module _ {S : Type 0} {of : meaning.Ghosts S} (slot size : ℕ) (want : List Bool) (place : Place) where
  pub fetching-none : (a : S) (pages : List PageTerm) (f : Fetched) → Makes of a a [] → f.count ≡ 0 → f.tried ≡ 0
      → f.fault ≡ None → place ≡ place_of f.from → IfSome f.from (λ n. n ≤ 1000000000)
      → Fetching of a a slot size want place pages 0 f
  fetching-none a pages f made c t e p from = record {
    calls = [];
    made = made;
    fetches = sym p;
    answered = tt;
    number = refl;
    count_is = c;
    fault = e;
    small = tt;
    records = refl;
    tried = t;
    from = from;
    held = held-same (of.holds a);
    bounds = not_raised-same (of.bounds a);
  }

  -- a page more
  pub fetching-page : (joins : (a b c : S) (xs ys : Calls) → Makes of a b xs → Makes of b c ys → Makes of a c (xs ++ ys))
      → {old now new : S} {pages : List PageTerm} {count : ℕ} {f g : Fetched} (from : ℕ) (page : PageTerm) (last : Bool)
      → Fetching of old now slot size want place pages count f → f.from ≡ Some from → count < length pages
      → Makes of now new (fetch_calls slot want from size page.records (Ok last))
      → SameHeld (of.holds now) (of.holds new) → NotRaised (of.bounds now) (of.bounds new)
      → length page.records ≤ MOST_RECORDS
      → g.count ≡ f.count + 1 → g.tried ≡ f.tried + length page.records → g.fault ≡ f.fault
      → place_of g.from ≡ place_after from (founds page.records) last → IfSome g.from (λ n. n ≤ 1000000000)
      → Fetching of old new slot size want place (set pages count page) (count + 1) g
  fetching-page joins {old} {now} {new} {pages} {count} {f} {g} from page last w at less made held bounds few c t e p in_range =
      let call : Event × Reply = (Fetch slot want from size, replies.Page (founds page.records) last) in
      let more : take (count + 1) (set pages count page) ≡ take count pages ++ page ∷ [] =
      take_more_set pages count page less in
      let start : AreFetches slot size want place w.calls (At from) =
      subst (λ (o : Option ℕ). AreFetches slot size want place w.calls (place_of o)) at w.fetches in
      record {
        calls = w.calls ++ call ∷ [];
        made = joins old now new w.calls (call ∷ []) w.made made;
        fetches = subst (λ (q : Place). AreFetches slot size want place (w.calls ++ call ∷ []) q) (sym p)
            (fetches_page slot size from want place w.calls (founds page.records) last w.answered start);
        answered = pages_more w.calls (Fetch slot want from size) (founds page.records) last w.answered;
        number = omega (arith, length-append w.calls (call ∷ []), w.number);
        count_is = omega (arith, c, w.count_is);
        fault = e ∙ w.fault;
        small = subst AreSmall (sym more) (small-append (take count pages) (page ∷ []) w.small (few, tt));
        records = records_page slot size from want w.calls (founds page.records) last
            ∙ (ap (λ l. l ++ founds page.records) w.records
            ∙ (sym (founds_in-append (take count pages) (page ∷ []) ∙ ap (λ l. founds_in (take count pages) ++ l) one)
            ∙ ap founds_in (sym more)));
        tried = omega (
          arith,
          t,
          w.tried,
          ap (λ l. length l) (records-more (take count pages) page),
          length-append (records_in (take count pages)) page.records,
          ap (λ l. length (records_in l)) more,
        );
        from = in_range;
        held = held-more (of.holds old) (of.holds now) (of.holds new) w.held held;
        bounds = not_raised-more (of.bounds old) (of.bounds now) (of.bounds new) w.bounds bounds;
      }
    where
      one : founds_in (page ∷ []) ≡ founds page.records
      one = ap founds (records-more [] page)

  -- how many records there are at most
  pub fetching-few : {old now : S} {pages : List PageTerm} {count : ℕ} {f : Fetched}
      → Fetching of old now slot size want place pages count f → count ≤ length pages → f.tried ≤ count * MOST_RECORDS
  fetching-few {pages = pages} {count = count} w le =
      omega (arith, small-few (take count pages) w.small, w.tried, length-take-le count pages le)

  -- a fetch failed
  pub fetching-failed : (joins : (a b c : S) (xs ys : Calls) → Makes of a b xs → Makes of b c ys → Makes of a c (xs ++ ys))
      → {old now new : S} {pages pages' : List PageTerm} {count : ℕ} {f g : Fetched} (from : ℕ) (records : List Shared)
      (e : CallFault)
      → Fetching of old now slot size want place pages count f → f.from ≡ Some from → count < length pages
      → Makes of now new (fetch_calls slot want from size records (Err e))
      → SameHeld (of.holds now) (of.holds new) → NotRaised (of.bounds now) (of.bounds new)
      → (e ≡ call.Worn → of.worn new)
      → take count pages' ≡ take count pages → length pages' ≡ length pages
      → g.count ≡ f.count → g.tried ≡ f.tried → g.from ≡ f.from → g.fault ≡ Some (fault_of e)
      → HasFetched of old new slot size want place pages' g
  fetching-failed joins {old} {now} {new} {pages} {pages'} {count} {f} {g} from records call.Worn w at less made held bounds worn same len c t o e =
      record {
        calls = w.calls ++ [];
        made = joins old now new w.calls [] w.made made;
        fetches = subst (λ (l : Calls). AreFetches slot size want place l (place_of g.from)) (sym (append-nil w.calls))
            (subst (λ (q : Option ℕ). AreFetches slot size want place w.calls (place_of q)) (sym o) w.fetches);
        answered = subst (λ (q : Option SearchFault). AreAnswered q (w.calls ++ [])) (sym e)
            (subst ArePages (sym (append-nil w.calls)) w.answered);
        within = omega (arith, less, c, w.count_is, len);
        small = subst AreSmall (sym taken) w.small;
        records = ap (λ (l : Calls). records_of (fetched slot l)) (append-nil w.calls)
            ∙ (w.records ∙ ap founds_in (sym taken));
        tried = t ∙ (w.tried ∙ ap (λ l. length (records_in l)) (sym taken));
        most = omega (arith, less, w.number, len, length-append w.calls []);
        full = λ k. absurd (some_fault g.fault (fault_of call.Worn) k e);
        whole = λ k. absurd (some_fault g.fault (fault_of call.Worn) k e);
        from = subst (λ (q : Option ℕ). IfSome q (λ n. n ≤ 1000000000)) (sym o) w.from;
        worn = λ k. worn refl;
        held = held-more (of.holds old) (of.holds now) (of.holds new) w.held held;
        bounds = not_raised-more (of.bounds old) (of.bounds now) (of.bounds new) w.bounds bounds;
      }
    where
      taken : take g.count pages' ≡ take count pages
      taken = ap (λ n. take n pages') (c ∙ w.count_is) ∙ same
  fetching-failed joins {old} {now} {new} {pages} {pages'} {count} {f} {g} from records call.NoMemory w at less made held bounds worn same len c t o e =
      record {
        calls = w.calls ++ lost ∷ [];
        made = joins old now new w.calls (lost ∷ []) w.made made;
        fetches = subst (λ (q : Option ℕ). AreFetches slot size want place (w.calls ++ lost ∷ []) (place_of q))
            (sym (o ∙ at))
            (fetches_lost slot size from want place w.calls w.answered
            (subst (λ (q : Option ℕ). AreFetches slot size want place w.calls (place_of q)) at w.fetches));
        answered = subst (λ (q : Option SearchFault). AreAnswered q (w.calls ++ lost ∷ [])) (sym e)
            (λ k. pages_lost w.calls (Fetch slot want from size) k);
        within = omega (arith, less, c, w.count_is, len);
        small = subst AreSmall (sym taken) w.small;
        records = records_lost slot size from want w.calls ∙ (w.records ∙ ap founds_in (sym taken));
        tried = t ∙ (w.tried ∙ ap (λ l. length (records_in l)) (sym taken));
        most = omega (arith, less, w.number, len, length-append w.calls (lost ∷ []));
        full = λ k. absurd (some_fault g.fault (fault_of call.NoMemory) k e);
        whole = λ k. absurd (some_fault g.fault (fault_of call.NoMemory) k e);
        from = subst (λ (q : Option ℕ). IfSome q (λ n. n ≤ 1000000000)) (sym o) w.from;
        worn = λ k. absurd (not_worn g.fault k e);
        held = held-more (of.holds old) (of.holds now) (of.holds new) w.held held;
        bounds = not_raised-more (of.bounds old) (of.bounds now) (of.bounds new) w.bounds bounds;
      }
    where
      lost : Event × Reply
      lost = (Fetch slot want from size, replies.NoMemory)

      taken : take g.count pages' ≡ take count pages
      taken = ap (λ n. take n pages') (c ∙ w.count_is) ∙ same

      not_worn : (q : Option SearchFault) → q ≡ Some fault.Worn → q ≡ Some fault.NoMemory → ⊥
      not_worn q k l = cc
