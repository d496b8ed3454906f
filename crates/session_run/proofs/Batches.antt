-- A batch of pages whose hits are written.
use Rattle.std.proofs.Common.{◌≡◌, ◌∙◌, ap, append-nil, Bool, false, length, List, [], None, Option, refl, Some, subst, sym, true, ℕ}
use Rattle.par_search.specs.Batches.{AreAnswered, IsBatch, behind}
use Rattle.par_search.specs.Fetches.{AreFetches, ArePages}
use Rattle.par_search.specs.Searches.{SearchTerm, place_of}
use Rattle.par_search.specs.declared.batch.BatchHits.{BatchHits}
use Rattle.par_search.specs.declared.fault.SearchFault.{SearchFault}
use Rattle.par_search.specs.declared.fault.SearchFault.TheVariants as faults
use Rattle.store_core.specs.Calls.{NotRaised, SameHeld}
use Rattle.store_core.specs.declared.service.Service as meaning
use Rattle.store_machine.specs.Searches.{Place}
use Rattle.session_acts.specs.Cursors.{Calls}
use Rattle.session_acts.proofs.LookedUp.{fetches_leave}
use Rattle.session_run.specs.Made.{Uses}
use Rattle.session_run.specs.Walks.{AreWritten, GoesOn, Stretch, progress_by}
use Rattle.session_run.specs.declared.listing.Progress.{Progress}
use Rattle.session_run.proofs.Joined.{uses-kept}
use Rattle.session_run.proofs.Listed.{partly}
use Rattle.session_run.proofs.Pages.{moved_to}

-- nothing was asked
pub stretch_none : (Made : Calls → Type 0) (s : SearchTerm) (out out' : List ℕ) → Made [] → out' ≡ out
    → Stretch Made s s 0 0 out false out'
stretch_none Made s out out' m e = record {
  pages = [];
  hits = [];
  made = m;
  fetches = refl;
  count_is = refl;
  matched = refl;
  moved = refl;
  length_is = refl;
  written = ([], [], refl, e ∙ sym (append-nil out));
  answered = λ k. tt;
}

not_whole : false ≡ true → ⊥
not_whole e = cc

module _ {S : Type 0} (of : meaning.Ghosts S) (old new : S) (search now : SearchTerm) (batch : BatchHits)
    (b : IsBatch of old new search batch) (moved : now ≡ behind search batch)
    (held : SameHeld (of.holds old) (of.holds new)) (bounds : NotRaised (of.bounds old) (of.bounds new)) where
  place_is : now.place ≡ place_of batch.from
  place_is = ap (λ (s : SearchTerm). s.place) moved

  -- the pages, by whether all hits were written
  pages_of : (w : Bool) (count : ℕ) (out out' : List ℕ) → count ≡ length batch.hits.now
      → AreWritten w batch.hits.now out out' → (w ≡ true → ArePages b.calls)
      → Stretch (Uses of old new) search now batch.tried count out w out'
  pages_of w count out out' n wr answered = record {
    pages = b.calls;
    hits = batch.hits.now;
    made = uses-kept b.calls b.made.made
        (fetches_leave search.slot search.size search.want search.place (place_of batch.from) b.calls b.fetches) held
        bounds;
    fetches = subst (λ (p : Place). AreFetches search.slot search.size search.want search.place b.calls p) (sym place_is)
        b.fetches;
    count_is = b.tried;
    matched = b.matched;
    moved = moved ∙ ap (λ (p : Place). moved_to search p) (sym place_is);
    length_is = n;
    written = wr;
    answered = answered;
  }

  -- how the search goes on
  pub batch_shown : (w : Bool) (count : ℕ) (out out' : List ℕ) (progress : Progress)
      → progress ≡ progress_by batch.fault w batch.from → count ≡ length batch.hits.now
      → AreWritten w batch.hits.now out out'
      → GoesOn (Uses of old new) (of.worn new) search now batch.tried count out out' progress
  batch_shown w count out out' progress e n wr =
      subst (λ (p : Progress). GoesOn (Uses of old new) (of.worn new) search now batch.tried count out out' p) (sym e)
      (by batch.fault w batch.from refl refl wr) where
        part : (w : Bool) → AreWritten w batch.hits.now out out'
            → Stretch (Uses of old new) search now batch.tried count out false out'
        part w wr = pages_of false count out out' n (partly w batch.hits.now out out' wr) (λ k. absurd (not_whole k))

        all : batch.fault ≡ None → AreWritten true batch.hits.now out out'
            → Stretch (Uses of old new) search now batch.tried count out true out'
        all e wr = pages_of true count out out' n wr
            (λ k. subst (λ (o : Option SearchFault). AreAnswered o b.calls) e b.answered)

        by : (o : Option SearchFault) (w : Bool) (q : Option ℕ) → batch.fault ≡ o → batch.from ≡ q
            → AreWritten w batch.hits.now out out'
            → GoesOn (Uses of old new) (of.worn new) search now batch.tried count out out' (progress_by o w q)
        by (Some faults.Worn) w q e f wr = (part w wr, b.worn e)
        by (Some faults.NoMemory) w q e f wr = part w wr
        by (Some faults.Pins) w q e f wr = part w wr
        by None false q e f wr = part false wr
        by None true (Some n) e f wr = all e wr
        by None true None e f wr = (all e wr, place_is ∙ ap place_of f)
