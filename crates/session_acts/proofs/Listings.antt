-- Pages of a search that follow each other.
use Rattle.std.proofs.Common.{◌≡◌, ◌++◌, ◌+◌, ◌∙◌, ap, ap₂, Bool, length, length-append, List, [], ◌∷◌, refl, subst, sym, ℕ}
use Rattle.par_search.specs.Fetches.{AreFetches, ArePages}
pub use Rattle.par_search.proofs.Matched.{matched-append}
pub use Rattle.par_search.proofs.Paged.{fetched-append, records-append}
use Rattle.par_search.proofs.Paged.{fetches-append}
use Rattle.smarts_parse.specs.Pattern.{PatternTerm}
use Rattle.store_machine.specs.Answers.{AreMatched}
use Rattle.store_machine.specs.Searches.{At, Fetched, IsSearch, Place, fetched, place_after, records_of}
use Rattle.store_machine.specs.declared.machine.Found.{Found}
use Rattle.store_machine.specs.Structures.{IsNeedOf}
use Rattle.session_acts.specs.Cursors.{Calls, IsSearched}

pub search-append : (want : List Bool) (a b d : Place) (fs gs : List Fetched) → IsSearch want a fs b
    → IsSearch want b gs d
    → IsSearch want a (fs ++ gs) d
search-append want a b d [] gs s t = subst (λ (p : Place). IsSearch want p gs d) s t
search-append want a b d (f ∷ fs) gs s t = (s.0, s.1, search-append want (place_after f) b d fs gs s.2 t)

-- nothing was fetched
pub searched_none : (p : PatternTerm) (want : List Bool) (slot size : ℕ) → IsNeedOf p want
    → (s : IsSearched p slot size (At 0) [] 0 []) × (s.want ≡ want)
searched_none p want slot size need =
    (record { want = want; need = need; fetches = refl; count = refl; matched = refl }, refl)

-- more pages behind pages
pub searched_more : (p : PatternTerm) (slot size : ℕ) (place next : Place) (pages more : Calls) (tried count : ℕ)
    (hits others : List ℕ) → (s : IsSearched p slot size place pages tried hits) → ArePages pages
    → AreFetches slot size s.want place more next → count ≡ length (records_of (fetched slot more))
    → AreMatched p (records_of (fetched slot more)) others
    → (t : IsSearched p slot size next (pages ++ more) (tried + count) (hits ++ others)) × (t.want ≡ s.want)
searched_more p slot size place next pages more tried count hits others s all f n m =
    let first = records_of (fetched slot pages) in
    let behind = records_of (fetched slot more) in
    let records_are : records_of (fetched slot (pages ++ more)) ≡ first ++ behind =
    ap records_of (fetched-append slot pages more) ∙ records-append (fetched slot pages) (fetched slot more) in (
      record {
        want = s.want;
        need = s.need;
        fetches = fetches-append slot size s.want (At 0) place next pages more all s.fetches f;
        count = ap₂ (λ a b. a + b) s.count n ∙ (sym (length-append first behind) ∙ sym (ap (λ l. length l) records_are));
        matched = subst (λ (rs : List Found). AreMatched p rs (hits ++ others)) (sym records_are)
            (matched-append p first behind hits others s.matched m);
      },
      refl,
    )
