-- How many records are in pages.
use Rattle.std.proofs.Common.{◌≡◌, ◌*◌, ◌++◌, ◌≤◌, append-nil, arith, length, length-append, List, [], ◌∷◌, suc, take, zero, ℕ}
use Rattle.std.proofs.lemmas.Grind.{flat_map-append}
use Rattle.store_core.specs.Records.{PageTerm}
use Rattle.par_search.specs.Shares.{AreSmall, records_in}
use Rattle.par_search.specs.declared.worker.TheConstants.{MOST_RECORDS}

pub small-append : (ps qs : List PageTerm) → AreSmall ps → AreSmall qs → AreSmall (ps ++ qs)
small-append [] qs h k = k
small-append (p ∷ ps) qs h k = (h.0, small-append ps qs h.1 k)

pub small-few : (ps : List PageTerm) → AreSmall ps → length (records_in ps) ≤ length ps * MOST_RECORDS
small-few [] h = omega arith
small-few (p ∷ ps) h =
    let k = small-few ps h.1 in
    omega (arith, h.0, k, length-append p.records (records_in ps))

-- a page more
pub records-more : (ps : List PageTerm) (p : PageTerm) → records_in (ps ++ p ∷ []) ≡ records_in ps ++ p.records
records-more ps p = simp (flat_map-append, append-nil)

-- the records of the first pages are no more than those that all may have
pub few-taken : (n : ℕ) (ps : List PageTerm) → AreSmall (take n ps)
    → length (records_in (take n ps)) ≤ length ps * MOST_RECORDS
few-taken zero ps h = omega arith
few-taken (suc n) [] h = omega arith
few-taken (suc n) (p ∷ ps) h =
    let k = few-taken n ps h.1 in
    omega (arith, h.0, k, length-append p.records (records_in (take n ps)))
