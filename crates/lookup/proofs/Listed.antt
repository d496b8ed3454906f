-- The list of what a pattern matches, where one is given.
use Rattle.std.proofs.Common.{◌≡◌, Err, IfOk, IsOk, length, List, Ok, refl, Result, subst, sym, Vec, ℕ}
use Rattle.std.specs.List.Sorted.{IsStrictlyIncreasing}
use Rattle.std.specs.declared.alloc.Global.{Global}
use Rattle.smarts_parse.specs.Pattern.{PatternTerm}
use Rattle.store_machine.specs.Answers.{AreMatched}
use Rattle.store_machine.specs.declared.machine.Found.{Found}
use Rattle.par_search.specs.declared.fault.SearchFault.{SearchFault}
use Rattle.lookup.specs.Lists.{IsHitList}
use Rattle.lookup.specs.declared.hits.HitList.{HitList}
use Rattle.lookup.specs.declared.pages.Seen.{Seen}

abbrev list_from : Seen → Vec ℕ Global → HitList
list_from seen hits = record { version = seen.version; tried = seen.count; hits = hits }

pub hit-list : (pattern : PatternTerm) (version : ℕ) (records : List Found) (seen : Seen) (hits : Vec ℕ Global)
    (r : Result HitList SearchFault) → seen.version ≡ version → seen.count ≡ length records
    → AreMatched pattern records hits.items → IfOk r (λ list. list ≡ list_from seen hits)
    → (IsOk r → IsStrictlyIncreasing hits.items) → IfOk r (IsHitList pattern version records)
hit-list pattern version records seen hits (Ok list) at count matched is up =
    subst (IsHitList pattern version records) (sym is)
    (record { version_is = at; tried = count; hits = matched; ascending = up refl })
hit-list pattern version records seen hits (Err fault) at count matched is up = tt
