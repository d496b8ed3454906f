use Rattle.std.proofs.Common.{subst, sym}
use Rattle.store_core.specs.Stored.{HoldsPin}
use Rattle.par_search.specs.Searches.{SearchTerm}
use Rattle.store_rows.proofs.tests.searches.is_next.Goals as goal

pub returns-then-page-tried : goal.returns-then-page-tried
returns-then-page-tried g c =
    let old = c.args.search.now in
    subst (λ (s : SearchTerm). HoldsPin c.next.new.service s.slot s.version) (sym c.next.follows.holds-at-none)
    ((c.next.ensures.held old.slot old.version).1 c.requires)

pub returns-else-page-tried : goal.returns-else-page-tried
returns-else-page-tried g c =
    let old = c.args.search.now in
    subst (λ (s : SearchTerm). HoldsPin c.next.new.service s.slot s.version) (sym c.next.follows.holds-at-none)
    ((c.next.ensures.held old.slot old.version).1 c.requires)

pub returns-in-Err : goal.returns-in-Err
returns-in-Err g c =
    let old = c.args.search.now in
    subst (λ (s : SearchTerm). HoldsPin c.next.new.service s.slot s.version) (sym c.next.follows.holds-at-none)
    ((c.next.ensures.held old.slot old.version).1 c.requires)
