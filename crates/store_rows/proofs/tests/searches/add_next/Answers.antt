use Rattle.std.proofs.Common.{subst, sym}
use Rattle.store_core.specs.Stored.{HoldsPin}
use Rattle.par_search.specs.Searches.{SearchTerm}
use Rattle.store_rows.proofs.tests.searches.add_next.Goals as goal

pub returns-then-is_some : goal.returns-then-is_some
returns-then-is_some g c =
    let old = c.args.search.now in
    subst (λ (s : SearchTerm). HoldsPin c.next_pages.new.service s.slot s.version)
    (sym c.next_pages.follows.holds-at-none) ((c.next_pages.ensures.held old.slot old.version).1 c.requires)

pub returns-in_err-extend_from_slice : goal.returns-in_err-extend_from_slice
returns-in_err-extend_from_slice g c =
    let old = c.args.search.now in
    subst (λ (s : SearchTerm). HoldsPin c.next_pages.new.service s.slot s.version)
    (sym c.next_pages.follows.holds-at-none) ((c.next_pages.ensures.held old.slot old.version).1 c.requires)

pub returns : goal.returns
returns g c =
    let old = c.args.search.now in
    subst (λ (s : SearchTerm). HoldsPin c.next_pages.new.service s.slot s.version)
    (sym c.next_pages.follows.holds-at-none) ((c.next_pages.ensures.held old.slot old.version).1 c.requires)
