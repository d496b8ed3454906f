use Rattle.std.proofs.Common.{arith, refl}
use Rattle.store_machine.specs.Searches.{End}
use Rattle.par_search.proofs.laws.pages_are_hits.Goals as goal

pub returns : goal.returns
returns c = λ s s' steps own slot version pattern want pages hits sound run calm calls need matched.
    let p = c.calls_give_pages.ensures s s' steps own slot version 0 want End pages sound run calm
    (omega arith) calls in
    (p.hits refl pattern hits (c.needs_screen.ensures pattern want need) matched, p.tried refl)
