use Rattle.std.proofs.Common.{◌∙◌, ap, length, refl, sym}
use Rattle.std.proofs.lemmas.List.{length-map}
use Rattle.snap_registry.specs.declared.Pin.{Pin}
use Rattle.store_machine.specs.declared.machine.Event.TheVariants.{Stats}
use Rattle.store_core.proofs.OneCall.{one-call}
use Rattle.store_core.proofs.Rows.{stats-gives}
use Rattle.store_core.proofs.store.StoreService.stats.Goals as goal

pub returns-clause-call : goal.returns-clause-call
returns-clause-call c =
    rw (sym c.self.view_is)
    (λ s h. one-call _ _ s s 0 Stats _ refl h
    (stats-gives _ s c.count.result (length c.live.result.now) h c.count.ensures
    (ap (λ l. length l) c.live.ensures.versions ∙ length-map c.self.inside.registry (λ (p : Pin). p.version))) h)
