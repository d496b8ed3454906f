use Rattle.std.proofs.Common.{◌∙◌, ap, option_map, sym}
use Rattle.store_disk.proofs.Pruned.{pruned-call, pruned-ready}
use Rattle.store_disk.proofs.store.StoreService.prune.Goals as goal

pub invariant_of-self : goal.invariant_of-self
invariant_of-self g c =
    pruned-ready c.laws.ensures.sound c.laws.ensures.keep c.self.inside.memory c.prune_but.new.self c.self.inside.pair _
    c.copied-copied.result c.prune_but.result
    (c.copied-copied.ensures ∙ ap (λ t. option_map (λ c. c.version) t.copy) (sym c.self.view_is))
    c.prune_but.ensures.pruned c.prune_but.ensures.version c.self.invariant

pub returns-clause-call : goal.returns-clause-call
returns-clause-call g c =
    let d = g.D.Disk.model in
    rw (sym c.self.view_is)
    (λ s h. pruned-call d g.met.D.Disk.only_now c.laws.ensures.sound c.laws.ensures.heads _
    c.laws.ensures.leaves c.laws.ensures.keep c.prune_but.new.self s h c.copied-copied.result c.prune_but.result
    (c.copied-copied.ensures ∙ ap (λ t. option_map (λ c. c.version) t.copy) (sym c.self.view_is))
    c.prune_but.ensures.pruned)
