use Rattle.std.proofs.Common.{◌∙◌, ap}
use Rattle.watch_list.specs.Watches.{Watch, WatchesTerm}
use Rattle.watch_list.proofs.Kept.{one-pushed}
use Rattle.watch_list.proofs.list.Watches.add.Goals as goal

pub invariant_of-self-2 : goal.invariant_of-self-2
invariant_of-self-2 c =
    one-pushed c.args.name.now c.self.inside.entries.items c.push.new.self.items c.args.self.now.watches c.new.result
    (ap (λ (w : WatchesTerm). w.watches) c.self.view_is) c.in_ok-push.ensures.items
    (ap (λ (w : Watch). w.name) c.new.ensures ∙ c.in_ok-name.ensures.items) c.requires.few c.requires.new
    c.self.invariant
