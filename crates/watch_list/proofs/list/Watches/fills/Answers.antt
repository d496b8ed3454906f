use Rattle.std.proofs.Common.{◌∙◌, ap, None, option_map, Some, sym}
use Rattle.watch_list.specs.Watches.{Watch, WatchesTerm}
use Rattle.watch_list.proofs.Named.{read-watch}
use Rattle.watch_list.proofs.list.Watches.fills.Goals as goal

pub returns-in_err-entry : goal.returns-in_err-entry
returns-in_err-entry c =
    let are = ap (λ (w : WatchesTerm). w.watches) c.self.view_is in
    let none = read-watch c.args.name.now c.self.inside.entries.items c.deref.result.now c.args.self.now.watches None
    c.deref.ensures.value are c.in_err-entry.ensures in
    c.from_residual.ensures ∙ sym (ap (option_map (λ (w : Watch). w.fills)) none)

pub returns : goal.returns
returns c =
    let are = ap (λ (w : WatchesTerm). w.watches) c.self.view_is in
    let is = read-watch c.args.name.now c.self.inside.entries.items c.deref.result.now c.args.self.now.watches
    (Some c.in_ok-entry.entry.now) c.deref.ensures.value are c.in_ok-entry.ensures in
    ap Some c.fills.ensures ∙ sym (ap (option_map (λ (w : Watch). w.fills)) is)
