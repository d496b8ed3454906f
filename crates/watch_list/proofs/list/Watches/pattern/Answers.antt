use Rattle.std.proofs.Common.{◌∙◌, ap, None, option_map, Some, sym}
use Rattle.std.specs.Prelude.{option_copied}
use Rattle.watch_list.specs.Watches.{Watch, WatchesTerm}
use Rattle.watch_list.proofs.Named.{read-watch}
use Rattle.watch_list.proofs.list.Watches.pattern.Goals as goal

pub returns-in_err-entry-clause-pattern : goal.returns-in_err-entry-clause-pattern
returns-in_err-entry-clause-pattern c =
    let are = ap (λ (w : WatchesTerm). w.watches) c.self.view_is in
    let none = read-watch c.args.name.now c.self.inside.entries.items c.deref.result.now c.args.self.now.watches None
    c.deref.ensures.value are c.in_err-entry.ensures in
    ap option_copied c.from_residual.ensures ∙ sym (ap (option_map (λ (w : Watch). w.pattern)) none)

pub returns-clause-pattern : goal.returns-clause-pattern
returns-clause-pattern c =
    let are = ap (λ (w : WatchesTerm). w.watches) c.self.view_is in
    let is = read-watch c.args.name.now c.self.inside.entries.items c.deref.result.now c.args.self.now.watches
    (Some c.in_ok-entry.entry.now) c.deref.ensures.value are c.in_ok-entry.ensures in
    ap Some c.pattern.ensures.pattern ∙ sym (ap (option_map (λ (w : Watch). w.pattern)) is)
