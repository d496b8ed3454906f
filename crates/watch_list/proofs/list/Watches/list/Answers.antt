use Rattle.std.proofs.Common.{◌∙◌, ap, List, None, Option, option_map, Some, sym, ℕ}
use Rattle.watch_list.specs.Watches.{WatchesTerm, answered, list_of}
use Rattle.watch_list.proofs.Named.{read-watch}
use Rattle.watch_list.proofs.list.Watches.list.Goals as goal

pub returns-in_err-entry-clause-list : goal.returns-in_err-entry-clause-list
returns-in_err-entry-clause-list c =
    let are = ap (λ (w : WatchesTerm). w.watches) c.self.view_is in
    let none = read-watch c.args.name.now c.self.inside.entries.items c.deref.result.now c.args.self.now.watches None
    c.deref.ensures.value are c.in_err-entry.ensures in
    ap (option_map answered) c.from_residual.ensures ∙ sym (ap (option_map list_of) none)

pub returns-clause-list : goal.returns-clause-list
returns-clause-list c =
    let entry = c.in_ok-entry.entry.now in
    let are = ap (λ (w : WatchesTerm). w.watches) c.self.view_is in
    let is = read-watch c.args.name.now c.self.inside.entries.items c.deref.result.now c.args.self.now.watches
    (Some entry) c.deref.ensures.value are c.in_ok-entry.ensures in
    let both : ℕ → List ℕ → Option (ℕ × List ℕ) = λ n l. Some (n, l) in
    ap (λ n. both n c.hits.result.now) c.version.ensures ∙ ap (both entry.watch.version) c.hits.ensures.hits
    ∙ sym (ap (option_map list_of) is)
