use Rattle.std.proofs.Common.{◌≡◌, ◌∙◌, ap, arith, is_some, length, List, map, subst, sym, true}
use Rattle.watch_list.specs.Entries.{EntryTerm, watches_in}
use Rattle.watch_list.specs.Watches.{AreWatches, WatchesTerm, filled, refilled, watch_of}
use Rattle.watch_list.proofs.Kept.{filled-names, same-names}
use Rattle.watch_list.proofs.Named.{found, lost}
use Rattle.watch_list.proofs.list.Watches.fill.Goals as goal

pub index_mut-entry-requires : goal.index_mut-entry-requires
index_mut-entry-requires c =
    let at = found c.args.name.now c.self.inside.entries.items c.deref.result.now c.in-Some.place c.deref.ensures.value
    c.in-Some.ensures in
    omega (arith, at.within, c.deref.ensures.len, ap (λ (l : List EntryTerm). length l) c.deref.ensures.value)

pub invariant_of-self : goal.invariant_of-self
invariant_of-self c =
    let es = c.self.inside.entries.items in
    let name = c.args.name.now in
    let version = c.args.version in
    let hits = c.args.hits.items in
    let at = found name es c.deref.result.now c.in-Some.place c.deref.ensures.value c.in-Some.ensures in
    let put = at.filled_is c.self.invariant.distinct version hits c.fill.new.self c.index_mut-entry.result.now
    (c.fill.ensures ∙ ap (λ (x : EntryTerm). refilled version hits x.watch)
    c.index_mut-entry.ensures.value) in
    subst AreWatches put (same-names (watches_in es) (map (filled name version hits) (watches_in es))
    (filled-names name version hits (watches_in es)) c.self.invariant)

pub returns-in-Some : goal.returns-in-Some
returns-in-Some c =
    let es = c.self.inside.entries.items in
    let name = c.args.name.now in
    let version = c.args.version in
    let hits = c.args.hits.items in
    let at = found name es c.deref.result.now c.in-Some.place c.deref.ensures.value c.in-Some.ensures in
    let put = at.filled_is c.self.invariant.distinct version hits c.fill.new.self c.index_mut-entry.result.now
    (c.fill.ensures ∙ ap (λ (x : EntryTerm). refilled version hits x.watch)
    c.index_mut-entry.ensures.value) in
    sym put ∙ ap (λ (w : WatchesTerm). map (filled name version hits) w.watches) c.self.view_is

pub returns-in_default : goal.returns-in_default
returns-in_default c =
    let name = c.args.name.now in
    let none = lost name c.self.inside.entries.items c.deref.result.now c.deref.ensures.value c.in_default.ensures in
    let are = ap (λ (w : WatchesTerm). w.watches) c.self.view_is in
    let unwatched = ap is_some (ap (watch_of name) (sym are) ∙ none) in
    let watched : is_some (watch_of name c.args.self.now.watches) ≡ true = c.requires.watched in
    absurd (cc)
