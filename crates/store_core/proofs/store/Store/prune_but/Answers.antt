use Rattle.std.proofs.Common.{◌≡◌, ◌++◌, ◌∙◌, [], ◌∷◌, subst, sym}
use Rattle.std.specs.Option.{option_to_list}
use Rattle.store_core.specs.Stored.{StoreTerm, alone}
use Rattle.store_core.proofs.PruneRow.{left-stands, prunes, versions}
use Rattle.store_core.proofs.store.Store.prune_but.Goals as goal

pub invariant_of-self : goal.invariant_of-self
invariant_of-self c =
    let law = c.laws.ensures in
    let was = c.self.invariant in
    let live = c.as_slice.result.now in
    let is = subst (λ (t : StoreTerm). live ≡ versions t.pins ++ (option_to_list c.args.copied ++ t.version ∷ []))
    (sym c.self.view_is) (c.as_slice.ensures.value ∙ c.in_use-versions.ensures) in
    let l = c.prune.ensures.lists was.0.kept was.1.kept in (
      _,
      left-stands law.read law.states _ (alone was.0) was.1 live c.args.copied is c.prune.new.self
          c.prune.ensures.left l.0 l.1 c.prune.result l.2,
    )

pub returns-clause-pruned : goal.returns-clause-pruned
returns-clause-pruned c =
    let law = c.laws.ensures in
    let live = c.as_slice.result.now in
    let is = subst (λ (t : StoreTerm). live ≡ versions t.pins ++ (option_to_list c.args.copied ++ t.version ∷ []))
    (sym c.self.view_is) (c.as_slice.ensures.value ∙ c.in_use-versions.ensures) in
    rw (sym c.self.view_is)
    (λ s h keeps.
    let l = c.prune.ensures.lists s.kept h.kept in
    prunes law.read law.states _ s h live c.args.copied is c.prune.new.self c.prune.ensures.left l.0 l.1 c.prune.result
    l.2 keeps)
