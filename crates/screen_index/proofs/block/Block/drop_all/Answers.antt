use Rattle.std.proofs.Common.{◌∙◌, ap, arith, map, subst, sym}
use Rattle.std.proofs.lemmas.List.Elements.{All-filter}
use Rattle.screen_index.specs.declared.entry.Screened.{Screened}
use Rattle.screen_index.specs.Pairs.{AreCovered, AreNoted, Holds, Notes, column_of, is_apart}
use Rattle.screen_index.proofs.block.Block.drop_all.Goals as goal

pub invariant_of-self : goal.invariant_of-self
invariant_of-self g c =
    let union = c.self.inside.union in
    let old = c.self.inside.entries.items in (
      (let room = c.self.invariant.0 in omega (arith, c.drop_places.ensures.capacity, room)),
      (let few = c.self.invariant.1 in omega (arith, c.drop_places.ensures.fewer, few)),
      subst (AreCovered union) (sym c.drop_places.ensures.entries)
          (All-filter (is_apart c.args.places.now) (λ (x : Screened g.row.V.Denot). Holds union x.print) old
          c.self.invariant.2),
      (let wide = c.self.invariant.3 in omega (arith, c.list_columns.ensures.capacity, wide)),
      c.list_columns.ensures.columns ∙ ap (map column_of) c.as_slice.ensures.value,
      subst (AreNoted c.self.inside.rows) (sym c.drop_places.ensures.entries)
          (All-filter (is_apart c.args.places.now)
          (λ (x : Screened g.row.V.Denot). Notes c.self.inside.rows x.print (column_of x)) old c.self.invariant.5),
    )
