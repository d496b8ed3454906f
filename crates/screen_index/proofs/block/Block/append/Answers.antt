use Rattle.std.proofs.Common.{◌+◌, ◌*◌, ◌∙◌, ap, arith, inl, inr, length, map, subst, sym, ◌≤◌}
use Rattle.std.proofs.lemmas.List.{length-append}
use Rattle.std.proofs.lemmas.List.Elements.{All-append, All-weaker}
use Rattle.screen_index.specs.declared.entry.Screened.{Screened}
use Rattle.screen_index.specs.Pairs.{AreCovered, AreNoted, Holds, Notes, column_of}
use Rattle.screen_index.proofs.block.Block.append.Goals as goal

pub invariant_of-self : goal.invariant_of-self
invariant_of-self g c =
    let own = c.self.inside.entries.items in
    let others = c.next.inside.entries.items in
    let union = c.unite.new.self in
    let rows = c.unite-2.new.self in
    let is = c.in-Ok.ensures.items in (
      (let room = c.self.invariant.0 in omega (arith, c.in-Ok.ensures.capacity, room)),
      subst (λ l. length l ≤ 256) (sym is)
          (omega (
            arith,
            length-append own others,
            c.requires,
            ap (λ l. length l) c.self.view_is,
            ap (λ l. length l) c.next.view_is,
          )),
      subst (AreCovered union) (sym is)
          (All-append (λ (y : Screened g.row.V.Denot). Holds union y.print) own others
          (All-weaker (λ (y : Screened g.row.V.Denot). Holds c.self.inside.union y.print)
          (λ (y : Screened g.row.V.Denot). Holds union y.print)
          (λ y holds bit h. (c.unite.ensures.value bit).1 (inl (holds bit h))) own c.self.invariant.2)
          (All-weaker (λ (y : Screened g.row.V.Denot). Holds c.next.inside.union y.print)
          (λ (y : Screened g.row.V.Denot). Holds union y.print)
          (λ y holds bit h. (c.unite.ensures.value bit).1 (inr (holds bit h))) others c.next.invariant.2)),
      (let wide = c.self.invariant.3 in omega (arith, c.list_columns.ensures.capacity, wide)),
      c.list_columns.ensures.columns ∙ ap (map column_of) c.as_slice.ensures.value,
      subst (AreNoted rows) (sym is)
          (All-append (λ (y : Screened g.row.V.Denot). Notes rows y.print (column_of y)) own others
          (All-weaker (λ (y : Screened g.row.V.Denot). Notes c.self.inside.rows y.print (column_of y))
          (λ (y : Screened g.row.V.Denot). Notes rows y.print (column_of y))
          (λ y notes bit h. c.unite-2.ensures.own (64 * bit + column_of y) (notes bit h)) own c.self.invariant.5)
          (All-weaker (λ (y : Screened g.row.V.Denot). Notes c.next.inside.rows y.print (column_of y))
          (λ (y : Screened g.row.V.Denot). Notes rows y.print (column_of y))
          (λ y notes bit h. c.unite-2.ensures.others (64 * bit + column_of y) (notes bit h)) others
          c.next.invariant.5)),
    )
