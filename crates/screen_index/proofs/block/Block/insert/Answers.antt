use Rattle.std.proofs.Common.{◌+◌, ◌*◌, ◌∙◌, ap, arith, inl, inr, length, map, subst, sym}
use Rattle.std.proofs.lemmas.List.Elements.{All-weaker}
use Rattle.std.specs.List.{insert}
use Rattle.screen_index.specs.declared.entry.Screened.{Screened}
use Rattle.screen_index.specs.Pairs.{AreCovered, AreNoted, Holds, Notes, column_of}
use Rattle.screen_index.proofs.Columns.{all-insert, columns-insert}
use Rattle.screen_index.proofs.Places.{put-here}
use Rattle.screen_index.proofs.block.Block.insert.Goals as goal

pub returns : goal.returns
returns g c =
    let place = c.count_before-place.result in
    c.in-Ok.ensures.items
    ∙ (ap (λ l. insert l place c.args.entry) c.self.view_is
    ∙ put-here c.args.entry c.args.self.now place c.count_before-place.ensures.within c.count_before-place.ensures.before
    c.count_before-place.ensures.behind c.requires.absent)

pub invariant_of-self : goal.invariant_of-self
invariant_of-self g c =
    let items = c.self.inside.entries.items in
    let place = c.count_before-place.result in
    let x = c.args.entry in
    let union = c.self.inside.union in
    let more = c.unite.new.self in
    let rows = c.self.inside.rows in
    let noted = c.note.new.self in
    let is = c.in-Ok.ensures.items in
    let column = c.column-column.ensures in (
      (let room = c.self.invariant.0 in omega (arith, c.in-Ok.ensures.capacity, room)),
      omega (
        arith,
        c.in-Ok.ensures.len,
        c.insert.new.self.ok.0,
        c.self.inside.entries.ok.0,
        c.requires.room,
        ap (λ l. length l) c.self.view_is,
      ),
      subst (AreCovered more) (sym is)
          (all-insert (λ (y : Screened g.row.V.Denot). Holds more y.print) items place x
          (λ bit h. (c.unite.ensures.value bit).1 (inr h))
          (All-weaker (λ (y : Screened g.row.V.Denot). Holds union y.print)
          (λ (y : Screened g.row.V.Denot). Holds more y.print)
          (λ y holds bit h. (c.unite.ensures.value bit).1 (inl (holds bit h))) items c.self.invariant.2)),
      (let wide = c.self.invariant.3 in omega (arith, c.in-Ok-insert.ensures.capacity, wide)),
      c.in-Ok-insert.ensures.items
          ∙ (ap (λ l. insert l place c.column-column.result) c.self.invariant.4
          ∙ (ap (λ n. insert (map column_of items) place n) column
          ∙ (columns-insert items place x ∙ ap (map column_of) (sym is)))),
      subst (AreNoted noted) (sym is)
          (all-insert (λ (y : Screened g.row.V.Denot). Notes noted y.print (column_of y)) items place x
          (subst (Notes noted x.print) column c.note.ensures.noted)
          (All-weaker (λ (y : Screened g.row.V.Denot). Notes rows y.print (column_of y))
          (λ (y : Screened g.row.V.Denot). Notes noted y.print (column_of y))
          (λ y notes bit h. c.note.ensures.kept (64 * bit + column_of y) (notes bit h)) items
          c.self.invariant.5)),
    )
