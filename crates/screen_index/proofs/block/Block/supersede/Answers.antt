use Rattle.std.proofs.Common.{◌≡◌, ◌<◌, ◌≤◌, ◌∙◌, ap, arith, false, get_or, length, nat_lt, set, subst, sym, true}
use Rattle.std.proofs.lemmas.Bool.Decides.{nat_tests}
use Rattle.std.proofs.lemmas.List.{get_or_default, length-set}
use Rattle.std.proofs.lemmas.List.Elements.{All-set}
use Rattle.screen_index.specs.Pairs.{Holds, Notes, column_of, rank, rank_of}
use Rattle.screen_index.specs.declared.entry.Screened.{Screened}
use Rattle.screen_index.proofs.Columns.{columns-set}
use Rattle.screen_index.proofs.Places.{lacks-parted, superseded-at, superseded-none}
use Rattle.screen_index.proofs.block.Block.supersede.Goals as goal
use Rattle.screen_index.proofs.block.Block.supersede.Goals.{else-index-len-via-then-index-len+else-not-is_behind, else-index-len-via-else-index-len}

pub returns-then-not-is_behind : goal.returns-then-not-is_behind
returns-then-not-is_behind g c =
    let r = rank c.args.place.0 c.args.place.1 in
    let now = c.args.self.now in
    let i = c.count_before-index.result in
    let x = c.index_mut.result.now in
    let y = c.index.result.now in
    let len = ap (λ l. length l) c.self.view_is in
    let less : i < length now = omega (arith, c.if-index-len.true, c.len.ensures, c.self.inside.entries.ok.0, len) in
    let is : x ≡ get_or now i x = c.index_mut.ensures.value ∙ ap (λ l. get_or l i x) c.self.view_is in
    let read : y ≡ get_or now i y = c.index.ensures ∙ ap (λ l. get_or l i y) c.self.view_is in
    let f : nat_lt r (rank_of y) ≡ false = sym c.is_behind.ensures ∙ c.if-not-is_behind.true in
    let early : rank_of y ≤ r = grind (arith, nat_tests, f) in
    let late : r ≤ rank_of (get_or now i x) = c.count_before-index.ensures.behind i x (omega arith) less in
    let same = ap rank_of (read ∙ get_or_default now i y x less) in
    ap (λ l. set l i (record x { until = c.args.until })) c.self.view_is
    ∙ superseded-at 0 r c.args.until i now x c.requires less is (omega (arith, early, late, same, ap rank_of is))

pub returns-else-index-len : goal.returns-else-index-len
returns-else-index-len g c =
    let r = rank c.args.place.0 c.args.place.1 in
    let now = c.args.self.now in
    let i = c.count_before-index.result in
    sym (superseded-none r c.args.until now (lacks-parted r i now c.requires c.count_before-index.ensures.before
    (elim c.else-index-len.branch [
      | else-index-len-via-then-index-len+else-not-is_behind w ↦ λ d less.
          let y = w.index.result.now in
          let read : y ≡ get_or now i y = w.index.ensures ∙ ap (λ l. get_or l i y) c.self.view_is in
          let t : nat_lt r (rank_of y) ≡ true = sym w.is_behind.ensures ∙ w.if-not-is_behind.false in
          let behind : r < rank_of y = grind (arith, nat_tests, t) in
          omega (arith, behind, ap rank_of (read ∙ get_or_default now i y d less))
      | else-index-len-via-else-index-len w ↦ λ d less. absurd (omega (
        arith,
        less,
        w.if-index-len.false,
        c.len.ensures,
        c.self.inside.entries.ok.0,
        ap (λ l. length l) c.self.view_is,
      ))
    ])))

pub invariant_of-self : goal.invariant_of-self
invariant_of-self g c =
    let items = c.self.inside.entries.items in
    let i = c.count_before-index.result in
    let x = c.index_mut.result.now in
    let y : Screened g.row.V.Denot = record x { until = c.args.until } in
    let union = c.self.inside.union in
    let rows = c.self.inside.rows in
    let less : i < length items = omega (arith, c.if-index-len.true, c.len.ensures, c.self.inside.entries.ok.0) in
    let is : x ≡ get_or items i x = c.index_mut.ensures.value in (
      c.self.invariant.0,
      (let few = c.self.invariant.1 in rw (length-set items i y) few),
      All-set (λ (z : Screened g.row.V.Denot). Holds union z.print) items i y
          (subst (λ (z : Screened g.row.V.Denot). Holds union z.print) (sym is) (c.self.invariant.2 i x less))
          c.self.invariant.2,
      c.self.invariant.3,
      c.self.invariant.4 ∙ sym (columns-set items i y x (ap column_of is) less),
      All-set (λ (z : Screened g.row.V.Denot). Notes rows z.print (column_of z)) items i y
          (subst (λ (z : Screened g.row.V.Denot). Notes rows z.print (column_of z)) (sym is) (c.self.invariant.5 i x less))
          c.self.invariant.5,
    )
