use Rattle.std.proofs.Common.{◌≡◌, ◌<◌, ◌≤◌, ◌∙◌, ap, arith, get_or, inl, inr, length, subst, sym}
use Rattle.std.proofs.lemmas.Bool.{cases_lt, true≢false}
use Rattle.std.proofs.lemmas.List.{get_or_default}
use Rattle.std.specs.Int.{bit_at}
use Rattle.screen_index.specs.declared.entry.Screened.{Screened}
use Rattle.screen_index.specs.Pairs.{AreNoted, Holds, column_of, rank, rank_of}
use Rattle.screen_index.proofs.Columns.{AreColumnsOf, column-at, lacks-wanted, none-left}
use Rattle.screen_index.proofs.Nexts.{first-is}
use Rattle.screen_index.proofs.block.Block.next_noted.Goals as goal
use Rattle.screen_index.proofs.block.Block.next_noted.Goals.{then-has_column+else-is_met_by, else-has_column}

pub returns-then-columns-eq0 : goal.returns-then-columns-eq0
returns-then-columns-eq0 g c =
    let columns = c.columns_of-columns.result in
    let rows = c.self.inside.rows in
    none-left rows c.args.want.now columns c.args.self.now (rank c.args.from.0 c.args.from.1) c.args.near
    (subst (AreNoted rows) c.self.view_is c.self.invariant.5)
    (subst (λ w. AreColumnsOf rows w columns) c.print.ensures c.columns_of-columns.ensures)
    c.requires.none c.if-columns-eq0.true

pub returns-then-is_met_by : goal.returns-then-is_met_by
returns-then-is_met_by g c =
    let r = rank c.args.from.0 c.args.from.1 in
    let now = c.args.self.now in
    let want = c.args.want.now in
    let place = c.loop-place.place in
    let x = c.index-entry.result.now in
    let len = ap (λ l. length l) c.self.view_is in
    let less : place < length now = omega (
      arith,
      c.self.inside.entries.ok.0,
      len,
      c.len-place-end.ensures,
      c.loop-place-test.true,
    ) in
    let is : x ≡ get_or now place x =
    c.index-entry.ensures ∙ ap (λ l. get_or l place x) c.self.view_is in
    let late : r ≤ rank_of (get_or now place x) =
    c.requires.behind place x (omega arith) less in
    let holds : Holds x.print want = c.is_met_by.ensures.0 c.if-is_met_by.true in
    first-is want r place now x c.requires.ascending less is c.loop-place.invariant (omega (arith, late, ap rank_of is), holds)

pub loop-place-preserved : goal.loop-place-preserved
loop-place-preserved g c = λ k d least less also.
    let now = c.args.self.now in
    let want = c.args.want.now in
    let place = c.loop-place.place in
    let items = c.self.inside.entries.items in
    let rows = c.self.inside.rows in
    let columns = c.columns_of-columns.result in
    let len = ap (λ l. length l) c.self.view_is in
    let within : place < length now = omega (
      arith,
      c.self.inside.entries.ok.0,
      len,
      c.len-place-end.ensures,
      c.loop-place-test.true,
    ) in
    elim (cases_lt k place) [
      | inl l ↦ c.loop-place.invariant k d least l also
      | inr ge ↦
          let here : k ≡ place = omega (arith, less, ge) in
          let holds : Holds (get_or now place d).print want =
          subst (λ n. Holds (get_or now n d).print want) here also.1 in
          elim c.if-has_column.branch [
            | then-has_column+else-is_met_by w ↦
                let x = w.index-entry.result.now in
                let is : x ≡ get_or now place d =
                w.index-entry.ensures
                ∙ (ap (λ l. get_or l place x) c.self.view_is ∙ get_or_default now place x d within) in
                true≢false (sym (w.is_met_by.ensures.1
                (subst (λ (y : Screened g.row.V.Denot). Holds y.print want) (sym is) holds)) ∙ w.if-is_met_by.false)
            | else-has_column w ↦
                let column : c.index.result.now ≡ column_of (get_or now place d) =
                c.index.ensures
                ∙ (ap (λ l. get_or l place c.index.result.now) c.self.invariant.4
                ∙ (column-at items place d c.index.result.now (omega (arith, within, len))
                ∙ ap (λ l. column_of (get_or l place d)) c.self.view_is)) in
                lacks-wanted rows want columns now place d (subst (AreNoted rows) c.self.view_is c.self.invariant.5)
                (subst (λ w. AreColumnsOf rows w columns) c.print.ensures c.columns_of-columns.ensures) within
                (λ has. true≢false (sym (c.has_column.ensures (omega (arith, column)) (ap (λ n. bit_at columns n) column ∙ has))
                ∙ w.if-has_column.false)) holds
          ]
    ]
