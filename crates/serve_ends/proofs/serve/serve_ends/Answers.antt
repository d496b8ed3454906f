-- What was split off, served and joined is one part of the history.
use Rattle.std.proofs.Common.{◌≡◌, ◌<◌, ◌∙◌, ap, arith, get_or, length, map, subst, sym, ℕ}
use Rattle.std.proofs.lemmas.List.{length-map, with_items_is}
use Rattle.hall.specs.Passes.{known}
use Rattle.serve_ends.specs.Slots.{CanServe, Joins, WasServed, splits}
use Rattle.serve_ends.proofs.Serving.{Steps, can-again, can-first, runs-of, serving, whole-of}
use Rattle.serve_ends.proofs.serve.serve_ends.Goals as goal

pub serve_all-requires-clause-can : goal.serve_all-requires-clause-can
serve_all-requires-clause-can g c _ _ =
    let cuts = c.cut_all-slots.result in
    subst (λ l. (k : ℕ) (d : _) → k < length l → CanServe c.args.hall.now (get_or l k d))
    (sym c.as_mut_slice.ensures.value)
    (can-first g.S.Source g.K.Sink c.args.settings.now c.args.hall.now c.args.pass.now cuts.items
    (λ i d less. c.cut_all-slots.ensures.cut i d (omega (arith, less, cuts.ok.0))))

pub join_all-requires-clause-can : goal.join_all-requires-clause-can
join_all-requires-clause-can g c =
    let cuts = c.cut_all-slots.result in
    let slots = c.serve_all.new.slots in
    let value = c.as_mut_slice.ensures.value in
    let kept : length slots ≡ length cuts.items = c.serve_all.auto.slots ∙ ap length value in
    can-again g.S.Source g.K.Sink c.args.settings.now c.args.hall.now c.args.pass.now cuts.items slots _ kept
    (λ i d less. subst (λ l. WasServed g.S.Source g.K.Sink c.args.settings.now c.args.hall.now (get_or l i d)
    (get_or slots i d)) value (c.serve_all.ensures i d (omega (arith, less, ap length value))))
    (with_items_is cuts slots (omega (arith, c.serve_all.auto.slots, c.as_mut_slice.ensures.len)))

pub returns : goal.returns
returns g c =
    let cuts = c.cut_all-slots.result in
    let slots = c.serve_all.new.slots in
    let value = c.as_mut_slice.ensures.value in
    let all = with_items_is cuts slots (omega (arith, c.serve_all.auto.slots, c.as_mut_slice.ensures.len)) in
    let many : length c.args.ends.items ≡ length cuts.items =
    ap length (sym c.cut_all-slots.ensures.ends) ∙ length-map cuts.items (λ s. s.served) in
    let steps : Steps g.S.Source g.K.Sink c.args.settings.now c.args.hall.now c.args.pass.now cuts.items slots
    c.cut_all-slots.new.pass c.join_all.new.pass = record {
      root_is = c.requires.whole;
      runs = c.requires.runs;
      some = omega (arith, c.requires.some, many);
      gave = subst (λ n. known c.cut_all-slots.new.pass ≡ splits n (known c.args.pass.now)) (c.args.ends.ok.0 ∙ many)
          c.cut_all-slots.ensures.gave;
      count = c.serve_all.auto.slots ∙ ap length value;
      cut = λ i d less. c.cut_all-slots.ensures.cut i d (omega (arith, less, cuts.ok.0));
      was = λ i d less. subst (λ l. WasServed g.S.Source g.K.Sink c.args.settings.now c.args.hall.now (get_or l i d)
          (get_or slots i d)) value (c.serve_all.ensures i d (omega (arith, less, ap length value)));
      joins = subst (λ l. Joins c.args.hall.now l c.cut_all-slots.new.pass c.join_all.new.pass) all
          c.join_all.ensures.joins;
    } in
    record {
      served = serving _ _ _ _ c.args.pass.now c.args.ends.items c.join_all.result.items _ _ _ _ steps c.requires.of
          c.join_all.ensures.of c.cut_all-slots.ensures.ends
          (c.join_all.ensures.ends ∙ ap (map (λ s. s.served)) all);
      memory = tt;
      of = c.join_all.ensures.of;
      whole = whole-of _ _ _ _ _ _ _ _ _ steps;
      runs = runs-of _ _ _ _ _ _ _ _ _ steps;
    }
