-- Each graph is asked by what it adds, and stays so.
use Rattle.std.proofs.Common.{◌<◌, arith, get_or, inl, inr, length, subst, sym, All}
use Rattle.std.proofs.lemmas.Bool.{cases_eq}
use Rattle.std.proofs.lemmas.List.{length-map}
use Rattle.std.proofs.lemmas.Option.{get_or_from_slice_get, slice_get-get_or}
use Rattle.smarts_parse.specs.Pattern.{GraphTerm, graph_of, pattern_of}
use Rattle.matcher.specs.Wanted.{IsAsked}
use Rattle.matcher.proofs.Asked.{all_asked_more}
use Rattle.matcher.proofs.PartsHeld.{searchable_part, searchable_top, sound_parts}
use Rattle.matcher.proofs.Places.{get_map}
use Rattle.matcher.proofs.wanted.want_all.Goals as goal

pub want_graph-requires-clause-names : goal.want_graph-requires-clause-names
want_graph-requires-clause-names c = (searchable_top (pattern_of c.args.pattern.now) c.requires.sound).names

pub want_graph-requires-in-loop-graph-clause-names : goal.want_graph-requires-in-loop-graph-clause-names
want_graph-requires-in-loop-graph-clause-names c =
    let p = pattern_of c.args.pattern.now in
    (searchable_part p.recs c.loop-graph.graph-index (graph_of c.graph-item.result) (sound_parts p c.requires.sound)
    (get_map graph_of c.args.pattern.now.recs.items c.loop-graph.graph-index c.graph-item.result
    (rw c.deref-graph-items.ensures.value at c.loop-graph-test.true)
    (rw c.deref-graph-items.ensures.value at c.graph-item.is))).names

pub loop-graph-preserved : goal.loop-graph-preserved
loop-graph-preserved c =
    let p = pattern_of c.args.pattern.now in
    let items = c.args.pattern.now.recs.items in
    let i = c.loop-graph.graph-index in
    let g = graph_of c.graph-item.result in
    let old = c.loop-graph.wanted in
    let new = c.want_graph-in-loop-graph.new.wanted in
    let more = c.want_graph-in-loop-graph.ensures.more in
    let within = rw c.deref-graph-items.ensures.value at c.loop-graph-test.true in
    let get = get_map graph_of items i c.graph-item.result within
    (rw c.deref-graph-items.ensures.value at c.graph-item.is) in
    record {
      top = all_asked_more old new p.top.atoms (searchable_top p c.requires.sound).names more
          c.loop-graph.invariant.top;
      parts = λ k d l. elim (cases_eq k i) [
        | inl at ↦ subst (λ j. All (IsAsked new) (get_or p.recs j d).atoms) (sym at)
            (subst (λ (h : GraphTerm). All (IsAsked new) h.atoms) (sym (get_or_from_slice_get p.recs i g d get))
            c.want_graph-in-loop-graph.ensures.asked)
        | inr apart ↦
            let few : k < length p.recs = omega (arith, within, length-map items graph_of) in
            all_asked_more old new (get_or p.recs k d).atoms
            (searchable_part p.recs k (get_or p.recs k d) (sound_parts p c.requires.sound)
            (slice_get-get_or p.recs k d few)).names more (c.loop-graph.invariant.parts k d (omega arith))
      ];
    }
