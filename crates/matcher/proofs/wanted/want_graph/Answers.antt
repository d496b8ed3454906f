-- Each expression is asked by what it adds, and stays so.
use Rattle.std.proofs.Common.{◌<◌, ◌∙◌, ap, arith, get_or, inl, inr, length, subst, sym}
use Rattle.std.proofs.lemmas.Bool.{cases_eq}
use Rattle.std.proofs.lemmas.List.{get_or-map, length-map}
use Rattle.smarts_parse.specs.Pattern.{graph_of, term_of}
use Rattle.smarts_parse.specs.Sound.{NamesBelow}
use Rattle.matcher.specs.Wanted.{IsAsked}
use Rattle.matcher.proofs.Asked.{asked_by, asked_more}
use Rattle.matcher.proofs.Joins.{All-image}
use Rattle.matcher.proofs.wanted.want_graph.Goals as goal

pub want-requires-clause-names : goal.want-requires-clause-names
want-requires-clause-names c = All-image (NamesBelow 64) term_of c.args.graph.now.atoms.items c.loop-expr.expr-index
    c.expr-item.result (rw c.deref-expr-items.ensures.value at c.loop-expr-test.true)
    (rw c.deref-expr-items.ensures.value at c.expr-item.is) c.requires.names

pub loop-expr-preserved : goal.loop-expr-preserved
loop-expr-preserved c =
    let items = c.args.graph.now.atoms.items in
    let es = (graph_of c.args.graph.now).atoms in
    let i = c.loop-expr.expr-index in
    let old = c.loop-expr.wanted in
    let new = c.want.new.wanted in
    let is = rw c.deref-expr-items.ensures.value at c.expr-item.is in
    let within = rw c.deref-expr-items.ensures.value at c.loop-expr-test.true in
    record {
      more = λ k w yes'. c.want.ensures.more k w (c.loop-expr.invariant.more k w yes');
      asked = λ k d l. elim (cases_eq k i) [
        | inl at ↦ subst (IsAsked new)
            (sym (ap (λ j. get_or es j d) at ∙ get_or-map term_of items i c.expr-item.result d within
            ∙ ap term_of (sym is)))
            (asked_by new c.classes_of.result (term_of c.expr-item.result)
            (All-image (NamesBelow 64) term_of items i c.expr-item.result within is c.requires.names)
            c.classes_of.ensures c.want.ensures.named)
        | inr apart ↦
            let few : k < length es = omega (arith, within, length-map items term_of) in
            asked_more old new (get_or es k d) (c.requires.names k d few) c.want.ensures.more
            (c.loop-expr.invariant.asked k d (omega arith))
      ];
    }
