use Rattle.std.proofs.Common.{◌<◌, ◌≤◌, ◌≡◌, Some, length, refl, ap, ◌∙◌, arith}
use Rattle.std.specs.Prelude.{slice_get, option_map}
use Rattle.std.proofs.lemmas.List.{length-set, length-map}
use Rattle.std.proofs.lemmas.Option.{slice_get-map, slice_get_read}
use Rattle.smarts_parse.specs.Pattern.{term_of, graph_of}
use Rattle.path_print.proofs.Sheets.{known_more}
use Rattle.path_print.proofs.pattern.known_atoms.Goals as goal

pub loop-place-preserved : goal.loop-place-preserved
loop-place-preserved c =
    let g = graph_of c.args.graph.now in
    let items = c.args.graph.now.atoms.items in
    let expr = c.expr-item.result in
    let few : length items ≤ 256 = rw length-map at c.requires in
    let same = c.deref-expr-items.ensures.value in
    let lt : c.loop-place.place < length items = rw same at c.loop-place-test.true in
    let size = c.loop-place.invariant.size in
    let within : c.loop-place.place < length c.loop-place.known = omega arith in
    let here : slice_get items c.loop-place.place ≡ Some expr = rw same at
    (slice_get_read c.deref-expr-items.result.now (length c.deref-expr-items.result.now) c.loop-place.place expr
    refl c.loop-place-test.true c.expr-item.is) in
    record {
      size = length-set c.loop-place.known c.loop-place.place c.implied.result ∙ size;
      each = known_more g c.loop-place.known c.loop-place.place c.implied.result (term_of expr) within
          (slice_get-map term_of items c.loop-place.place ∙ ap (option_map term_of) here) c.implied.ensures
          c.loop-place.invariant.each;
    }
