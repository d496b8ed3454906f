use Rattle.std.proofs.Common.{ℕ, ◌+◌, ◌*◌, ◌≡◌, inl, inr, Some, length, set, refl, sym, ap, ◌∙◌, arith}
use Rattle.std.specs.Prelude.{slice_get, option_map}
use Rattle.std.proofs.lemmas.List.{length-set}
use Rattle.std.proofs.lemmas.Option.{slice_get-map, slice_get_read}
use Rattle.smarts_parse.specs.Pattern.{bond_of, graph_of}
use Rattle.path_print.proofs.Sheets.{ends_small, square_more}
use Rattle.path_print.proofs.pattern.fill.Goals as goal
use Rattle.path_print.proofs.pattern.fill.Goals.{in-Some, in_default}

pub write-requires-clause-a : goal.write-requires-clause-a
write-requires-clause-a c =
    let items = c.args.graph.now.bonds.items in
    let bond = c.bond-item.result in
    let same = c.deref-bond-items.ensures.value in
    let here : slice_get items c.loop-bond.bond-index ≡ Some bond = rw same at
    (slice_get_read c.deref-bond-items.result.now (length c.deref-bond-items.result.now) c.loop-bond.bond-index bond
    refl c.loop-bond-test.true c.bond-item.is) in
    let at : slice_get (graph_of c.args.graph.now).bonds c.loop-bond.bond-index
    ≡ Some (bond_of bond) = slice_get-map bond_of items c.loop-bond.bond-index ∙ ap (option_map bond_of) here in
    let small = ends_small 256 (graph_of c.args.graph.now).bonds c.loop-bond.bond-index
    (bond_of c.bond-item.result) c.requires.pattern at in
    omega (arith, small.0, c.from.ensures)

pub write-requires-clause-b : goal.write-requires-clause-b
write-requires-clause-b c =
    let items = c.args.graph.now.bonds.items in
    let bond = c.bond-item.result in
    let same = c.deref-bond-items.ensures.value in
    let here : slice_get items c.loop-bond.bond-index ≡ Some bond = rw same at
    (slice_get_read c.deref-bond-items.result.now (length c.deref-bond-items.result.now) c.loop-bond.bond-index bond
    refl c.loop-bond-test.true c.bond-item.is) in
    let at : slice_get (graph_of c.args.graph.now).bonds c.loop-bond.bond-index
    ≡ Some (bond_of bond) = slice_get-map bond_of items c.loop-bond.bond-index ∙ ap (option_map bond_of) here in
    let small = ends_small 256 (graph_of c.args.graph.now).bonds c.loop-bond.bond-index
    (bond_of c.bond-item.result) c.requires.pattern at in
    omega (arith, small.1, c.from-in-Some.ensures)

pub loop-bond-preserved : goal.loop-bond-preserved
loop-bond-preserved c =
    let items = c.args.graph.now.bonds.items in
    let bond = c.bond-item.result in
    let same = c.deref-bond-items.ensures.value in
    let here : slice_get items c.loop-bond.bond-index ≡ Some bond = rw same at
    (slice_get_read c.deref-bond-items.result.now (length c.deref-bond-items.result.now) c.loop-bond.bond-index bond
    refl c.loop-bond-test.true c.bond-item.is) in
    let at : slice_get (graph_of c.args.graph.now).bonds c.loop-bond.bond-index
    ≡ Some (bond_of bond) = slice_get-map bond_of items c.loop-bond.bond-index ∙ ap (option_map bond_of) here in
    let old = c.loop-bond.square in
    let new = c.match-implied_byte.square in
    let size = c.loop-bond.invariant.size in
    elim c.match-implied_byte.branch [
      | in-Some w ↦
          let n : ℕ = w.in-Some.byte in
          let is : new ≡ set (set old (256 * bond.a + bond.b) n) (256 * bond.b + bond.a) n = rw
          (sym w.from.ensures, sym w.from-in-Some.ensures) (w.square-is ∙ w.write.ensures) in
          record {
            size = ap length is ∙ length-set (set old (256 * bond.a + bond.b) n) (256 * bond.b + bond.a) n
                ∙ length-set old (256 * bond.a + bond.b) n ∙ size;
            bonds = square_more (graph_of c.args.graph.now).bonds c.loop-bond.bond-index
                (bond_of bond) old new c.requires.pattern at c.loop-bond.invariant.bonds size
                (inr (n, sym c.implied_byte.ensures ∙ w.in-Some.is, is));
          }
      | in_default w ↦ record {
        size = ap length w.square-is ∙ size;
        bonds = square_more (graph_of c.args.graph.now).bonds c.loop-bond.bond-index
            (bond_of bond) old new c.requires.pattern at c.loop-bond.invariant.bonds size
            (inl (sym c.implied_byte.ensures ∙ w.in_default.is, w.square-is));
      }
    ]
