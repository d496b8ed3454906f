use Rattle.std.proofs.Common.{◌<◌, ◌≤◌, ◌≡◌, None, length, get_or, sym, ap, subst, arith}
use Rattle.std.proofs.lemmas.List.{length-map}
use Rattle.smarts_parse.specs.Pattern.{pattern_of, graph_of}
use Rattle.path_print.specs.declared.known.Known.{Known}
use Rattle.path_print.specs.Prints.{graph_view}
use Rattle.path_print.specs.Squares.{AreRows, IsSheet}
use Rattle.path_print.specs.Texts.{IsBitFrom, IsOn, SetsBits}
use Rattle.path_print.proofs.Sheets.{zeros, simple_within, simple_wider, label_from_known, graph_label_within}
use Rattle.path_print.proofs.Ways.{IsBitBelow, start_on, below_more, below_all}
use Rattle.path_print.proofs.pattern.need.Goals as goal

pub fill-requires-clause-pattern : goal.fill-requires-clause-pattern
fill-requires-clause-pattern c =
    let p = pattern_of c.args.pattern.now in
    let few : length p.top.atoms ≤ 256 = let all = c.requires.few_atoms in omega arith in
    simple_wider (length p.top.atoms) 256 p.top.bonds few (simple_within p.top (length p.recs) c.requires.top)

pub fill-requires-clause-zero : goal.fill-requires-clause-zero
fill-requires-clause-zero c = zeros 65536

pub walk-requires-clause-sheet : goal.walk-requires-clause-sheet
walk-requires-clause-sheet c =
    let p = pattern_of c.args.pattern.now in
    let few : length p.top.atoms ≤ 256 = let all = c.requires.few_atoms in omega arith in
    let size : c.len.result ≡ length p.top.atoms = rw length-map (omega arith) in
    record {
      few = few;
      ends = simple_within p.top (length p.recs) c.requires.top;
      room = c.known_atoms-known.ensures.size;
      side = c.fill.ensures.size;
      atoms = c.known_atoms-known.ensures.known;
      bonds = c.fill.ensures.square;
      rows_room = c.fill_rows.ensures.room;
      counts_room = c.fill_rows.ensures.counts_room;
      neighbours = subst (λ n. AreRows n c.fill.new.square c.fill_rows.new.rows c.fill_rows.new.counts) size
          c.fill_rows.ensures.rows;
    }

pub walk-requires-clause-path : goal.walk-requires-clause-path
walk-requires-clause-path c =
    let g = graph_of c.args.pattern.now.top in
    let d : Known = record { number = None; aromatic = None } in
    let within : c.loop-atom.atom < length g.atoms = rw length-map (omega arith) in
    let p = pattern_of c.args.pattern.now in
    let few : length p.top.atoms ≤ 256 = let all = c.requires.few_atoms in omega arith in
    let size : c.len.result ≡ length p.top.atoms = rw length-map (omega arith) in
    let sheet : IsSheet g c.known_atoms-known.result c.fill.new.square c.fill_rows.new.rows
    c.fill_rows.new.counts = record {
      few = few;
      ends = simple_within p.top (length p.recs) c.requires.top;
      room = c.known_atoms-known.ensures.size;
      side = c.fill.ensures.size;
      atoms = c.known_atoms-known.ensures.known;
      bonds = c.fill.ensures.square;
      rows_room = c.fill_rows.ensures.room;
      counts_room = c.fill_rows.ensures.counts_room;
      neighbours = subst (λ n. AreRows n c.fill.new.square c.fill_rows.new.rows c.fill_rows.new.counts) size
          c.fill_rows.ensures.rows;
    } in
    subst (IsOn (graph_view g)) (sym c.start-path.ensures)
    (start_on (graph_view g) c.loop-atom.atom (get_or c.known_atoms-known.result c.loop-atom.atom d)
    (λ family. label_from_known g c.known_atoms-known.result c.fill.new.square c.fill_rows.new.rows
    c.fill_rows.new.counts sheet family c.loop-atom.atom
    c.loop-atom.atom within within d))

pub loop-atom-preserved : goal.loop-atom-preserved
loop-atom-preserved c =
    let views = graph_view (graph_of c.args.pattern.now.top) in
    below_more views c.loop-atom.atom c.empty-print.result c.loop-atom.print c.walk.new.print c.loop-atom.invariant
    (subst (λ xs. SetsBits (IsBitFrom views xs) c.loop-atom.print c.walk.new.print)
    (ap (λ p. p.atoms) c.start-path.ensures) c.walk.ensures)

pub returns : goal.returns
returns c =
    let g = graph_of c.args.pattern.now.top in
    let views = graph_view g in
    let whole : c.loop-atom.atom ≡ length g.atoms = rw length-map (omega arith) in
    below_all views (length g.atoms) c.empty-print.result c.loop-atom.print
    (graph_label_within g) c.empty-print.ensures.length c.empty-print.ensures.none
    (subst (λ n. SetsBits (IsBitBelow views n) c.empty-print.result c.loop-atom.print) whole c.loop-atom.invariant)
