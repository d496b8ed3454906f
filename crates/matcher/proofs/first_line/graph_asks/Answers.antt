use Rattle.std.proofs.Common.{◌≡◌, arith, length}
use Rattle.std.proofs.lemmas.List.{length-map}
use Rattle.smarts_parse.specs.Pattern.{graph_of, term_of}
use Rattle.matcher.proofs.first_line.graph_asks.Goals as goal

pub returns : goal.returns
returns c =
    let atoms = c.args.graph.now.atoms in
    let size : c.len.result ≡ length (graph_of c.args.graph.now).atoms =
    omega (arith, length-map atoms.items term_of, atoms.ok.0) in
    record {
      of_atoms = rw size at c.count_places-atoms.ensures;
      of_bonds = c.count_bonds-bonds.ensures;
    }
