use Rattle.std.proofs.Common.{◌≡◌, ◌∙◌, subst, min, get_or, ℕ, ◌↔◌, IsTrue}
use Rattle.chem_core.specs.Graph.{JoinsAt}
use Rattle.chem_core.specs.Molecule.{ends_of}
use Rattle.smarts_parse.specs.Pattern.{bond_of, term_of}
use Rattle.smarts_parse.specs.Truth.{BondTrue}
use Rattle.matcher.proofs.Partials.{embeds_joined}
use Rattle.matcher.proofs.fit.bond_embeds.Goals as goal

pub returns : goal.returns
returns c =
    let m = c.args.mol.now in
    let bond = c.args.bond.now in
    let low : c.from.result ≡ min bond.a bond.b = c.from.ensures ∙ c.min.ensures in
    let both = embeds_joined m c.args.front.now c.args.atom (bond_of bond) c.requires.high c.requires.apart in
    let here = subst (λ k. IsTrue c.are_joined_by.result
    ↔ ((b : ℕ) × JoinsAt (ends_of m) b (get_or c.args.front.now k 0) c.args.atom
    × BondTrue (term_of bond.expr) m b)) low c.are_joined_by.ensures in
    (λ t. both.1 (here.0 t), λ w. here.1 (both.0 w))
