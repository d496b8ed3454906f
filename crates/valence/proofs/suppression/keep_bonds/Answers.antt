use Rattle.std.proofs.Common.{◌<◌, Bool, false, List, length, get_or, arith, rules}
use Rattle.std.proofs.lemmas.Fn.{filter_same}
use Rattle.std.proofs.lemmas.Grind.{common_steps}
use Rattle.std.proofs.lemmas.List.Elements.{All-filter}
use Rattle.chem_core.specs.declared.sketch.SketchBond.{SketchBond}
use Rattle.valence.specs.Suppressed.{stays}
use Rattle.valence.proofs.suppression.keep_bonds.Goals as goal

abbrev kept : List Bool → SketchBond → Bool
kept goes b = stays (λ k. get_or goes k false) b

pub renumber-requires : goal.renumber-requires
renumber-requires c =
    let filtered = filter_same _ (kept c.args.goes.now) _ (λ x b q k. search rules) _ _ c.retain.ensures.filtered in
    rw (c.deref_mut.ensures.value, filtered) (All-filter (kept c.args.goes.now) (λ b. (b.a < length c.args.places.now)
    × (b.b < length c.args.places.now)) c.args.bonds.now.items c.requires)

pub returns : goal.returns
returns c =
    let filtered = filter_same _ (kept c.args.goes.now) _ (λ x b q k. search rules) _ _ c.retain.ensures.filtered in
    grind (arith, common_steps)
