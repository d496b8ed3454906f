use Rattle.std.proofs.Common.{inl, inr, refl, arith}
use Rattle.std.proofs.lemmas.Option.{slice_get-get_or}
use Rattle.std.specs.Prelude.{Some}
use Rattle.ring_find.proofs.Beside.{found_smallest}
use Rattle.chem_core.proofs.Steps.{step_within}
use Rattle.ring_find.proofs.search.known_length.Goals as goal

pub length_beside-requires : goal.length_beside-requires
length_beside-requires c =
    record {
      within = λ k d l.
          let w = step_within _ _ _ _ k d c.steps_from.ensures.valid c.steps_from.ensures.steps l in
          omega (arith, w.0, c.requires.kept.one_each);
    }

pub length_beside-requires-in-None : goal.length_beside-requires-in-None
length_beside-requires-in-None c =
    record {
      within = λ k d l.
          let w = step_within _ _ _ _ k d c.steps_from-in-None.ensures.valid c.steps_from-in-None.ensures.steps l in
          omega (arith, w.0, c.requires.kept.one_each);
    }

pub returns-in-Some : goal.returns-in-Some
returns-in-Some c =
    let at = slice_get-get_or c.args.graph.now.ends c.args.bond (0, 0) c.requires.bond in
    found_smallest c.args.graph.now.ends c.args.kept.now c.args.lengths.now c.args.bond _ _ _ c.requires.kept at
    (inl (rw (c.from.ensures, c.ends.ensures.value) refl)) c.steps_from.ensures.steps c.requires.before
    (Some c.in-Some.length) c.in-Some.ensures

pub returns-in-None : goal.returns-in-None
returns-in-None c =
    let at = slice_get-get_or c.args.graph.now.ends c.args.bond (0, 0) c.requires.bond in
    found_smallest c.args.graph.now.ends c.args.kept.now c.args.lengths.now c.args.bond _ _ _ c.requires.kept at
    (inr (rw (c.from.ensures, c.ends.ensures.value) refl)) c.steps_from-in-None.ensures.steps c.requires.before
    c.length_beside-in-None.result c.length_beside-in-None.ensures
