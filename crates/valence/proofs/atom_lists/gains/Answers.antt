use Rattle.std.proofs.Common.{ℕ, Bool, false, ◌≤◌, List, cond, count_by, get_or, refl, arith, ap, ◌∙◌}
use Rattle.std.proofs.lemmas.List.{length-set}
use Rattle.chem_core.specs.declared.sketch.SketchBond.{SketchBond}
use Rattle.chem_core.specs.Sketch.{ends_at}
use Rattle.valence.specs.Suppressed.{brings}
use Rattle.valence.proofs.Sums.{zeros, tally-first-fits, tally-second-fits, tally-more, brings-at, brought-le}
use Rattle.valence.proofs.atom_lists.gains.Goals as goal
use mir.Val.{bool_byte}

abbrev gone : List Bool → ℕ → Bool
gone goes k = get_or goes k false

abbrev one : List Bool → ℕ → SketchBond → ℕ
one goes a b = cond (brings (gone goes) a b) 1 0

few : (goes : List Bool) (bonds : List SketchBond) → ((a : ℕ) → count_by (ends_at a) bonds ≤ 12) → (a : ℕ)
    → count_by (brings (gone goes) a) bonds ≤ 12
few goes bonds h a = omega (arith, brought-le (gone goes) a bonds, h a)

pub loop-bond-init : goal.loop-bond-init
loop-bond-init c = record { long = refl; each = zeros 999 }

pub overflow_add-gains : goal.overflow_add-gains
overflow_add-gains c =
    let within = c.loop-bond-test.true in
    let m = c.from.ensures ∙ ap (λ k. bool_byte (get_or c.args.goes.now k false)) c.from-b.ensures in
    tally-first-fits (one c.args.goes.now) c.loop-bond.gains c.args.bonds.now c.loop-bond.bond-index c.from.result _ _
    c.from-a.result c.from-a.ensures within (brings-at (gone c.args.goes.now) _ _ c.from.result _
    (c.requires.distinct _ _ within) m refl) c.loop-bond.invariant.each (few c.args.goes.now c.args.bonds.now
    c.requires.few)

pub overflow_add-gains-in-loop-bond : goal.overflow_add-gains-in-loop-bond
overflow_add-gains-in-loop-bond c =
    let within = c.loop-bond-test.true in
    let m = c.from.ensures ∙ ap (λ k. bool_byte (get_or c.args.goes.now k false)) c.from-b.ensures in
    let n = c.from-in-loop-bond.ensures ∙ ap (λ k. bool_byte (get_or c.args.goes.now k false)) c.from-a.ensures in
    tally-second-fits (one c.args.goes.now) c.loop-bond.gains c.args.bonds.now c.loop-bond.bond-index c.from.result
    c.from-in-loop-bond.result _ c.from-a.result c.from-b.result c.from-a.ensures c.from-b.ensures within
    (c.requires.distinct _ _ within) (brings-at (gone c.args.goes.now) _ _ c.from.result c.from-in-loop-bond.result
    (c.requires.distinct _ _ within) m n) c.loop-bond.invariant.each (few c.args.goes.now c.args.bonds.now
    c.requires.few)

pub loop-bond-preserved : goal.loop-bond-preserved
loop-bond-preserved c =
    let within = c.loop-bond-test.true in
    let long = c.loop-bond.invariant.long in
    let range = c.requires.in_range _ _ within in
    let m = c.from.ensures ∙ ap (λ k. bool_byte (get_or c.args.goes.now k false)) c.from-b.ensures in
    let n = c.from-in-loop-bond.ensures ∙ ap (λ k. bool_byte (get_or c.args.goes.now k false)) c.from-a.ensures in
    record {
      long = rw (length-set, length-set) long;
      each =
          rw (c.from-a.ensures, c.from-b.ensures)
          (tally-more (one c.args.goes.now) c.loop-bond.gains c.args.bonds.now c.loop-bond.bond-index c.from.result
          c.from-in-loop-bond.result _ within (rw long range.0) (rw long range.1) (c.requires.distinct _ _ within)
          (brings-at (gone c.args.goes.now) _ _ c.from.result c.from-in-loop-bond.result
          (c.requires.distinct _ _ within) m n) c.loop-bond.invariant.each);
    }
