use Rattle.std.proofs.Common.{◌≡◌, ◌<◌, length, get_or, set, Some, refl, ap, subst, ◌∙◌, arith, rules, w8}
use Rattle.std.specs.Prelude.{ℤ, pos, neg_ℤ, ◌≤ℤ◌}
use mir.Val.{to_z, of_z}
use Rattle.std.proofs.Math.Facts.{to_z-of_z}
use Rattle.std.proofs.lemmas.Int.{ints}
use Rattle.molfile_read.specs.declared.setting.Value.TheVariants.{Charge}
use Rattle.molfile_read.specs.declared.setting.Setting.{Setting}
use Rattle.molfile_read.specs.Parts.{IsValue}
use Rattle.std.proofs.lemmas.List.{length-set}
use Rattle.molfile_read.specs.Properties.{charge_of, radical_of, isotope_of}
use Rattle.molfile_read.proofs.LastSet.{table_set, table_kept, table_new, setting_at}
use Rattle.molfile_read.proofs.finish.last_values.Goals as goal
use Rattle.molfile_read.proofs.finish.last_values.Goals.{in-Charge, in-Radical, in-Isotope}

abbrev other : Setting
other = record { atom = 0; value = Charge (pos 0) }

-- a charge is kept as it was written
kept : (n : ℤ) → (neg_ℤ (pos 15) ≤ℤ n) × (n ≤ℤ pos 15) → to_z w8 (of_z w8 n) ≡ n
kept n h =
    let low = h.0 in
    let high = h.1 in
    to_z-of_z {w = w8} {z = n} (first_of (omega (arith, ints), search rules, grind (arith, ints)))

pub loop-setting-init : goal.loop-setting-init
loop-setting-init c = record {
  charge_room = refl;
  radical_room = refl;
  isotope_room = refl;
  charges = λ a lt. table_new charge_of 999 a c.args.settings.now lt;
  radicals = λ a lt. table_new radical_of 999 a c.args.settings.now lt;
  isotopes = λ a lt. table_new isotope_of 999 a c.args.settings.now lt;
}

pub loop-setting-preserved : goal.loop-setting-preserved
loop-setting-preserved c =
    let i = c.loop-setting.setting-index in
    let settings = c.args.settings.now in
    let lt = c.loop-setting-test.true in
    let inv = c.loop-setting.invariant in
    let room = (setting_at 999 settings i other c.requires lt) in
    let place : (get_or settings i other).atom < 999 = room.0 in
    elim c.match-setting.branch [
      | in-Charge w ↦ record {
        charge_room = ap length w.charges-is ∙ length-set _ _ _ ∙ inv.charge_room;
        radical_room = ap length w.radicals-is ∙ inv.radical_room;
        isotope_room = ap length w.isotopes-is ∙ inv.isotope_room;
        charges = λ a h. table_set charge_of c.loop-setting.charges _ a i _ w.in-Charge.charge other settings _ lt
            c.from-place.ensures (omega arith) (ap charge_of w.in-Charge.is) (w.charges-is
            ∙ ap (λ v. set c.loop-setting.charges c.from-place.result (Some v))
            (kept w.in-Charge.charge (subst IsValue w.in-Charge.is room.1))) (inv.charges a h);
        radicals = λ a h. table_kept radical_of c.loop-setting.radicals _ a i other settings _ lt
            (ap radical_of w.in-Charge.is) w.radicals-is (inv.radicals a h);
        isotopes = λ a h. table_kept isotope_of c.loop-setting.isotopes _ a i other settings _ lt
            (ap isotope_of w.in-Charge.is) w.isotopes-is (inv.isotopes a h);
      }
      | in-Radical w ↦ record {
        charge_room = ap length w.charges-is ∙ inv.charge_room;
        radical_room = ap length w.radicals-is ∙ length-set _ _ _ ∙ inv.radical_room;
        isotope_room = ap length w.isotopes-is ∙ inv.isotope_room;
        charges = λ a h. table_kept charge_of c.loop-setting.charges _ a i other settings _ lt
            (ap charge_of w.in-Radical.is) w.charges-is (inv.charges a h);
        radicals = λ a h. table_set radical_of c.loop-setting.radicals _ a i _ w.in-Radical.electrons other settings _
            lt c.from-place.ensures (omega arith) (ap radical_of w.in-Radical.is) w.radicals-is (inv.radicals a h);
        isotopes = λ a h. table_kept isotope_of c.loop-setting.isotopes _ a i other settings _ lt
            (ap isotope_of w.in-Radical.is) w.isotopes-is (inv.isotopes a h);
      }
      | in-Isotope w ↦ record {
        charge_room = ap length w.charges-is ∙ inv.charge_room;
        radical_room = ap length w.radicals-is ∙ inv.radical_room;
        isotope_room = ap length w.isotopes-is ∙ length-set _ _ _ ∙ inv.isotope_room;
        charges = λ a h. table_kept charge_of c.loop-setting.charges _ a i other settings _ lt
            (ap charge_of w.in-Isotope.is) w.charges-is (inv.charges a h);
        radicals = λ a h. table_kept radical_of c.loop-setting.radicals _ a i other settings _ lt
            (ap radical_of w.in-Isotope.is) w.radicals-is (inv.radicals a h);
        isotopes = λ a h. table_set isotope_of c.loop-setting.isotopes _ a i _ w.in-Isotope.isotope other settings _ lt
            c.from-place.ensures (omega arith) (ap isotope_of w.in-Isotope.is) w.isotopes-is (inv.isotopes a h);
      }
    ]
