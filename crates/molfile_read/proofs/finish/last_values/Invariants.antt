use Rattle.std.proofs.Common.{◌≡◌, ℕ, ◌<◌, length, get_or, drop, None}
use Rattle.molfile_read.specs.Properties.{last_or, last_set, charge_of, radical_of, isotope_of}
use Rattle.molfile_read.proofs.LastSet.{set_all}
use Rattle.molfile_read.proofs.finish.last_values.Given as goal

-- what is set so far, and the settings that are left
abbrev pub invariant-loop-setting : goal.invariant-loop-setting
invariant-loop-setting l = record {
  charge_room : length l.charges ≡ 999;
  radical_room : length l.radicals ≡ 999;
  isotope_room : length l.isotopes ≡ 999;
  charges : (a : ℕ) → a < 999 → last_or (get_or l.charges a None)
      (set_all charge_of a (drop l.setting-index l.settings)) ≡ last_set charge_of a l.settings;
  radicals : (a : ℕ) → a < 999 → last_or (get_or l.radicals a None)
      (set_all radical_of a (drop l.setting-index l.settings)) ≡ last_set radical_of a l.settings;
  isotopes : (a : ℕ) → a < 999 → last_or (get_or l.isotopes a None)
      (set_all isotope_of a (drop l.setting-index l.settings)) ≡ last_set isotope_of a l.settings;
}
