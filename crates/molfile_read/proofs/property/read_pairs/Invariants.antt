use Rattle.std.proofs.Common.{◌≡◌, ◌-◌, ◌++◌}
use Rattle.std.specs.Option.{option_map}
use Rattle.std.specs.List.{AllByRecursion}
use Rattle.molfile_read.specs.Properties.{words, pairs_in, counted_pairs}
use Rattle.molfile_read.specs.Parts.{IsSetting}
use Rattle.molfile_read.proofs.property.read_pairs.Given as goal

abbrev pub invariant-loop : goal.invariant-loop
invariant-loop l = record {
  read : option_map (λ xs. l.settings.items ++ xs) (pairs_in l.tag l.atoms (l.count - l.counter) (words l.rest))
      ≡ option_map (λ xs. l.fn.settings.items ++ xs) (counted_pairs l.tag l.atoms (words l.text));
  range : AllByRecursion (IsSetting l.atoms) l.settings.items;
}
