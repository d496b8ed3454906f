use Rattle.std.proofs.Common.{ℕ, ◌+◌, ◌≡◌, ◌++◌}
use Rattle.chem_gen.specs.Script.{picked, later}
use Rattle.chem_gen.proofs.generate.push_fragments.Given as goal

-- what is written, and what is still to be picked
abbrev pub invariant-loop : goal.invariant-loop
invariant-loop l = record {
  text : (n : ℕ) → n + l.counter ≡ l.count → l.out.items ++ picked n l.numbers.last ≡ l.fn.out.items
      ++ picked l.count l.fn.numbers.last;
  last : (n : ℕ) → n + l.counter ≡ l.count → later n l.numbers.last ≡ later l.count l.fn.numbers.last;
}
