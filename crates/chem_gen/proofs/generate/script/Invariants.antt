use Rattle.std.proofs.Common.{ℕ, ◌+◌, ◌≡◌, ◌++◌}
use Rattle.chem_gen.specs.Script.{registrations}
use Rattle.chem_gen.proofs.generate.script.Given as goal

-- what is written, and the registrations that are left
abbrev pub invariant-loop-place : goal.invariant-loop-place
invariant-loop-place l = (n : ℕ) → n + l.place ≡ l.count
    → l.out.items ++ registrations n (l.place + 1) l.numbers.last ≡ registrations l.count 1 l.seed
