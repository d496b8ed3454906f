use Rattle.std.proofs.Common.{ℕ, ◌+◌, ◌≡◌, drop}
use Rattle.chem_gen.specs.Summary.{lines_of, endings_in}
use Rattle.chem_gen.proofs.summarize.after_lines.Given as goal

-- the endings after the lines that are still to be passed
abbrev pub invariant-loop : goal.invariant-loop
invariant-loop l = (n : ℕ) → n + l.counter ≡ l.count → endings_in (drop n (lines_of l.rest))
    ≡ endings_in (drop l.count (lines_of l.text))
