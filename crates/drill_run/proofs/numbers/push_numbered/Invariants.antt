use Rattle.std.proofs.Common.{◌≡◌, ◌++◌, drop}
use Rattle.drill_run.specs.Numbers.{numbered, numbered_from}
use Rattle.drill_run.proofs.numbers.push_numbered.Given as goal

abbrev pub invariant-loop-byte : goal.invariant-loop-byte
invariant-loop-byte l =
    l.out.items ++ numbered_from l.number l.begins (drop l.byte-index l.text)
    ≡ l.fn.out.items ++ numbered l.number l.text
