use Rattle.std.proofs.Common.{◌≡◌, ◌+◌, ◌++◌, replicate, length}
use Rattle.smarts_words.proofs.number.run_at.Given as goal

abbrev pub invariant-loop-rest : goal.invariant-loop-rest
invariant-loop-rest l = record {
  so_far : l.bytes ≡ replicate l.count l.sign ++ l.rest;
  left : l.count + length l.rest
      ≡ length l.bytes;
}

abbrev pub decreases-loop-rest : goal.decreases-loop-rest
decreases-loop-rest l = length l.rest
