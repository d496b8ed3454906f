use Rattle.std.proofs.Common.{◌≡◌, drop, filter}
use Rattle.std.specs.Prelude.{◌==◌, not}
use Rattle.std.specs.Str.{bytes_eq}
use Rattle.molfile_read.proofs.counts.is_spelled.Given as goal

abbrev pub invariant-loop-byte : goal.invariant-loop-byte
invariant-loop-byte l = bytes_eq (filter (λ byte. not (byte == 32)) (drop l.byte-index l.field)) l.left
    ≡ bytes_eq (filter (λ byte. not (byte == 32)) l.field) l.text
