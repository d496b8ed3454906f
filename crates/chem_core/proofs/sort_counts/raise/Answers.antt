use Rattle.std.proofs.Common.{◌≡◌, ◌∙◌, cond, ℕ, arith}
use Rattle.chem_core.proofs.Sorts.{byte-is}
use Rattle.chem_core.proofs.sort_counts.raise.Goals as goal

pub returns : goal.returns
returns c =
    let byte : c.from-byte.result ≡ cond {A = ℕ} c.args.more 1 0 = c.from-byte.ensures ∙ byte-is c.args.more in
    omega (arith, byte, c.saturating_add.ensures)
