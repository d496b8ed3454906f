use Rattle.std.proofs.Common.{◌≡◌, ◌%◌, ◌∙◌, ap, arith, refl}
use Rattle.std.specs.Int.{bit_at}
use Rattle.std.proofs.lemmas.Nat.Bits.{shr_and_one}
use Rattle.screen_index.proofs.rows.has_column.Goals as goal

pub returns : goal.returns
returns c = λ few h.
    let same : c.args.column % 64 ≡ c.args.column = omega (arith, few) in
    let one : bit_at c.args.columns (c.args.column % 64) ≡ 1 = ap (λ n. bit_at c.args.columns n) same ∙ h in
    rw (shr_and_one, one) refl
