use Rattle.std.proofs.Common.{◌≡◌, ℕ, false, cond, eqb, length, map, ap, ◌∙◌, arith, w8}
use Rattle.std.specs.Int.{bit_at}
use Rattle.std.proofs.lemmas.Simd.{bitmask_splat, bit_mask_l}
use Rattle.std.proofs.lemmas.List.{get_or-map}
use Rattle.chem_core.proofs.Codes.{one-if-equal}
use Rattle.chem_core.proofs.symbols.equal_to.Goals as goal

pub returns : goal.returns
returns c i low =
    let equals = λ (x : ℕ). eqb x c.args.byte in
    let long : length c.args.codes ≡ 64 = omega arith in
    one-if-equal _ _ _
    (ap (λ n. bit_at n i) (bitmask_splat w8 eqb c.args.codes 64 c.args.byte long (omega arith))
    ∙ bit_mask_l (map equals c.args.codes) i
    ∙ ap (λ b. cond b 1 0) (get_or-map equals c.args.codes i 0 false (omega arith)))
