use Rattle.std.proofs.Common.{◌≡◌, ◌+◌, ◌*◌, ◌/◌, ◌%◌, ◌∙◌, arith, get_or, subst, w64}
use Rattle.std.specs.Int.{bit_at, trailing_zeros}
use Rattle.std.proofs.lemmas.Nat.Bits.{bit_at_and}
use Rattle.screen_index.proofs.Words.{lowest-in, rest-less, rest-only, to-word}
use Rattle.screen_index.proofs.rows.narrow.Goals as goal

pub loop-rest-smaller : goal.loop-rest-smaller
loop-rest-smaller c = rest-less c.loop-rest.rest (omega arith) (omega arith)

pub loop-rest-preserved : goal.loop-rest-preserved
loop-rest-preserved c =
    let rest = c.loop-rest.rest in
    let rows = c.args.rows.now in
    let t = trailing_zeros w64 rest in
    let row = 64 * c.args.place + t in
    let low = lowest-in rest (omega arith) (omega arith) in record {
      only = λ bit few one. c.loop-rest.invariant.only bit few (rest-only rest bit one);
      kept = λ column few there noted.
          let at = 64 * row + column in
          let word : at / 64 ≡ row = omega (arith, few) in
          let col : at % 64 ≡ column = omega (arith, few) in
          let first : bit_at c.loop-rest.left column ≡ 1 = c.loop-rest.invariant.kept column few there noted in
          let here = to-word rows at (noted t low.0 (c.loop-rest.invariant.only t low.0 low.1)) in
          let both : bit_at (get_or rows row 0) column ≡ 1 =
          subst (λ m. bit_at (get_or rows row 0) m ≡ 1) col (subst (λ n. bit_at (get_or rows n 0) (at % 64) ≡ 1) word here)
          in
          bit_at_and c.loop-rest.left (get_or rows row 0) column ∙ omega (arith, first, both);
    }
