use Rattle.std.proofs.Common.{◌≡◌, ◌<◌, ℕ, zero, suc, List, [], ◌∷◌, ◌++◌, length, get_or, take, drop, sym, ◌∙◌, ap, arith, length-take, take-append-drop}
use Rattle.std.proofs.lemmas.Nat.{le_bytes_4}
use Rattle.std.specs.Int.{to_le_bytes, from_le_bytes, w32}
use Rattle.commit_log.proofs.reading.number_at.Goals as goal

take_fits : (n : ℕ) (l : List ℕ) → ((i : ℕ) → get_or l i 0 < 256) → (i : ℕ) → get_or (take n l) i 0 < 256
take_fits zero l fits i = omega arith
take_fits (suc n) [] fits i = omega arith
take_fits (suc n) (b ∷ l) fits zero = fits 0
take_fits (suc n) (b ∷ l) fits (suc i) = take_fits n l (λ j. fits (suc j)) i

pub returns-clause-some : goal.returns-clause-some
returns-clause-some c =
    let bytes = c.args.bytes.now in
    let id = c.from_le_bytes.result in
    let field = c.in_ok-field.field.now in
    let taken : field ≡ take 4 bytes = c.in_ok-field.ensures.cases.0 in
    let behind : c.in_ok-field.rest.now ≡ drop 4 bytes = c.in_ok-field.ensures.cases.1 in
    let size : length (take 4 bytes) ≡ 4 = omega (
      arith,
      length-take 4 bytes,
      c.in_ok-field.ensures.cases.2,
      ap length behind,
    ) in
    let number : to_le_bytes w32 id ≡ take 4 bytes =
    le_bytes_4 (take 4 bytes) id size (take_fits 4 bytes (λ i. omega (arith, c.type_inv.bytes i)))
    (c.from_le_bytes.ensures ∙ ap (λ (t : List ℕ). from_le_bytes w32 t) taken) in (
      omega arith,
      sym (take-append-drop 4 bytes) ∙ ap (λ (t : List ℕ). t ++ drop 4 bytes) (sym number)
          ∙ ap (λ (t : List ℕ). to_le_bytes w32 id ++ t) (sym behind),
    )
