use Rattle.std.proofs.Common.{◌≡◌, ◌↔◌, ◌+◌, ◌<◌, ◌≤◌, ℕ, inl, inr, bit_and, bit_or, get_or, sym, subst, arith}
use Rattle.std.proofs.lemmas.Bool.{cases_eq}
use Rattle.chem_core.proofs.Prints.{both-lack-none}
use Rattle.chem_core.proofs.print.lacked_by_four.Goals as goal

-- four words have no bit exactly where something holds of each of their places
four : (P : ℕ → Type 0) (place p q r s : ℕ) → p ≡ 0 ↔ P place → q ≡ 0 ↔ P (place + 1) → r ≡ 0 ↔ P (place + 2)
    → s ≡ 0 ↔ P (place + 3)
    → bit_or (bit_or (bit_or p q) r) s ≡ 0 ↔ ((k : ℕ) → place ≤ k → k < place + 4 → P k)
four P place p q r s first second third fourth =
    let two = both-lack-none p q first second in
    let three = both-lack-none (bit_or p q) r two third in
    let all = both-lack-none (bit_or (bit_or p q) r) s three fourth in (
      λ none k from to.
          let here = all.0 none in
          elim (cases_eq k place) [
            | inl is ↦ subst P (sym is) here.0.0.0
            | inr not1 ↦ elim (cases_eq k (place + 1)) [
              | inl is ↦ subst P (sym is) here.0.0.1
              | inr not2 ↦ elim (cases_eq k (place + 2)) [
                | inl is ↦ subst P (sym is) here.0.1
                | inr not3 ↦
                    let is : place + 3 ≡ k = omega arith in
                    subst P is here.1
              ]
            ]
          ],
      λ each. all.1 (
        ((each _ (omega arith) (omega arith), each _ (omega arith) (omega arith)), each _ (omega arith) (omega arith)),
        each _ (omega arith) (omega arith),
      ),
    )

pub returns : goal.returns
returns c =
    four (λ k. bit_and (get_or c.args.have.now k 0) (get_or c.args.want.now k 0) ≡ get_or c.args.want.now k 0)
    c.args.place _ _ _ _ c.lacked.ensures c.lacked-2.ensures c.lacked-3.ensures c.lacked-4.ensures
