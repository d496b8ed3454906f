-- No digit is first, in the words of SMILES and in those of SMARTS.
use Rattle.std.proofs.Common.{ℕ, List, [], ◌∷◌, inl, inr, arith}
use Rattle.smiles_words.specs.Follow.{NoDigitFirst}
use Rattle.smarts_words.specs.Prims.{NoDigit}

pub no_digit : (rest : List ℕ) → NoDigitFirst rest → NoDigit rest
no_digit [] h = tt
no_digit (b ∷ bs) h = λ d. let low = d.0 in let high = d.1 in elim h [ inl l ↦ omega arith | inr l ↦ omega arith ]
