use Rattle.std.proofs.Common.{[], ◌∷◌, sym, ap, refl}
use Rattle.smiles_words.specs.Words.{minus, equals, hash, dollar, colon, slash, backslash}
use Rattle.smiles_words.proofs.bond.kind_of_byte.Goals as goal

pub returns-in-45 : goal.returns-in-45
returns-in-45 c = (minus, ap (λ b. b ∷ []) (sym c.in-45.is), refl)

pub returns-in-47 : goal.returns-in-47
returns-in-47 c = (slash, ap (λ b. b ∷ []) (sym c.in-47.is), refl)

pub returns-in-92 : goal.returns-in-92
returns-in-92 c = (backslash, ap (λ b. b ∷ []) (sym c.in-92.is), refl)

pub returns-in-61 : goal.returns-in-61
returns-in-61 c = (equals, ap (λ b. b ∷ []) (sym c.in-61.is), refl)

pub returns-in-35 : goal.returns-in-35
returns-in-35 c = (hash, ap (λ b. b ∷ []) (sym c.in-35.is), refl)

pub returns-in-36 : goal.returns-in-36
returns-in-36 c = (dollar, ap (λ b. b ∷ []) (sym c.in-36.is), refl)

pub returns-in-58 : goal.returns-in-58
returns-in-58 c = (colon, ap (λ b. b ∷ []) (sym c.in-58.is), refl)
