use Rattle.std.proofs.Common.{[], ◌∷◌, sym, ap, refl, false}
use Rattle.smarts_words.specs.Bonds.{single, double, triple, quadruple, aromatic, any, ring, up, down}
use Rattle.smarts_words.proofs.bond.word_of.Goals as goal

pub returns-in-45 : goal.returns-in-45
returns-in-45 c = (single, ap (λ b. b ∷ []) (sym c.in-45.is), refl)

pub returns-in-61 : goal.returns-in-61
returns-in-61 c = (double, ap (λ b. b ∷ []) (sym c.in-61.is), refl)

pub returns-in-35 : goal.returns-in-35
returns-in-35 c = (triple, ap (λ b. b ∷ []) (sym c.in-35.is), refl)

pub returns-in-36 : goal.returns-in-36
returns-in-36 c = (quadruple, ap (λ b. b ∷ []) (sym c.in-36.is), refl)

pub returns-in-58 : goal.returns-in-58
returns-in-58 c = (aromatic, ap (λ b. b ∷ []) (sym c.in-58.is), refl)

pub returns-in-126 : goal.returns-in-126
returns-in-126 c = (any, ap (λ b. b ∷ []) (sym c.in-126.is), refl)

pub returns-in-64 : goal.returns-in-64
returns-in-64 c = (ring, ap (λ b. b ∷ []) (sym c.in-64.is), refl)

pub returns-in-47 : goal.returns-in-47
returns-in-47 c = ((up false), ap (λ b. b ∷ []) (sym c.in-47.is), refl)

pub returns-in-92 : goal.returns-in-92
returns-in-92 c = ((down false), ap (λ b. b ∷ []) (sym c.in-92.is), refl)
