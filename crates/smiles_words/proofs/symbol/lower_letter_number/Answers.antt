use Rattle.std.proofs.Common.{[], ◌∷◌, sym, ap, refl}
use Rattle.smiles_words.specs.Atom.{lower_b, lower_c, lower_n, lower_o, lower_p, lower_s}
use Rattle.smiles_words.proofs.symbol.lower_letter_number.Goals as goal

pub returns-in-98 : goal.returns-in-98
returns-in-98 c = (lower_b, tt, ap (λ b. b ∷ []) (sym c.in-98.is), refl)

pub returns-in-99 : goal.returns-in-99
returns-in-99 c = (lower_c, tt, ap (λ b. b ∷ []) (sym c.in-99.is), refl)

pub returns-in-110 : goal.returns-in-110
returns-in-110 c = (lower_n, tt, ap (λ b. b ∷ []) (sym c.in-110.is), refl)

pub returns-in-111 : goal.returns-in-111
returns-in-111 c = (lower_o, tt, ap (λ b. b ∷ []) (sym c.in-111.is), refl)

pub returns-in-112 : goal.returns-in-112
returns-in-112 c = (lower_p, tt, ap (λ b. b ∷ []) (sym c.in-112.is), refl)

pub returns-in-115 : goal.returns-in-115
returns-in-115 c = (lower_s, tt, ap (λ b. b ∷ []) (sym c.in-115.is), refl)
