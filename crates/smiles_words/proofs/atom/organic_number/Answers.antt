use Rattle.std.proofs.Common.{[], ◌∷◌, sym, ap, refl}
use Rattle.chem_core.specs.Organic.{boron, carbon, nitrogen, oxygen, phosphorus, sulfur, fluorine, iodine}
use Rattle.smiles_words.proofs.atom.organic_number.Goals as goal

pub returns-in-67 : goal.returns-in-67
returns-in-67 c = (carbon, ap (λ b. b ∷ []) (sym c.in-67.is), refl)

pub returns-in-78 : goal.returns-in-78
returns-in-78 c = (nitrogen, ap (λ b. b ∷ []) (sym c.in-78.is), refl)

pub returns-in-79 : goal.returns-in-79
returns-in-79 c = (oxygen, ap (λ b. b ∷ []) (sym c.in-79.is), refl)

pub returns-in-83 : goal.returns-in-83
returns-in-83 c = (sulfur, ap (λ b. b ∷ []) (sym c.in-83.is), refl)

pub returns-in-70 : goal.returns-in-70
returns-in-70 c = (fluorine, ap (λ b. b ∷ []) (sym c.in-70.is), refl)

pub returns-in-80 : goal.returns-in-80
returns-in-80 c = (phosphorus, ap (λ b. b ∷ []) (sym c.in-80.is), refl)

pub returns-in-73 : goal.returns-in-73
returns-in-73 c = (iodine, ap (λ b. b ∷ []) (sym c.in-73.is), refl)

pub returns-in-66 : goal.returns-in-66
returns-in-66 c = (boron, ap (λ b. b ∷ []) (sym c.in-66.is), refl)
