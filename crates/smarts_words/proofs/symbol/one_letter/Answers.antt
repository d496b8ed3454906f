use Rattle.std.proofs.Common.{◌∷◌, [], sym, ap, refl}
use Rattle.smarts_words.specs.Prims.{any, aromatic, aliphatic}
use Rattle.smarts_words.proofs.Letters.{none_hydrogen}
use Rattle.smarts_words.proofs.symbol.one_letter.Goals as goal

pub returns-in-42 : goal.returns-in-42
returns-in-42 c = record { prim = any; is = tt; bare = tt; spelled = ap (λ v. v ∷ []) (sym c.in-42.is); value = refl }

pub returns-in-97 : goal.returns-in-97
returns-in-97 c = record {
  prim = aromatic;
  is = tt;
  bare = tt;
  spelled = ap (λ v. v ∷ []) (sym c.in-97.is);
  value =
      refl;
}

pub returns-in-65 : goal.returns-in-65
returns-in-65 c = record {
  prim = aliphatic;
  is = tt;
  bare = tt;
  spelled = ap (λ v. v ∷ []) (sym c.in-65.is);
  value =
      refl;
}

pub returns-in-72 : goal.returns-in-72
returns-in-72 c x is bare e = none_hydrogen x is bare c.args.byte e c.in-72.is
