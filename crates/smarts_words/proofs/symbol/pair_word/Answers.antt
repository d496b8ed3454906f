use Rattle.std.proofs.Common.{◌≡◌, [], ◌∷◌, inl, inr, sym, ap, ◌∙◌}
use Rattle.std.proofs.lemmas.Option.{get_or_from_slice_get}
use Rattle.chem_core.specs.Element.{symbols}
use Rattle.smiles_words.specs.Atom.{lower_se, lower_as}
use Rattle.smarts_words.specs.Prims.{lower, element}
use Rattle.smarts_words.proofs.Letters.{two_from}
use Rattle.smarts_words.proofs.symbol.pair_word.Goals as goal

pub returns-in-115-eq101 : goal.returns-in-115-eq101
returns-in-115-eq101 c =
    let e : 115 ∷ 101 ∷ [] ≡ c.args.first ∷ c.args.second ∷ [] = ap (λ v. v ∷ 101 ∷ []) (sym c.in-115-eq101.is-0)
    ∙ ap (λ v. c.args.first ∷ v ∷ []) (sym c.in-115-eq101.is-1) in
    record {
      prim = lower lower_se;
      is = tt;
      bare = tt;
      spelled = e;
      symbol = inr (lower_se, e);
      value =
          c.symbol.ensures;
    }

pub returns-in-97-eq115 : goal.returns-in-97-eq115
returns-in-97-eq115 c =
    let e : 97 ∷ 115 ∷ [] ≡ c.args.first ∷ c.args.second ∷ [] = ap (λ v. v ∷ 115 ∷ []) (sym c.in-97-eq115.is-0)
    ∙ ap (λ v. c.args.first ∷ v ∷ []) (sym c.in-97-eq115.is-1) in
    record {
      prim = lower lower_as;
      is = tt;
      bare = tt;
      spelled = e;
      symbol = inr (lower_as, e);
      value =
          c.symbol-in-97-eq115.ensures;
    }

pub returns-in_ok-pair_element-in_default : goal.returns-in_ok-pair_element-in_default
returns-in_ok-pair_element-in_default c =
    let f = c.in_ok-pair_element-in_default.ensures in
    let n = c.in_ok-pair_element-in_default.field-0 in
    record {
      prim = element n;
      is = (two_from n c.args.first c.args.second f.1, f.0);
      bare = tt;
      spelled = get_or_from_slice_get symbols n (c.args.first ∷ c.args.second ∷ []) [] f.1;
      symbol = inl (n, f.1);
      value = c.symbol-in_default.ensures;
    }
