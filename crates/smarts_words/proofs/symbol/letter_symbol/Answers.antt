use Rattle.std.proofs.Common.{◌∷◌, [], ap, ◌∙◌}
use Rattle.std.proofs.lemmas.Option.{get_or_from_slice_get}
use Rattle.chem_core.specs.Element.{symbols}
use Rattle.smarts_words.specs.Prims.{lower, element}
use Rattle.smarts_words.proofs.Letters.{one_from, none_single}
use Rattle.smarts_words.proofs.symbol.letter_symbol.Goals as goal
use Rattle.smarts_words.specs.declared.word.AtomWord.TheVariants as words
use Rattle.std.proofs.Common.{true}

pub returns-in-Some : goal.returns-in-Some
returns-in-Some c =
    let f = c.in-Some.ensures in
    record {
      prim = lower f.0;
      is = tt;
      bare = tt;
      spelled = f.2;
      value = c.symbol.ensures
          ∙ ap (λ n. words.Symbol n true) f.3;
    }

pub returns-in_ok-number_of-in-None : goal.returns-in_ok-number_of-in-None
returns-in_ok-number_of-in-None c =
    let n = c.in_ok-number_of-in-None.field-0 in
    let e = c.in_ok-number_of-in-None.ensures.some in
    record {
      prim = element n;
      is = (one_from n c.args.byte e c.requires.other.0 c.requires.other.1, c.in_ok-number_of-in-None.ensures.range);
      bare = tt;
      spelled = get_or_from_slice_get symbols n (c.args.byte ∷ []) [] e;
      value = c.symbol-in-None.ensures;
    }

pub returns-in_err-number_of-in-None : goal.returns-in_err-number_of-in-None
returns-in_err-number_of-in-None c =
    let o = c.requires.other in
    rw c.from_residual.ensures (none_single c.args.byte o.0 o.2 o.3 c.in-None.ensures
    c.in_err-number_of-in-None.ensures.none)
