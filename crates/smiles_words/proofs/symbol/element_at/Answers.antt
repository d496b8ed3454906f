use Rattle.std.proofs.Common.{◌≡◌, ℕ, List, [], ◌∷◌, ◌++◌, refl, sym, ◌∙◌, ap}
use Rattle.std.proofs.lemmas.Option.{get_or_from_slice_get}
use Rattle.chem_core.specs.Element.{symbols}
use Rattle.smiles_words.proofs.Symbols.{element_two, element_one}
use Rattle.smiles_words.proofs.Results.{reads_none}
use Rattle.smiles_words.proofs.symbol.element_at.Goals as goal

pub returns-in-Some : goal.returns-in-Some
returns-in-Some c =
    let f = c.in-Some.ensures.found in
    record {
      found = (
        c.in-Some.number,
        c.in-Some.ensures.range,
        f.3 ∙ ap (λ w. w ++ c.in-Some.rest.now)
            (sym (get_or_from_slice_get symbols c.in-Some.number (f.0 ∷ f.1 ∷ []) [] f.2)),
        refl,
      );
      only = λ n rest le after h. (element_two n c.in-Some.number f.0 f.1 c.in-Some.rest.now rest le
          c.in-Some.ensures.range f.2 (sym f.3 ∙ h) after).0;
    }

pub returns-in_err-number-in-None : goal.returns-in_err-number-in-None
returns-in_err-number-in-None c =
    reads_none _ c.from_residual.result c.from_residual.ensures (λ n rest le after h.
    let e = element_one n c.args.bytes.now rest le h c.in-None.ensures.none in
    c.in_err-number-in-None.ensures.none e.0 n rest e.2 e.1)

seconds : (x y : ℕ) (xs ys : List ℕ) → x ∷ xs ≡ y ∷ ys → ys ≡ xs
seconds x y xs ys h = cc

pub returns-in_ok-number-in-None : goal.returns-in_ok-number-in-None
returns-in_ok-number-in-None c =
    let f = c.in_ok-number-in-None.ensures.found in
    record {
      found = (
        c.in_ok-number-in-None.number,
        c.in_ok-number-in-None.ensures.range,
        f.2 ∙ ap (λ w. w ++ c.in_ok-number-in-None.rest.now)
            (sym (get_or_from_slice_get symbols c.in_ok-number-in-None.number (f.0 ∷ []) [] f.1)),
        refl,
      );
      only = λ n rest le after h.
          let e = element_one n c.args.bytes.now rest le h c.in-None.ensures.none in
          seconds e.0 f.0 rest c.in_ok-number-in-None.rest.now (sym e.2 ∙ f.2);
    }
