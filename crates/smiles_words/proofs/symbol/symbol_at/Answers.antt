use Rattle.std.proofs.Common.{◌≡◌, ◌++◌, true, false, sym, ◌∙◌, ap}
use Rattle.smiles_words.specs.Atom.{element, lower, symbol_text, IsSymbol}
use Rattle.smiles_words.proofs.Symbols.{element_not_lower}
use Rattle.smiles_words.proofs.symbol.symbol_at.Goals as goal

pub returns-in-Some : goal.returns-in-Some
returns-in-Some c =
    let f = c.in-Some.ensures.found in
    record {
      found = (lower f.0, tt, f.2, ap (λ n. (n, true)) f.3);
      only = λ s rest is after h. elim s as (λ v. IsSymbol v → c.args.bytes.now ≡ symbol_text v ++ rest
          → c.in-Some.rest.now ≡ rest) [
            | element n ↦ λ i e. absurd (element_not_lower n f.0 c.in-Some.rest.now rest i (sym e ∙ f.2))
            | lower l ↦ λ i e. c.in-Some.ensures.only l rest tt after e
          ] is h;
    }

pub returns-in_ok-number-in-None : goal.returns-in_ok-number-in-None
returns-in_ok-number-in-None c =
    let f = c.in_ok-number-in-None.ensures.found in
    record {
      found = (element f.0, f.1, f.2, ap (λ n. (n, false)) f.3);
      only = λ s rest is after h. elim s as (λ v. IsSymbol v → c.args.bytes.now ≡ symbol_text v ++ rest
          → c.in_ok-number-in-None.rest.now ≡ rest) [
            | element n ↦ λ i e. c.in_ok-number-in-None.ensures.only n rest i after e
            | lower l ↦ λ i e. absurd (c.in-None.ensures.only l rest tt after e)
          ] is h;
    }
