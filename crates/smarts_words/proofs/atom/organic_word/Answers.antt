use Rattle.std.proofs.Common.{true, false, ◌∙◌, ap}
use Rattle.smarts_words.specs.declared.word.AtomWord.TheVariants as words
use Rattle.smarts_words.specs.Bracket.{organic, lower, single}
use Rattle.smarts_words.proofs.atom.organic_word.Goals as goal

pub returns-in-Some : goal.returns-in-Some
returns-in-Some c =
    let f = c.in-Some.ensures in
    record {
      atom = organic f.0;
      is = tt;
      bare = tt;
      spelled = f.1;
      value =
          ap single (c.symbol.ensures ∙ ap (λ n. words.Symbol n false) f.2);
    }

pub returns-in_ok-lower_letter_number-in-None : goal.returns-in_ok-lower_letter_number-in-None
returns-in_ok-lower_letter_number-in-None c =
    let f = c.in_ok-lower_letter_number-in-None.ensures in
    record {
      atom = lower f.0;
      is = f.1;
      bare = tt;
      spelled = f.2;
      value =
          ap single (c.symbol-in-None.ensures ∙ ap (λ n. words.Symbol n true) f.3);
    }
