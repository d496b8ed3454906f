use Rattle.std.proofs.Common.{ℕ, List, ◌∷◌, ◌++◌, sym, ◌∙◌, ap, append_assoc}
use Rattle.smiles_words.specs.Atom.{class_bytes}
use Rattle.smarts_words.specs.Prims.{numbered}
use Rattle.smarts_words.proofs.stereo.after_turn.Goals as goal

pub returns-in-Some-after_digits : goal.returns-in-Some-after_digits
returns-in-Some-after_digits c =
    let k = c.in-Some.ensures in
    let d = c.in-Some-after_digits.ensures.found in
    let rest = c.in-Some-after_digits.rest.now in (
      numbered k.0 d.0,
      d.1,
      ap (λ (v : List ℕ). 64 ∷ v) (k.1 ∙ ap (λ v. class_bytes k.0 ++ v) d.2
          ∙ sym (append_assoc (class_bytes k.0) d.0 rest)),
      d.3,
    )
