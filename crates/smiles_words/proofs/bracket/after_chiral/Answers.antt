use Rattle.std.proofs.Common.{◌∷◌, ◌++◌, sym, ◌∙◌, ap, arith}
use Rattle.smiles_words.specs.Atom.{numbered, class_bytes}
use Rattle.smiles_words.proofs.Pieces.{numbered_text, chiral_only, chiral_no_digit}
use Rattle.smiles_words.proofs.Fronts.{front_is}
use Rattle.smiles_words.proofs.Results.{reads_as}
use Rattle.smiles_words.proofs.bracket.after_chiral.Goals as goal

pub returns-in-Some : goal.returns-in-Some
returns-in-Some c =
    let bytes = c.args.bytes.now in
    let kind = c.in-Some.ensures.0 in
    let spelled = c.in-Some.ensures.1 in
    let most = c.in-Some.ensures.2 in
    let front = front_is bytes 64 (omega arith) (omega arith) in
    reads_as _ c.after_number.result c.after_number.ensures
    (λ n v rest is k e.
    let few = is.1 in (
      numbered kind n,
      (is.0, omega arith),
      front ∙ ap (λ w. 64 ∷ w) (spelled ∙ ap (λ w. class_bytes kind ++ w) k)
          ∙ sym (numbered_text kind n rest),
      e,
    ))
    (λ x rest is after h.
    let p = chiral_only x rest bytes c.in-Some.rest.now kind is after h (front ∙ ap (λ w. 64 ∷ w) spelled) in
    let few = p.2 in
    (p.0, (p.1, omega arith), chiral_no_digit rest after, p.3))
