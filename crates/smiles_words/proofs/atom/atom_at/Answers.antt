use Rattle.std.proofs.Common.{◌∙◌, inr, ℕ, List, ◌∷◌, ◌++◌, ◌≡◌, sym, arith}
use Rattle.smiles_words.specs.Atom.{Bracket, IsBracket, bracket_text, AtomText, star, organic, aromatic, bracket, atom_text, IsAtomText}
use Rattle.smiles_words.proofs.Unique.{heads, not_organic, not_small}
use Rattle.smiles_words.proofs.Fronts.{front_is}
use Rattle.smiles_words.proofs.Results.{reads_as}
use Rattle.smiles_words.proofs.atom.atom_at.Goals as goal

-- an atom that begins with `[`
in_brackets : (bytes after : List ℕ) → bytes ≡ 91 ∷ after → (y : AtomText) (rest : List ℕ) → IsAtomText y
    → bytes ≡ atom_text y ++ rest → (x : Bracket) × IsBracket x × (91 ∷ after ≡ bracket_text x ++ rest)
in_brackets bytes after e star rest is h = absurd (let k = heads 91 42 after rest (sym e ∙ h) in omega (arith, k))
in_brackets bytes after e (organic x) rest is h = absurd (not_organic 91 after rest x (inr (omega arith)) (sym e ∙ h))
in_brackets bytes after e (aromatic x) rest is h = absurd (not_small 91 after rest x (omega arith) (sym e ∙ h))
in_brackets bytes after e (bracket x) rest is h = (x, is, sym e ∙ h)

pub returns-in-91 : goal.returns-in-91
returns-in-91 c =
    let front = front_is c.args.bytes.now 91 (omega arith) (omega arith) in
    reads_as _ c.bracket_at.result c.bracket_at.ensures
    (λ x v rest is k e. (bracket x, is, front ∙ k, e))
    (λ y rest is may k. let p = in_brackets c.args.bytes.now _ front y rest is k in (p.0, p.1, tt, p.2))
