use Rattle.std.proofs.Common.{◌≡◌, ℕ, List, Option, None, Some, ◌∷◌, ◌++◌, ◌∙◌, ap, arith}
use Rattle.std.specs.Option.{IfSome}
use Rattle.std.specs.List.{AllByRecursion}
use Rattle.std.proofs.Common.{length, ◌≤◌}
use Rattle.smiles_words.specs.Atom.{IsDigit, class_text, IsClass}
use Rattle.smiles_words.proofs.Fronts.{front_is}
use Rattle.smarts_words.proofs.bracket.after_class.Goals as goal

class_found : {T : Type 0} (now : T → List ℕ) (o : Option T) (bytes r : List ℕ) → bytes ≡ 58 ∷ r
    → IfSome o (λ x. (ds : List ℕ) × (1 ≤ length ds) × AllByRecursion IsDigit ds × (r ≡ ds ++ now x))
    → IfSome o (λ x. (k : Option (List ℕ)) × IsClass k × (bytes ≡ class_text k ++ now x))
class_found now None bytes r e h = tt
class_found now (Some x) bytes r e h = (Some h.0, (h.1, h.2), e ∙ ap (λ (v : List ℕ). 58 ∷ v) h.3)

pub returns-in-58-clause-found : goal.returns-in-58-clause-found
returns-in-58-clause-found c = class_found (λ v. v.now) c.after_digits.result c.args.bytes.now _
    (front_is c.args.bytes.now 58 c.in-58.len_at_least (omega arith)) c.after_digits.ensures.found
