-- How many ends a call has, by its words.
use Rattle.std.proofs.Common.{◌≡◌, ◌∙◌, refl, ℕ, List, [], ◌∷◌, length, map, sym, ap, subst, arith}
use Rattle.clap.specs.Words.{Text}
use Rattle.chem_shell.specs.Done.{HasEnds}
use Rattle.chem_shell.specs.declared.request.Plan.{Plan}
use Rattle.chem_shell.specs.declared.request.Verb.{Verb}
use Rattle.chem_shell.specs.declared.request.Verb.TheVariants.{Init}
use Rattle.chem_shell.specs.Words.{Asks, AsksFor}
use Rattle.chem_shell.proofs.Asked.{ends_of_plan, one_plan}

-- as many ends as a plan of the words says
abbrev pub AsManyAsAsked : {A : Type 0} → List A → List Text → Type 0
AsManyAsAsked ends words = Asks words → (plan : Plan) × AsksFor words plan × (length ends ≡ plan.ends)

as_many : {A : Type 0} (ends : List A) (words : List Text) (plan : Plan) → AsksFor words plan
    → AsManyAsAsked ends words → length ends ≡ plan.ends
as_many ends words plan asks many =
    let given = many (plan, asks) in
    given.2 ∙ (one_plan words given.0 plan given.1 asks).ends

-- as many as its command has
pub fits : {A : Type 0} (ends : List A) (words : List Text) (plan : Plan) → AsksFor words plan
    → AsManyAsAsked ends words → HasEnds plan.command (length ends)
fits ends words plan asks many =
    subst (λ (n : ℕ). HasEnds plan.command n) (sym (as_many ends words plan asks many)) (ends_of_plan words plan asks)

-- `init` has none
pub no_ends : {A : Type 0} (ends : List A) (words : List Text) (plan : Plan) → AsksFor words plan → plan.command ≡ Init
    → AsManyAsAsked ends words → length ends ≡ 0
no_ends ends words plan asks makes many =
    subst (λ (v : Verb). HasEnds v (length ends)) makes (fits ends words plan asks many)

pub none_of_length : {A : Type 0} (ends : List A) → length ends ≡ 0 → ends ≡ []
none_of_length [] none = refl
none_of_length (x ∷ xs) none = absurd (omega (arith, none))

pub none_mapped : {A B : Type 0} (f : A → B) (xs : List A) (ys : List B) → length xs ≡ 0 → ys ≡ map f xs → ys ≡ []
none_mapped f xs ys none is = is ∙ ap (map f) (none_of_length xs none)
