use Rattle.std.proofs.Common.{◌≡◌, ℕ, List, Option, [], ◌∷◌, ◌++◌, map, false, ◌∙◌, ap}
use Rattle.std.specs.Option.{option_to_list, option_map}
use Rattle.smarts_words.specs.declared.word.Step.{Step}
use Rattle.smarts_words.specs.declared.word.Step.TheVariants as steps
use Rattle.smarts_words.specs.declared.word.AtomWord.{AtomWord}
use Rattle.smarts_words.specs.declared.word.AtomWord.TheVariants as words
use Rattle.smarts_words.specs.Expression.{joined}
use Rattle.smarts_words.specs.State.{one_operand, lows_ended}
use Rattle.smarts_words.specs.Bracket.{AtomValue, inside_value, hydro}
use Rattle.smarts_words.proofs.Hydrogens.{hydro_steps}
use Rattle.smarts_words.proofs.bracket.hydro_atom.Goals as goal

value_of : (v w : AtomValue) (ss ts : List (Step AtomWord)) (ps : List (List ℕ)) → v ≡ record { steps = ss; parts = ps }
    → ss ≡ ts → ps ≡ [] → v ≡ record { steps = ts; parts = [] }
value_of v w ss ts ps e f g = cc

pub returns : goal.returns
returns c h read =
    let F : AtomWord → Option AtomWord → Option AtomWord → List (Step AtomWord) = λ s m k.
    joined steps.And (lows_ended [] [] (((one_operand 0 s ∷ []) ++ map (λ w. one_operand 0 w) (option_to_list m))
    ++ map (λ w. one_operand 0 w) (option_to_list k))) in
    let one = c.in_ok-operand.ensures [] [] [] c.no_steps-postfix.ensures in
    let two = c.in_ok-some_operand.ensures [] [] _ one in
    let three = c.in_ok-some_operand-2.ensures [] [] _ two in
    let fin : c.in_ok-finish.field-0.items ≡ F c.symbol.result c.mass_word.result c.charge_word.result =
    c.in_ok-finish.ensures [] [] _ three in
    let steps_are = fin ∙ ap (λ v. F v c.mass_word.result c.charge_word.result) c.symbol.ensures
    ∙ ap (λ v. F (words.Symbol 1 false) v c.charge_word.result) c.mass_word.ensures
    ∙ ap (λ v. F (words.Symbol 1 false) (option_map (λ n. words.Mass n) c.args.found.mass) v) c.charge_word.ensures
    ∙ hydro_steps h c.args.found.mass c.args.found.charge read in
    value_of c.new-2.result (inside_value (hydro h)) c.in_ok-finish.field-0.items _ _ c.new-2.ensures steps_are
    (ap (λ vs. map (λ v. v.items) vs) c.new.ensures.items)
