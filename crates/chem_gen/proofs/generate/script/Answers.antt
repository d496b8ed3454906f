use Rattle.std.proofs.Common.{ℕ, suc, ◌+◌, ◌++◌, sym, ap, ◌∙◌, arith}
use Rattle.chem_gen.specs.Script.{registrations, after_structure, searches}
use Rattle.chem_gen.proofs.Picks.{registration, registrations_more, registrations_none}
use Rattle.chem_gen.proofs.generate.script.Goals as goal

pub loop-place-preserved : goal.loop-place-preserved
loop-place-preserved c = λ n e.
    let x = c.loop-place.numbers.last in
    let id : ℕ = c.loop-place.place + 1 in
    ap (λ y. c.push_registration.new.out.items ++ registrations n (id + 1) y) c.in_ok-push_registration.ensures.numbers
    ∙ ap (λ out. out ++ registrations n (id + 1) (after_structure x)) (c.in_ok-push_registration.ensures.text
    ∙ ap (λ k. c.loop-place.out.items ++ registration (k + 1) x) c.from.ensures)
    ∙ registrations_more n id x c.loop-place.out.items
    ∙ c.loop-place.invariant (suc n) (omega arith)

pub returns : goal.returns
returns c =
    let x = c.loop-place.numbers.last in
    c.in_ok-push_searches.ensures
    ∙ ap (λ out. out ++ searches) (sym (registrations_none (c.loop-place.place + 1) x c.loop-place.out.items)
    ∙ c.loop-place.invariant 0 (omega arith))
