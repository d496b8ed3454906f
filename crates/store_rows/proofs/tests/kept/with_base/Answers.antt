use Rattle.std.proofs.Common.{◌<◌, arith, [], ◌∷◌, Some, subst, sym, ℕ}
use Rattle.std.proofs.lemmas.List.Elements.{All-cons, All-nil}
use Rattle.store_machine.specs.declared.machine.Status.{Status}
use Rattle.store_core.specs.Based.{based}
use Rattle.store_core.specs.Kept.{status_in}
use Rattle.store_core.specs.Stored.{StandsFor}
use Rattle.store_rows.proofs.tests.kept.with_base.Goals as goal

pub put_base-requires-2-clause-before : goal.put_base-requires-2-clause-before
put_base-requires-2-clause-before c =
    let start = c.at_base-store in
    let first : ℕ × Status = (1, status_in 3 (Some c.in_ok-record.field-0)) in
    let empty = subst (λ n. StandsFor start.result (based n [])) (sym start.ensures.version) start.ensures.stands in
    let one = c.in_ok-put_base.ensures.given [] empty (All-nil _) in (
      first ∷ [],
      subst (λ n. StandsFor c.put_base.new.self (based n (first ∷ []))) (sym c.in_ok-put_base.ensures.version)
          one,
      All-cons (λ (e : ℕ × Status). e.0 < 7) first [] (omega arith) (All-nil _),
    )
