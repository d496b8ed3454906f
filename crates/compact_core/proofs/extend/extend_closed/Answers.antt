use Rattle.std.proofs.Common.{◌≡◌, ◌+◌, ◌-◌, ◌++◌, ◌∷◌, ◌∙◌, [], List, ℕ, arith, length, subst}
use Rattle.journal_core.specs.declared.format.TheConstants.{CLOSED}
use Rattle.compact_core.specs.Copies.{IsAt}
use Rattle.compact_core.proofs.Gathering.{written_end}
use Rattle.compact_core.proofs.Results.{ok_then}
use Rattle.compact_core.proofs.Wrote.{is_behind}
use Rattle.compact_core.proofs.extend.extend_closed.Goals as goal

pub returns-clause-moments : goal.returns-clause-moments
returns-clause-moments g c gate tail q at =
    c.extend-outcome.ensures.moments gate q.written q.stands (omega (arith, written_end q at, c.len.ensures))

pub returns-clause-closed : goal.returns-clause-closed
returns-clause-closed g c =
    let pending = c.args.pending.now.items in
    let start = c.args.place - c.len.result in
    let bytes : c.deref.result.now ≡ pending ++ CLOSED ∷ [] = c.deref.ensures.value ∙ c.in_ok-push.ensures.items in
    let place : start + length pending ≡ c.args.place = omega (arith, c.len.ensures, c.requires.within) in
    ok_then c.extend-outcome.result c.extend-outcome.ensures.wrote (λ wrote l told.
    subst (λ (n : ℕ). IsAt n (CLOSED ∷ []) l) place (is_behind start pending (CLOSED ∷ []) l
    (subst (λ (k : List ℕ). IsAt start k l) bytes (wrote l told))))
