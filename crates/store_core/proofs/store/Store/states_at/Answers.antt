use Rattle.std.proofs.Common.{subst, sym}
use Rattle.record_versions.specs.Readings.{IsAhead}
use Rattle.store_core.specs.States.{GoOn, StatesTerm}
use Rattle.store_core.specs.Stored.{StoreTerm}
use Rattle.store_core.proofs.store.Store.states_at.Goals as goal

pub returns-clause-states : goal.returns-clause-states
returns-clause-states c =
    subst (λ (s : StatesTerm). GoOn c.args.version c.args.from s) (sym c.begin.ensures) (
      c.readings.ensures.version,
      subst (λ (t : StoreTerm). IsAhead c.args.from t.kept.chains c.readings.result.ahead)
          c.self.view_is c.readings.ensures.ahead,
    )
