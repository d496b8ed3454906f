use Rattle.store_rows.specs.Only.{HasOnly}
use Rattle.store_rows.proofs.tests.kept.register_methanes.Given as goal

abbrev pub invariant-loop-id : goal.invariant-loop-id
invariant-loop-id l = HasOnly l.store l.want l.only
