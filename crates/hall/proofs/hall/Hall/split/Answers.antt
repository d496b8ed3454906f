-- The new pass has seen no event of its own.
use Rattle.hall.proofs.Splitting.{gives-no-pin, holds-none}
use Rattle.hall.proofs.hall.Hall.split.Goals as goal

pub returns-clause-pins : goal.returns-clause-pins
returns-clause-pins g c = holds-none (record { pass = c.split.result }) c.split.ensures.fresh

pub returns-clause-kept : goal.returns-clause-kept
returns-clause-kept g c = gives-no-pin c.args.pass.now (record { pass = c.split.new.pass }) c.split.ensures.gives
