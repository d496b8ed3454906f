use Rattle.std.proofs.Common.{length, subst, sym}
use Rattle.std.specs.Prelude.{IfSome}
use Rattle.sd_read.proofs.Within.{Spans, data_within}
use Rattle.sd_read.proofs.items.item.Goals as goal

pub returns-clause-within : goal.returns-clause-within
returns-clause-within c = subst (λ r. IfSome r (Spans (length c.args.text.now))) (sym c.first_item.ensures)
    (data_within c.args.name.now c.args.text.now)
