use Rattle.std.proofs.Common.{◌∙◌, ap, option_map, sym}
use Rattle.store_disk.specs.Items.{left}
use Rattle.store_disk.specs.OnDisk.{StoreTerm}
use Rattle.store_disk.proofs.store.Store.go_on.Goals as goal

pub go_on-requires-clause-left : goal.go_on-requires-clause-left
go_on-requires-clause-left g c =
    ap (λ (t : StoreTerm g.row.D.Denot). option_map left t.copy) c.self.view_is ∙ c.requires.left

pub returns-clause-call : goal.returns-clause-call
returns-clause-call g c = rw (sym c.self.view_is) c.go_on.ensures.call
