use Rattle.std.proofs.Common.{sym, ◌∙◌}
use Rattle.disk_pair.proofs.Openings.{header_read}
use Rattle.disk_pair.proofs.opening.open_picked.Goals as goal

pub returns-in-Ok-clause-opening : goal.returns-in-Ok-clause-opening
returns-in-Ok-clause-opening g c =
    let said = c.in-Ok.ensures in
    record {
      range = said.range;
      start = said.start.0;
      left = said.start.1;
      unread = said.start.2;
      settled = said.start.3;
      reads = λ l told. let found = said.ok l (sym said.narrows.same ∙ told) in (
        found.0,
        found.1,
        found.2,
        header_read g.D.Disk.model c.in-Ok.journal found.0 found.1 said.range found.2 l told,
      );
    }
