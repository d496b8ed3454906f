use Rattle.std.proofs.Common.{length, map, slice_index}
use Rattle.store_machine.proofs.laws.needs_screen.Goals as goal

pub returns : goal.returns
returns c = λ pattern want needs m molecule matches bit has.
    let q = (needs.bits bit).0 has in
    let path = c.path_is_carried.ensures pattern.recs (length pattern.recs) q.0 pattern.top m matches.0 q.1.0 q.1.1
    q.1.2 molecule matches.1 q.1.3 in
    (q.0, (map (slice_index matches.0) q.1.0, q.1.1, q.1.2, path, q.1.4))
