use Rattle.record_versions.specs.Entries.{chain_of}
use Rattle.store_core.proofs.Candidates.{found-is}
use Rattle.store_core.proofs.kept.latest_by.Goals as goal

pub returns : goal.returns
returns g c = found-is c.args.version (chain_of c.args.chains.now c.args.id) c.at.result c.at.ensures.latest
