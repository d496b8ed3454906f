use Rattle.std.proofs.Common.{◌↔◌, Contains, subst, sym, ℕ}
use Rattle.record_versions.specs.Entries.{IsRead, chain_of}
use Rattle.store_core.specs.Kept.{Kept, KeptTerm}
use Rattle.store_core.proofs.Indexed.{IsPair}
use Rattle.store_core.proofs.kept.KeptEntries.prune.Goals as goal

pub invariant_of-self : goal.invariant_of-self
invariant_of-self c = (
  c.prune.ensures.indexed,
  subst IsPair (sym c.prune.ensures.reserved) c.self.invariant.1,
)

pub returns-clause-left : goal.returns-clause-left
returns-clause-left c =
    subst (λ (t : KeptTerm). (id : ℕ) (k : Kept) → Contains (chain_of c.prune.new.chains id) k
    ↔ (Contains (chain_of t.chains id) k × IsRead c.args.live.now (chain_of t.chains id) k)) c.self.view_is
    c.prune.ensures.left
