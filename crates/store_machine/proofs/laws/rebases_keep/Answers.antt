use Rattle.store_machine.proofs.Rebases.{bases-read-back, later-rebases-stand, rebases-grow, rebases-keep-allowed, rebases-keep-heads, rebases-keep-snapshots, rebases-stay}
use Rattle.store_machine.proofs.laws.rebases_keep.Goals as goal

pub returns-clause-snapshots : goal.returns-clause-snapshots
returns-clause-snapshots c = rebases-keep-snapshots

pub returns-clause-heads : goal.returns-clause-heads
returns-clause-heads c = rebases-keep-heads

pub returns-clause-allowed : goal.returns-clause-allowed
returns-clause-allowed c = rebases-keep-allowed

pub returns-clause-grown : goal.returns-clause-grown
returns-clause-grown c = rebases-grow

pub returns-clause-twice : goal.returns-clause-twice
returns-clause-twice c = later-rebases-stand

pub returns-clause-read : goal.returns-clause-read
returns-clause-read c = bases-read-back

pub returns-clause-stays : goal.returns-clause-stays
returns-clause-stays c = rebases-stay
