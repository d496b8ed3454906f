use Rattle.store_disk.proofs.OnDisks.{begins, ends, meanwhile, next-base, next-commit}
use Rattle.store_disk.proofs.laws.copies_go_on.Goals as goal

pub returns-clause-begins : goal.returns-clause-begins
returns-clause-begins c = begins

pub returns-clause-ends : goal.returns-clause-ends
returns-clause-ends c = ends

pub returns-clause-meanwhile : goal.returns-clause-meanwhile
returns-clause-meanwhile c = meanwhile

pub returns-clause-next_base : goal.returns-clause-next_base
returns-clause-next_base c = next-base

pub returns-clause-next_commit : goal.returns-clause-next_commit
returns-clause-next_commit c = next-commit
