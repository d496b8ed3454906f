use Rattle.std.proofs.Common.{◌++◌, [], ◌∷◌}
use Rattle.std.proofs.lemmas.List.Elements.{All-push}
use Rattle.commit_log.specs.Change.{change_of}
use Rattle.commit_log.specs.Log.{IsLogged}
use Rattle.commit_log.specs.declared.change.Commit.{Commit}
use Rattle.store_disk.proofs.Replayed.{taken-more}
use Rattle.store_disk.proofs.Results.{on-ok}
use Rattle.store_disk.proofs.together.Batches.add.Goals as goal

pub make_many-requires : goal.make_many-requires
make_many-requires g c = (
  c.type_bounds.sync-R,
  rw c.in_ok-push.ensures.items
      (All-push (λ (x : Commit). IsLogged (change_of x.wire)) c.args.self.now.waiting.items c.args.commit
      c.requires.waiting c.requires.logged),
)

pub returns-clause-taken : goal.returns-clause-taken
returns-clause-taken g c = on-ok c.make_many.result
    (λ made version base log t. made version base (log ++ c.args.commit ∷ []) (rw c.in_ok-push.ensures.items
    (taken-more c.args.self.now.rebuild.memory c.args.self.now.rebuild.stopped version base log
    c.args.self.now.waiting.items c.args.commit t)))
    c.make_many.ensures.taken
