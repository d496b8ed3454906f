use Rattle.std.proofs.Common.{◌++◌, [], ◌∷◌, Err, inl, inr, Option}
use Rattle.std.proofs.lemmas.List.Elements.{All-nil}
use Rattle.std.proofs.lemmas.Result.{IfOk-weaker}
use Rattle.commit_log.specs.Change.{change_of}
use Rattle.commit_log.specs.Log.{IsLogged}
use Rattle.commit_log.specs.declared.change.Commit.{Commit}
use Rattle.journal_core.proofs.LookLaws.{looks_none}
use Rattle.store_core.specs.declared.store.Store.{Store as Memory}
use Rattle.store_disk.proofs.Reading.{log-damaged, looks-more, read-to, reading-more, reading-none}
use Rattle.store_disk.proofs.Replayed.{taken-all}
use Rattle.store_disk.proofs.Results.{on-damaged, same-fault}
use Rattle.store_disk.proofs.together.replay_by.Goals as goal

pub loop-commit-init : goal.loop-commit-init
loop-commit-init g c = record {
  waiting = rw c.of-batches.ensures.none (All-nil (λ (c : Commit). IsLogged (change_of c.wire)));
  taken = (
    [],
    reading-none g.D.Disk.model c.args.journal.now c.requires.settled
        (looks_none g.D.Disk.model c.args.journal.now.disk (g.met.D.Disk.only_now c.args.journal.now.disk)),
    taken-all _ _ c.args.version c.args.base.now [] _ c.of-batches.ensures.none
        (rw c.of-batches.ensures.rebuild
        (c.in_ok-rebuild.ensures c.args.base.now c.based_by-made.ensures.ok c.based_by-made.ensures.damaged)),
  );
}

pub loop-commit-preserved : goal.loop-commit-preserved
loop-commit-preserved g c =
    let commit = c.in-Ok-Some.commit in
    let was = c.loop-commit.invariant.taken in
    let found = rw c.in-Ok-Some.field-0-is at c.in-Ok-Some.ensures.commit in
    let reads = rw c.in-Ok-Some.field-0-is at c.in-Ok-Some.ensures.reads in
    record {
      waiting = c.in_ok-add-in-Ok-Some.ensures.waiting;
      taken = (
        was.0 ++ commit ∷ [],
        reading-more g.D.Disk.model c.args.journal.now g.met.D.Disk.parts c.loop-commit.journal
            c.next_commit.new.journal was.0 was.1 commit found reads c.in-Ok-Some.ensures.settled
            c.in-Ok-Some.ensures.header c.in-Ok-Some.ensures.looks,
        c.in_ok-add-in-Ok-Some.ensures.taken c.args.version c.args.base.now was.0 was.2,
      );
    }

pub returns-in_err-add-in-Ok-Some-clause-looks : goal.returns-in_err-add-in-Ok-Some-clause-looks
returns-in_err-add-in-Ok-Some-clause-looks g c =
    let was = c.loop-commit.invariant.taken in
    looks-more g.D.Disk.model c.args.journal.now g.met.D.Disk.parts c.loop-commit.journal c.next_commit.new.journal
    was.0 was.1 c.in-Ok-Some.ensures.looks

pub returns-in-Ok-None-clause-ok : goal.returns-in-Ok-None-clause-ok
returns-in-Ok-None-clause-ok g c =
    let was = c.loop-commit.invariant.taken in
    let end = rw c.in-Ok-None.field-0-is at c.in-Ok-None.ensures.end in
    IfOk-weaker c.end.result _ _
    (λ memory made. (
      was.0,
      read-to g.D.Disk.model c.args.journal.now g.met.D.Disk.parts c.loop-commit.journal c.next_commit.new.journal
          was.0 was.1 g.met.D.Disk.content_is_image end.1 end.2 c.in-Ok-None.ensures.looks,
      made c.args.version c.args.base.now was.0 was.2,
    ))
    c.end.ensures.ok

pub returns-in-Ok-None-clause-damaged : goal.returns-in-Ok-None-clause-damaged
returns-in-Ok-None-clause-damaged g c =
    let was = c.loop-commit.invariant.taken in
    let end = rw c.in-Ok-None.field-0-is at c.in-Ok-None.ensures.end in
    on-damaged c.end.result
    (λ at stopped. inr (
      was.0,
      read-to g.D.Disk.model c.args.journal.now g.met.D.Disk.parts c.loop-commit.journal c.next_commit.new.journal
          was.0 was.1 g.met.D.Disk.content_is_image end.1 end.2 c.in-Ok-None.ensures.looks,
      stopped c.args.version c.args.base.now was.0 was.2,
    ))
    c.end.ensures.damaged

pub returns-in-Ok-None-clause-looks : goal.returns-in-Ok-None-clause-looks
returns-in-Ok-None-clause-looks g c =
    let was = c.loop-commit.invariant.taken in
    looks-more g.D.Disk.model c.args.journal.now g.met.D.Disk.parts c.loop-commit.journal c.next_commit.new.journal
    was.0 was.1 c.in-Ok-None.ensures.looks

pub returns-in-Err-clause-damaged : goal.returns-in-Err-clause-damaged
returns-in-Err-clause-damaged g c =
    let was = c.loop-commit.invariant.taken in
    same-fault (Option Commit) Memory _ c.in-Err.fault
    (on-damaged {T = Option Commit} (Err c.in-Err.fault) (λ at found. inl (log-damaged g.D.Disk.model
    c.args.journal.now g.met.D.Disk.parts c.loop-commit.journal c.next_commit.new.journal was.0 was.1 at found))
    c.in-Err.ensures.damaged)

pub returns-in-Err-clause-looks : goal.returns-in-Err-clause-looks
returns-in-Err-clause-looks g c =
    let was = c.loop-commit.invariant.taken in
    looks-more g.D.Disk.model c.args.journal.now g.met.D.Disk.parts c.loop-commit.journal c.next_commit.new.journal
    was.0 was.1 c.in-Err.ensures.looks
