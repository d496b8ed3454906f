use Rattle.std.proofs.Common.{Vec, ◌≡◌, ◌+◌, ℕ, List, [], ◌∷◌, ◌++◌, length, Option, sym, ◌∙◌, ap, subst, append_assoc}
use Rattle.std.specs.declared.alloc.Global.{Global}
use Rattle.journal_core.specs.Journal.{Reads}
use Rattle.journal_core.proofs.LookLaws.{looks_twice}
use Rattle.commit_log.specs.Change.{Change, change_of, written}
use Rattle.commit_log.specs.Log.{Takes, changes_of, payloads}
use Rattle.commit_log.specs.declared.change.Commit.{Commit}
use Rattle.commit_log.proofs.Answered.{on_damaged, on_err}
use Rattle.commit_log.proofs.Taken.{takes_more, changes_push, payloads_push}
use Rattle.commit_log.proofs.log.read_all.Goals as goal

pub loop-commit-preserved : goal.loop-commit-preserved
loop-commit-preserved g c =
    let d = g.D.Disk.model in
    let was = c.loop-commit.invariant in
    let commits = c.loop-commit.commits.items in
    let commit = c.in-Ok-Some.commit in
    let new = c.next_commit.new.journal in
    let items : c.push.new.self.items ≡ commits ++ commit ∷ [] = c.in_ok-push-in-Ok-Some.ensures.items in
    let found = rw c.in-Ok-Some.field-0-is at c.in-Ok-Some.ensures.commit in
    let reads = rw c.in-Ok-Some.field-0-is at c.in-Ok-Some.ensures.reads in
    let place : new.place ≡ c.loop-commit.journal.place + 5 + length (written (change_of commit.wire)) =
    found.2 ∙ ap (λ (n : ℕ). n + 5 + length (written (change_of commit.wire))) found.0 in
    let same : payloads (changes_of commits) ++ written (change_of commit.wire) ∷ []
    ≡ payloads (changes_of c.push.new.self.items) =
    sym (payloads_push (changes_of commits) (change_of commit.wire)) ∙ ap (λ (cs : List Change). payloads cs)
    (sym (changes_push commits commit))
    ∙ ap (λ (l : List Commit). payloads (changes_of l)) (sym items) in
    record {
      settled = c.in-Ok-Some.ensures.settled;
      header = (
        c.in-Ok-Some.ensures.header.0 ∙ was.header.0,
        c.in-Ok-Some.ensures.header.1 ∙ was.header.1,
      );
      takes = subst (λ (l : List Commit). Takes c.args.journal.now.place l new.place) (sym items)
          (subst (λ (n : ℕ). Takes c.args.journal.now.place (commits ++ commit ∷ []) n) (sym place)
          (takes_more c.args.journal.now.place c.loop-commit.journal.place commits commit was.takes found.0 found.1));
      reads = λ front before q. subst (λ (ps : List (List ℕ)). Reads d new front ps)
          (append_assoc before (payloads (changes_of commits)) (written (change_of commit.wire) ∷ [])
          ∙ ap (λ (ps : List (List ℕ)). before ++ ps) same)
          (reads front (before ++ payloads (changes_of commits)) (was.reads front before q));
      looks = looks_twice d g.met.D.Disk.parts
          c.args.journal.now.disk c.loop-commit.journal.disk new.disk was.looks c.in-Ok-Some.ensures.looks;
    }

pub returns-in_err-push-in-Ok-Some-clause-looks : goal.returns-in_err-push-in-Ok-Some-clause-looks
returns-in_err-push-in-Ok-Some-clause-looks g c =
    let d = g.D.Disk.model in
    looks_twice d g.met.D.Disk.parts
    c.args.journal.now.disk c.loop-commit.journal.disk c.next_commit.new.journal.disk c.loop-commit.invariant.looks
    c.in-Ok-Some.ensures.looks

pub returns-in-Err-clause-damaged : goal.returns-in-Err-clause-damaged
returns-in-Err-clause-damaged g c =
    let was = c.loop-commit.invariant in
    let changes = changes_of c.loop-commit.commits.items in
    on_damaged (Option Commit) (Vec Commit Global) c.in-Err.fault _ _ (λ at h front before q l told.
    let damage = h front (before ++ payloads changes) (was.reads front before q) in
    record {
      changes = changes;
      logged = was.takes.logged;
      place = damage.0;
      damage = damage.1 l (was.looks.narrows.same ∙ told);
    }) c.in-Err.ensures.damaged

pub returns-in-Ok-None-clause-log : goal.returns-in-Ok-None-clause-log
returns-in-Ok-None-clause-log g c front before q l told =
    let d = g.D.Disk.model in
    let was = c.loop-commit.invariant in
    let end = rw c.in-Ok-None.field-0-is at c.in-Ok-None.ensures.end in
    let rests = end.2 front (before ++ payloads (changes_of c.loop-commit.commits.items)) (was.reads front before q) in
    let new = c.next_commit.new.journal.disk in
    record {
      opens = rests.each l (g.met.D.Disk.content_is_image new l
          (c.in-Ok-None.ensures.looks.narrows.same ∙ was.looks.narrows.same ∙ told));
      logged = was.takes.logged;
    }

-- the journal stands behind the commits that were taken, and the one that found no room
pub returns-in_err-push-in-Ok-Some-clause-stands : goal.returns-in_err-push-in-Ok-Some-clause-stands
returns-in_err-push-in-Ok-Some-clause-stands g c =
    on_err c.from_residual.result _ (λ front before q.
    let taken = payloads (changes_of c.loop-commit.commits.items) in
    let commit = c.in-Ok-Some.commit in
    let reads = rw c.in-Ok-Some.field-0-is at c.in-Ok-Some.ensures.reads in (
      taken ++ written (change_of commit.wire) ∷ [],
      subst (λ (ps : List (List ℕ)). Reads g.D.Disk.model c.next_commit.new.journal front ps)
          (append_assoc before taken (written (change_of commit.wire) ∷ []))
          (reads front (before ++ taken) (c.loop-commit.invariant.reads front before q)),
    ))

pub returns-in-Err-clause-stands : goal.returns-in-Err-clause-stands
returns-in-Err-clause-stands g c front before q =
    let taken = payloads (changes_of c.loop-commit.commits.items) in
    let more = c.in-Err.ensures.stands front (before ++ taken) (c.loop-commit.invariant.reads front before q) in (
      taken ++ more.0,
      subst (λ (ps : List (List ℕ)). Reads g.D.Disk.model c.next_commit.new.journal front ps)
          (append_assoc before taken more.0) more.1,
    )
