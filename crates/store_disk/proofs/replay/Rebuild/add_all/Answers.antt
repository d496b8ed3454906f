use Rattle.std.proofs.Common.{◌++◌, ◌∙◌, [], ◌∷◌, ap, append_assoc, arith, length, length-append, List, option_to_list, Result, subst, sym, take}
use Rattle.std.proofs.Math.Seq.{take_all}
use Rattle.std.proofs.lemmas.List.{append-nil}
use Rattle.std.specs.Vec.Iter.{into_iter_items}
use Rattle.commit_log.specs.declared.change.Commit.{Commit}
use Rattle.mol_finish.specs.declared.fault.TextFault.{TextFault}
use Rattle.store_core.specs.declared.words.Change.{Change}
use Rattle.store_disk.specs.Replays.{HasCome}
use Rattle.store_disk.specs.Texts.{AreChanges, IsChange}
use Rattle.store_disk.proofs.Answered.{next-answer, some-next}
use Rattle.store_disk.proofs.Based.{next-is}
use Rattle.store_disk.proofs.replay.Rebuild.add_all.Goals as goal

pub loop-commit-init : goal.loop-commit-init
loop-commit-init c =
    let items = c.into_iter-changes.ensures.rest in
    record {
      come = λ version base log come.
          subst (λ (l : List Commit). HasCome c.args.self.now.memory c.args.self.now.stopped version base l)
          (sym (append-nil log)) come;
      left = subst (AreChanges c.args.commits.now) (sym items) c.requires;
      len = c.into_iter-changes.ensures.len
          ∙ (c.args.changes.ok.0 ∙ ap (λ (l : List (Result Change TextFault)). length l) (sym items));
    }

pub unreachable-requires : goal.unreachable-requires
unreachable-requires c =
    cc (c.in_default.ensures.variant.1 (omega (
      arith,
      some-next IsChange c.args.commits.now c.loop-commit.commit-index c.commit-item.result c.loop-commit-test.true
          c.commit-item.is (into_iter_items c.loop-commit.changes) c.loop-commit.invariant.left,
      c.loop-commit.invariant.len,
    )))

pub add-requires : goal.add-requires
add-requires c =
    (next-answer IsChange c.args.commits.now c.loop-commit.commit-index c.commit-item.result c.loop-commit-test.true
    c.commit-item.is (into_iter_items c.loop-commit.changes) c.loop-commit.invariant.left c.next.result c.in-Some.change
    (into_iter_items c.next.new.self) c.in-Some.is c.next.ensures.items).0

pub loop-commit-preserved : goal.loop-commit-preserved
loop-commit-preserved c =
    let items = c.next.ensures.items in
    let next = next-is c.args.commits.now c.loop-commit.commit-index c.commit-item.result c.loop-commit-test.true
    c.commit-item.is in
    record {
      come = λ version base log come.
          subst (λ (l : List Commit). HasCome c.add.new.self.memory c.add.new.self.stopped version base l)
          (append_assoc log (take c.loop-commit.commit-index c.args.commits.now) (c.commit-item.result ∷ [])
          ∙ ap (λ (l : List Commit). log ++ l) (sym next))
          (c.in_ok-add.ensures version base (log ++ take c.loop-commit.commit-index c.args.commits.now)
          (c.loop-commit.invariant.come version base log come));
      left = (next-answer IsChange c.args.commits.now c.loop-commit.commit-index c.commit-item.result
          c.loop-commit-test.true c.commit-item.is (into_iter_items c.loop-commit.changes)
          c.loop-commit.invariant.left c.next.result c.in-Some.change (into_iter_items c.next.new.self) c.in-Some.is
          items).1;
      len = omega (
        arith,
        c.next.ensures.len,
        c.loop-commit.invariant.len,
        ap (λ (l : List (Result Change TextFault)). length l) items,
        length-append (option_to_list c.next.result) (into_iter_items c.next.new.self),
      );
    }

pub returns : goal.returns
returns c = λ version base log come.
    subst (λ (l : List Commit). HasCome c.loop-commit.self.memory c.loop-commit.self.stopped version base (log ++ l))
    (take_all c.loop-commit.commit-index c.args.commits.now (omega (arith, c.loop-commit-test.false)))
    (c.loop-commit.invariant.come version base log come)
