use Rattle.std.proofs.Common.{◌++◌, [], ◌∷◌, List, subst, sym, take, arith}
use Rattle.std.proofs.Math.Seq.{take_all}
use Rattle.std.proofs.lemmas.Slice.Zip.{all_zipped_more}
use Rattle.std.specs.List.{AllZip}
use Rattle.commit_log.specs.declared.change.Commit.{Commit}
use Rattle.store_disk.specs.Texts.{IsChange}
use Rattle.store_disk.proofs.Based.{next-is}
use Rattle.store_disk.proofs.texts.read_piece.Goals as goal

pub loop-commit-preserved : goal.loop-commit-preserved
loop-commit-preserved c =
    let done = take c.loop-commit.commit-index c.args.commits.now in
    let made : IsChange c.commit-item.result c.change_from.result = record {
      change = c.change_from.ensures.change;
      fault = c.change_from.ensures.fault;
    } in
    rw c.in_ok-push.ensures.items
    (subst (λ (l : List (Commit)). AllZip IsChange l (c.loop-commit.changes.items ++ c.change_from.result ∷ []))
    (sym (next-is c.args.commits.now c.loop-commit.commit-index c.commit-item.result c.loop-commit-test.true c.commit-item.is))
    (all_zipped_more IsChange done c.loop-commit.changes.items c.commit-item.result c.change_from.result c.loop-commit.invariant made))

pub returns : goal.returns
returns c = subst (λ (l : List (Commit)). AllZip IsChange l c.loop-commit.changes.items)
    (take_all c.loop-commit.commit-index c.args.commits.now (omega (arith, c.loop-commit-test.false))) c.loop-commit.invariant
