use Rattle.std.proofs.Common.{◌≡◌, ◌≢◌, inl, inr, [], ◌∷◌, length, take, Contains, sym, ap, ◌∙◌, subst, arith}
use Rattle.std.specs.Prelude.{AllPairs}
use Rattle.std.proofs.Math.Seq.{take-length}
use Rattle.path_print.specs.declared.arms.Arm.{Arm}
use Rattle.path_print.specs.Arms.{HasArm, AreJoints, views_around}
use Rattle.path_print.proofs.Joints.{blank, reaches_more, some_more, twos_all}
use Rattle.path_print.proofs.arms.gather_twos.Goals as goal

pub loop-one-preserved : goal.loop-one-preserved
loop-one-preserved c =
    let l = c.loop-one in
    let more = c.gather_behind-count in
    let middle = c.args.middle.now in
    let few = l.invariant.few in
    let size = l.invariant.size in
    record {
      few = let least = more.ensures.count in omega arith;
      size = more.ensures.room ∙ l.invariant.size;
      each = more.ensures.each l.invariant.each;
      reached = λ one there family z js distinct joints. elim (some_more c.args.ones.now l.one-index blank one
          c.loop-one-test.true there) [
            | inl before ↦ reaches_more 2 (take l.count l.twos) (take more.result more.new.twos) (z ∷ one.near ∷ [])
                more.ensures.kept (l.invariant.reached one before family z js distinct joints)
            | inr same ↦ subst (λ (w : Arm). AllPairs ◌≢◌ (z ∷ w.near ∷ middle.atom ∷ [])
                → AreJoints (views_around middle family) middle.atom (z ∷ w.near ∷ []) js
                → HasArm 2 (take more.result more.new.twos) (z ∷ w.near ∷ [])) same
                (λ apart reads. more.ensures.all family z js apart reads) distinct joints
          ];
    }

pub returns-clause-arms : goal.returns-clause-arms
returns-clause-arms c =
    let l = c.loop-one in
    let middle = c.args.middle.now in
    let ones = c.args.ones.now in
    let whole : l.one-index ≡ length ones = omega arith in
    let all : take l.one-index ones ≡ ones = ap (λ n. take n ones) whole ∙ take-length ones in
    record {
      each = l.invariant.each;
      all = λ family xs js size distinct joints. twos_all (views_around middle) middle.atom ones (take l.count l.twos)
          c.requires.ones (λ one there. l.invariant.reached one (subst (λ zs. Contains zs one) (sym all) there)) family
          xs js size distinct joints;
    }
