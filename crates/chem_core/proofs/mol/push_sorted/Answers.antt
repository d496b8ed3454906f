use Rattle.std.proofs.Common.{◌≡◌, ◌∙◌, ◌++◌, ◌-◌, ap, arith, length, map, refl, subst, sym, take}
use borrow.Rule.Slice.PartMut.{put_mid, same_len_mid}
use Rattle.std.proofs.lemmas.List.{take_all, take_at}
use Rattle.chem_core.specs.Inside.{AreSortedBehind}
use Rattle.chem_core.proofs.StepsSorted.{pair_of, sorted_behind}
use Rattle.chem_core.proofs.mol.push_sorted.Goals as goal

pub returns : goal.returns
returns c =
    let steps = c.args.steps.now in
    let before = c.args.pairs.now.items in
    let xs = c.deref_mut.result.now in
    let start = c.len-start.result in
    let all : take c.loop-step.step-index steps ≡ steps = take_all c.loop-step.step-index steps (omega arith) in
    let pushed : c.loop-step.pairs.items ≡ before ++ map pair_of steps = rw all at c.loop-step.invariant in
    let begins : start ≡ length before = c.len-start.ensures ∙ c.args.pairs.now.ok.0 in
    let long : length (put_mid start (length xs - start) xs c.sort_unstable.new.self) ≡ c.loop-step.pairs.len =
    same_len_mid start (length xs - start) xs c.sort_unstable.new.self c.sort_unstable.ensures.len
    ∙ (ap length c.deref_mut.ensures.value ∙ sym c.loop-step.pairs.ok.0) in
    subst (AreSortedBehind before steps) (sym (take_at _ _ c.loop-step.pairs.len long))
    (sorted_behind before xs c.sort_unstable.new.self steps start (length xs - start) begins
    (c.deref_mut.ensures.value ∙ pushed) refl c.sort_unstable.ensures.permutation c.sort_unstable.ensures.sorted)
