use Rattle.std.proofs.Common.{◌≡◌, ℕ, List, take, ◌∙◌, subst, ◌%◌, ◌^◌, map, sum}
use Rattle.exact_find.specs.Colours.{IsRound, taken}
use Rattle.exact_find.proofs.Both.{round-both}
use Rattle.exact_find.proofs.sides.Work.settle.Goals as goal

pub returns-then-round : goal.returns-then-round
returns-then-round c = λ f g all matched kept.
    let left = c.loop-round.self.left in
    let right = c.loop-round.self.right in
    let before = c.loop-round.invariant in
    let p : List ℕ = take c.args.ours c.args.self.now.left.list.items in
    let q : List ℕ = take c.args.theirs c.args.self.now.right.list.items in
    let v : List ℕ = c.round.new.self.colours.items in
    let w : List ℕ = c.round-in-loop-round.new.self.colours.items in
    let one = subst (λ zs. IsRound c.args.left.now (take c.args.ours zs) left.colours.items v) before.list
    c.round.ensures.round in
    let two = subst (λ zs. IsRound c.args.right.now (take c.args.theirs zs) right.colours.items w) before.list_right
    c.round-in-loop-round.ensures.round in
    let both = round-both c.args.left.now c.args.right.now f g p q left.colours.items right.colours.items v w
    c.round.result c.round-in-loop-round.result c.requires.left all c.requires.listed c.requires.listed_right matched one
    two (subst (λ zs. c.round.result ≡ sum (map (taken v) (take c.args.ours zs)) % 2 ^ 64) before.list c.round.ensures.sum)
    (subst (λ zs. c.round-in-loop-round.result ≡ sum (map (taken w) (take c.args.theirs zs)) % 2 ^ 64) before.list_right
    c.round-in-loop-round.ensures.sum) (before.kept f g all matched kept) in
    absurd (c.if-round.true both.1)

pub loop-round-preserved : goal.loop-round-preserved
loop-round-preserved c =
    let left = c.loop-round.self.left in
    let right = c.loop-round.self.right in
    let before = c.loop-round.invariant in
    let p : List ℕ = take c.args.ours c.args.self.now.left.list.items in
    let q : List ℕ = take c.args.theirs c.args.self.now.right.list.items in
    let v : List ℕ = c.round.new.self.colours.items in
    let w : List ℕ = c.round-in-loop-round.new.self.colours.items in
    let one = subst (λ zs. IsRound c.args.left.now (take c.args.ours zs) left.colours.items v) before.list
    c.round.ensures.round in
    let two = subst (λ zs. IsRound c.args.right.now (take c.args.theirs zs) right.colours.items w) before.list_right
    c.round-in-loop-round.ensures.round in
    record {
      list = c.round.ensures.list ∙ before.list;
      list_right = c.round-in-loop-round.ensures.list ∙ before.list_right;
      kept = λ f g all matched kept.
          (round-both c.args.left.now c.args.right.now f g p q left.colours.items right.colours.items v w c.round.result
          c.round-in-loop-round.result c.requires.left all c.requires.listed c.requires.listed_right matched one two
          (subst (λ zs. c.round.result ≡ sum (map (taken v) (take c.args.ours zs)) % 2 ^ 64) before.list c.round.ensures.sum)
          (subst (λ zs. c.round-in-loop-round.result ≡ sum (map (taken w) (take c.args.theirs zs)) % 2 ^ 64)
          before.list_right c.round-in-loop-round.ensures.sum) (before.kept f g all matched kept)).0;
    }
