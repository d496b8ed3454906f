use Rattle.std.proofs.Common.{◌+◌, arith, inl, inr}
use Rattle.std.proofs.lemmas.List.{get_or-set_other}
use Rattle.matcher.proofs.Follows.{joined_only}
use Rattle.matcher.proofs.Narrowings.{joined_here, joined_kept}
use Rattle.matcher.proofs.follow.join_from.Goals as goal

pub returns-clause-here : goal.returns-clause-here
returns-clause-here c = joined_here c.args.joined.now (c.args.start + c.args.atom) (c.args.start + c.from.result)
    c.args.other c.args.bit (omega (arith, c.from.ensures))
    (omega (arith, c.from.ensures, c.requires.room, c.requires.atom)) c.requires.other

pub returns-clause-kept : goal.returns-clause-kept
returns-clause-kept c = joined_kept c.args.joined.now (c.args.start + c.from.result) _
    (omega (arith, c.from.ensures, c.requires.room, c.requires.atom))

pub returns-clause-before : goal.returns-clause-before
returns-clause-before c = λ k l. get_or-set_other c.args.joined.now (c.args.start + c.from.result) k _ 0
    (λ same. omega arith)

pub returns-clause-only : goal.returns-clause-only
returns-clause-only c = λ x y t.
    elim (joined_only c.args.joined.now (c.args.start + c.from.result) c.args.other c.args.bit
    (omega (arith, c.from.ensures, c.requires.room, c.requires.atom)) c.requires.other c.requires.bit
    (c.args.start + x) y t) [
      | inl old ↦ inl old
      | inr h ↦ inr (h.0, (let same = h.1 in omega (arith, c.from.ensures)), h.2)
    ]
