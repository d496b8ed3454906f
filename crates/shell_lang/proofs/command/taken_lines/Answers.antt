use Rattle.std.proofs.Common.{inl, inr}
use Rattle.shell_lang.specs.declared.word.Word.TheVariants as words
use Rattle.shell_lang.proofs.Cuts.{line_of_rest}
use Rattle.shell_lang.proofs.Taken.{starts, no_lines}
use Rattle.shell_lang.proofs.command.taken_lines.Goals as goal

pub returns-then-is_spelled-clause-some : goal.returns-then-is_spelled-clause-some
returns-then-is_spelled-clause-some c = (
  inl (starts _ _ _ _ c.in-Some.ensures.parts c.if-is_spelled.ensures.same),
  line_of_rest _ _ _ words.RegisterMol _ c.in-Some.ensures.parts c.in-Some.ensures.first c.if-is_spelled.ensures.same
      c.registration.ensures,
)

pub returns-then-is_spelled-2-clause-some : goal.returns-then-is_spelled-2-clause-some
returns-then-is_spelled-2-clause-some c = (
  inr (starts _ _ _ _ c.in-Some.ensures.parts c.if-is_spelled-2.ensures.same),
  line_of_rest _ _ _ words.ReviseMol _ c.in-Some.ensures.parts c.in-Some.ensures.first c.if-is_spelled-2.ensures.same
      c.revision.ensures,
)

pub returns-clause-none : goal.returns-clause-none
returns-clause-none c =
    no_lines _ _ _ c.in-Some.ensures.parts c.in-Some.ensures.first c.if-is_spelled.ensures.other
    c.if-is_spelled-2.ensures.other c.if-is_spelled-3.ensures.other
