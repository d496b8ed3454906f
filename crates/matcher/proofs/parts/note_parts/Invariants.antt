use Rattle.smarts_parse.specs.Pattern.{pattern_of}
use Rattle.matcher.specs.Parts.{AreNoted}
use Rattle.matcher.proofs.parts.note_parts.Given as goal

-- the parts so far are noted
abbrev pub invariant-loop-part : goal.invariant-loop-part
invariant-loop-part l = AreNoted (pattern_of l.pattern).recs l.mol l.prepared.wanted.classes.items l.part
    l.memory.table
