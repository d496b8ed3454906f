-- A line of a drill as it is read, without the places of its parts in memory; the sessions as contracts see them. For
-- private clauses alone.
use Rattle.std.specs.Prelude.{List, map}
use Rattle.session_run.specs.Standings.{standing_of}
use Rattle.session_run.specs.declared.respond.Responder.{Responder}
use Rattle.drill_run.specs.Acts.{AllKept}
use Rattle.drill_run.specs.Lines.{DrillLine, Empty, Session, Stop, Fail, Reopen}
use Rattle.drill_run.specs.declared.line.DrillLine as read
use Rattle.drill_run.specs.declared.line.DrillLine.TheVariants as lines

abbrev pub line_of : read.DrillLine → DrillLine
line_of lines.Empty = Empty
line_of (lines.Session number line) = Session number line.now
line_of (lines.Stop disk calls) = Stop disk calls
line_of (lines.Fail disk call) = Fail disk call
line_of (lines.Reopen image) = Reopen image

abbrev pub kept_in : List Responder → AllKept
kept_in responders = map standing_of responders
