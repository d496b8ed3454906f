-- For callers: an end after its session, by the calls that were made for it.
use Rattle.io_edge.specs.declared.sinks.Sink as put
use Rattle.io_edge.specs.declared.sources.Source as taken
use Rattle.session_acts.specs.Cursors.{Calls}
use Rattle.session_acts.specs.Served.{EndsAs, IsServedBy}
use Rattle.dialogue.specs.declared.end.EndStatus.{EndStatus}
use Rattle.session_run.specs.declared.settings.Settings.{Settings}
use Rattle.serve_ends.specs.declared.end.End.{End}
use Rattle.serve_ends.specs.Status.{IsStatusOf}

-- If the end is done, the output is the transcript of the source's bytes by these calls; else a beginning of one. It is
-- done once all bytes were taken. A fault is one of the end's own objects
pub record EndServed {S K : Type 0} (source : taken.Ghosts S) (sink : put.Ghosts K) (settings : Settings)
    (before after : End S K) (calls : Calls) : Type 0 where
  pub ended : EndStatus
  pub status : IsStatusOf ended after.status
  pub served : IsServedBy ended settings.page (source.left before.source) (source.left after.source)
      (sink.written before.sink) (sink.written after.sink) calls
  pub ends : EndsAs source sink ended settings.input_limit before.source after.source before.sink after.sink
