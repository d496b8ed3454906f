use Rattle.drill_run.proofs.Reopened.{reopenings-keep}
use Rattle.drill_run.proofs.laws.reopenings_keep_commits.Goals as goal

pub returns : goal.returns
returns c =
    reopenings-keep c.replies_tell.ensures.commits c.runs_stay_sound.ensures c.rebases_keep.ensures.grown
