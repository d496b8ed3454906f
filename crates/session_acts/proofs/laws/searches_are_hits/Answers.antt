use Rattle.session_acts.proofs.Truth.{searches-are-hits}
use Rattle.session_acts.proofs.laws.searches_are_hits.Goals as goal

pub returns : goal.returns
returns c = searches-are-hits (record {
  snapshots = c.snapshots_stay.ensures;
  commits = c.commits_change.ensures;
  add = c.replies_tell.ensures.commits;
  stand = c.replies_tell.ensures.stand;
  grow = c.runs_grow.ensures;
  slots = c.replies_tell.ensures.slots;
  pins = c.replies_tell.ensures.pins;
  pages = c.calls_give_pages.ensures;
  needs = c.needs_screen.ensures;
})
