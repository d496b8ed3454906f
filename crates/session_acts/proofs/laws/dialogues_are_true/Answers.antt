use Rattle.session_acts.proofs.WatchTruth.{dialogues-are-true}
use Rattle.session_acts.proofs.laws.dialogues_are_true.Goals as goal

pub returns : goal.returns
returns c = dialogues-are-true (record {
  snapshots = c.snapshots_stay.ensures;
  commits = c.commits_change.ensures;
  add = c.replies_tell.ensures.commits;
  stand = c.replies_tell.ensures.stand;
  grow = c.runs_grow.ensures;
  slots = c.replies_tell.ensures.slots;
  pins = c.replies_tell.ensures.pins;
  pages = c.calls_give_pages.ensures;
  needs = c.needs_screen.ensures;
}) (record {
  sames = c.sames_are_answers.ensures;
  similars = c.similars_are_answers.ensures;
  molecules = c.structures_are_molecules.ensures;
}) c.one_reading.ensures
