use Rattle.lookup.proofs.Truth.{sames-are-answers}
use Rattle.lookup.proofs.law.sames_are_answers.Goals as goal

pub returns : goal.returns
returns c = sames-are-answers (record {
  snapshots = c.snapshots_stay.ensures;
  grow = c.runs_grow.ensures;
  pages = c.calls_give_pages.ensures;
}) c.structures_are_molecules.ensures c.same_have_equal_prints.ensures
