use Rattle.lookup.proofs.Truth.{similars-are-answers}
use Rattle.lookup.proofs.law.similars_are_answers.Goals as goal

pub returns : goal.returns
returns c = similars-are-answers (record {
  snapshots = c.snapshots_stay.ensures;
  grow = c.runs_grow.ensures;
  pages = c.calls_give_pages.ensures;
}) c.one_structure.ensures c.structures_have_bits.ensures
