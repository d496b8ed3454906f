use Rattle.matcher.proofs.narrow.narrow_word.Goals as goal

pub returns-then-is_again-clause-kept : goal.returns-then-is_again-clause-kept
returns-then-is_again-clause-kept c = rw (
  ← c.is_again.ensures.from c.if-is_again.true,
  ← c.is_again.ensures.count c.if-is_again.true,
  ← c.is_again.ensures.atoms c.if-is_again.true,
) c.requires.last

pub returns-clause-kept : goal.returns-clause-kept
returns-clause-kept c = record {
  enough = c.with_neighbours.ensures.kept;
  within = c.with_neighbours.ensures.within;
}

pub returns-clause-last : goal.returns-clause-last
returns-clause-last c = record {
  enough = c.with_neighbours.ensures.kept;
  within = c.with_neighbours.ensures.within;
}
