use Rattle.matcher.proofs.route.has_first.Goals as goal

pub returns : goal.returns
returns c = λ t some. c.is_join.ensures t
