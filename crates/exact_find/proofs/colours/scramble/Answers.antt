use Rattle.std.proofs.Common.{refl}
use Rattle.exact_find.specs.Colours.{scrambled}
use Rattle.exact_find.proofs.colours.scramble.Goals as goal

pub returns : goal.returns
unfolding scrambled
returns c = refl
