use Rattle.exact_find.proofs.Maps.{map-self}
use Rattle.exact_find.proofs.Images.{as_list}
use Rattle.exact_find.proofs.law.same_is_reflexive.Goals as goal

pub returns : goal.returns
returns c = λ m is. as_list m m (λ a. a) (λ a. a) is (map-self m)
