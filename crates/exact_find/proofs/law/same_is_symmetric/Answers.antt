use Rattle.exact_find.proofs.Maps.{map-back}
use Rattle.exact_find.proofs.Images.{as_map, as_list}
use Rattle.exact_find.proofs.law.same_is_symmetric.Goals as goal

pub returns : goal.returns
returns c = λ m n is too same.
    let to = as_map m n is same in
    as_list n m to.1 to.0 too (map-back m n to.0 to.1 is to.2)
