use Rattle.exact_find.proofs.Maps.{map-along}
use Rattle.exact_find.proofs.Images.{as_map, as_list}
use Rattle.exact_find.proofs.law.same_is_transitive.Goals as goal

pub returns : goal.returns
returns c = λ m n p is too one two.
    let to = as_map m n is one in
    let on = as_map n p too two in
    as_list m p (λ a. on.0 (to.0 a)) (λ a. to.1 (on.1 a)) is
    (map-along m n p to.0 to.1 on.0 on.1 to.2 on.2)
