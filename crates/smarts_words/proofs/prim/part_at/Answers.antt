use Rattle.std.proofs.Common.{◌-◌, length, take, drop, get_or, refl}
use Rattle.smiles_words.proofs.Fronts.{front_is}
use Rattle.smarts_words.proofs.Balance.{closed_part}
use Rattle.smarts_words.proofs.prim.part_at.Goals as goal

pub returns-in_default-opened-clause-found : goal.returns-in_default-opened-clause-found
returns-in_default-opened-clause-found c =
    let left = c.loop-rest.rest.now in
    let f = c.loop-rest.invariant.front in
    let none = c.in_default-opened.ensures.none in
    closed_part c.args.bytes.now left (take (length left - 1) (drop 1 left)) f.0 (get_or left 0 0) c.loop-rest.depth
    c.loop-rest.count f.1 f.2 f.3 (front_is left (get_or left 0 0) c.in-len1-up.len_at_least refl) none.0 none.1
