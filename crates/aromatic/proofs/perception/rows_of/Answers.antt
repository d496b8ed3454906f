use Rattle.std.proofs.Common.{Result, Ok, Err}
use Rattle.std.specs.Result.{IfOk}
use Rattle.aromatic.proofs.Sketches.{rows-are}
use Rattle.aromatic.proofs.perception.rows_of.Goals as goal

if_ok : {T E : Type 0} (P Q : T → Type 0) (r : Result T E) → ((x : T) → P x → Q x) → IfOk r P → IfOk r Q
if_ok P Q (Ok x) more h = more x h
if_ok P Q (Err e) more h = h

pub returns : goal.returns
returns c =
    let of_environments = rw c.deref.ensures.value at c.rows_by.ensures in
    if_ok _ _ c.rows_by.result (λ rows is. rows-are _ c.args.bond_in_ring.now c.in_ok-environments.environments.items
    rows.items
    c.in_ok-environments.ensures is) of_environments
