use Rattle.std.proofs.Common.{inl, ◌∷◌, length, get_or, refl, sym, ◌∙◌, ap, arith}
use Rattle.std.proofs.lemmas.Grind.{common_steps}
use Rattle.line_walk.proofs.Steps.{front_is}
use Rattle.line_walk.proofs.Unique.{tails}
use Rattle.smarts_parse.proofs.ItemRead.{plain_read, group_read, group_first}
use Rattle.smarts_parse.proofs.items.item.Goals as goal
use Rattle.smarts_parse.proofs.items.item.Goals.{in_default-2-via-then-branch-lt1, in_default-2-via-else-branch-lt1+in_default-1}

pub returns-in_default-clause-found : goal.returns-in_default-clause-found
returns-in_default-clause-found c front held = plain_read front _ _ _ _ (c.in_ok-read_part.ensures.found front held)

pub returns-in-41-clause-found : goal.returns-in-41-clause-found
returns-in-41-clause-found c front held =
    let f = front_is c.args.bytes.now 40 (omega arith) (omega arith) in
    let g = front_is c.in_ok-read_part-2.field-0.now 41 (omega arith) (omega arith) in
    group_read front _ _ _ _ _ _ f g (c.in_ok-read_part-2.ensures.found front held)

pub returns-in-41-clause-only : goal.returns-in-41-clause-only
returns-in-41-clause-only c x rest is =
    let f = front_is c.args.bytes.now 40 (omega arith) (omega arith) in
    let g = front_is c.in_ok-read_part-2.field-0.now 41 (omega arith) (omega arith) in
    let t = group_first _ _ f x rest is in
    tails 41 41 _ rest (sym g ∙ c.in_ok-read_part-2.ensures.only t.0 (41 ∷ rest) (inl refl) t.1)

pub returns-in_default-2-clause-only : goal.returns-in_default-2-clause-only
returns-in_default-2-clause-only c x rest is =
    let f = front_is c.args.bytes.now 40 (omega arith) (omega arith) in
    let t = group_first _ _ f x rest is in
    let k = c.in_ok-read_part-2.ensures.only t.0 (41 ∷ rest) (inl refl) t.1 in
    let l = ap length k in
    let b = ap (λ v. get_or v 0 0) k in
    elim c.in_default-2.branch [
      | in_default-2-via-then-branch-lt1 w ↦ absurd
          (grind (arith, common_steps))
      | in_default-2-via-else-branch-lt1+in_default-1 w ↦ absurd
          (grind (arith, common_steps))
    ]
