use Rattle.std.proofs.Common.{◌≡◌, List, [], ◌∷◌, ◌++◌, reverse, sym, subst, arith}
use Rattle.std.proofs.lemmas.Grind.{common_steps}
use Rattle.std.proofs.lemmas.List.{nil_from_length}
use Rattle.line_walk.specs.Places.{placed_nodes}
use Rattle.std.proofs.lemmas.Result.{err_from_is_err_and}
use Rattle.smarts_parse.specs.declared.fault.SmartsFault.{SmartsFault}
use Rattle.smarts_parse.specs.Whole.{Tree}
use Rattle.smarts_parse.specs.Draft.{WalkGraph, AreRead, AreOpenBy}
use Rattle.smarts_parse.proofs.Results.{if_err}
use Rattle.smarts_parse.proofs.Closed.{ClosedSoFar, none_closed, next_read, one_closed, all_closed, part_open}
use Rattle.smarts_parse.proofs.close.close_parts.Goals as goal

pub parts-init : goal.parts-init
parts-init c = λ trees h.
    let F : List WalkGraph → Type 0 = λ v. ClosedSoFar trees v c.args.parts.items in
    subst F (sym c.new-closed.ensures.items) (none_closed trees c.args.parts.items h)

pub parts-preserved : goal.parts-preserved
parts-preserved c = λ trees h.
    let n = next_read trees c.parts.closed.items c.parts.left.items c.pop.new.self.items c.in-Some.part
    c.in-Some.ensures.items (c.parts.invariant trees h) in
    let e : c.push.new.self.items ≡ c.parts.closed.items ++ c.in_ok-finish.field-0 ∷ [] = grind (arith, common_steps) in
    one_closed trees c.parts.closed.items c.push.new.self.items c.pop.new.self.items c.in-Some.part
    c.in_ok-finish.field-0 n (c.in_ok-finish.ensures (placed_nodes n.tree) n.held).0 e

pub returns-in_err-finish-clause-fails : goal.returns-in_err-finish-clause-fails
returns-in_err-finish-clause-fails c =
    let p = err_from_is_err_and c.from_residual.result c.from_residual.ensures.1 in
    let Q : SmartsFault → Type 0 = λ e. (trees : List Tree) → AreRead trees (reverse c.args.parts.items)
    → AreOpenBy trees e in
    if_err Q c.from_residual.result p.0 p.1 (λ trees h.
    let n = next_read trees c.parts.closed.items c.parts.left.items c.pop.new.self.items c.in-Some.part
    c.in-Some.ensures.items (c.parts.invariant trees h) in
    let F : SmartsFault → Type 0 = λ v. AreOpenBy trees v in
    subst F (sym p.2) (part_open trees c.parts.closed.items c.pop.new.self.items c.in-Some.part
    c.in-Some.part.depth c.in_err-finish.field-0.0 n (c.in_err-finish.ensures (placed_nodes n.tree) n.held)))

pub returns-clause-found : goal.returns-clause-found
returns-clause-found c = λ trees h.
    let none = c.in_default.ensures.cases in
    let e = nil_from_length c.parts.left.items (omega arith) in
    all_closed trees c.parts.closed.items c.parts.left.items e (c.parts.invariant trees h)
