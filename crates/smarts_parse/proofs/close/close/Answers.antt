use Rattle.std.proofs.Common.{sym, subst}
use Rattle.std.proofs.lemmas.Result.{err_from_is_err_and}
use Rattle.smarts_parse.specs.declared.fault.SmartsFault.{SmartsFault}
use Rattle.smarts_parse.specs.Whole.{Whole, nodes_of}
use Rattle.smarts_parse.specs.Draft.{IsDraftOf, IsOpenBy}
use Rattle.smarts_parse.proofs.Results.{if_err}
use Rattle.smarts_parse.proofs.Closed.{top_open, parts_open}
use Rattle.smarts_parse.proofs.close.close.Goals as goal

pub returns-in_err-top-clause-fails : goal.returns-in_err-top-clause-fails
returns-in_err-top-clause-fails c =
    let p = err_from_is_err_and c.from_residual.result c.from_residual.ensures.1 in
    let Q : SmartsFault → Type 0 = λ e. (whole : Whole) → IsDraftOf whole c.args.draft → IsOpenBy whole e in
    if_err Q c.from_residual.result p.0 p.1 (λ whole d.
    let F : SmartsFault → Type 0 = λ v. IsOpenBy whole v in
    subst F (sym p.2) (top_open whole c.args.draft.top.depth c.in_err-top.field-0.0
    (c.in_err-top.ensures (nodes_of whole) d.top)))

pub returns-in_err-parts-clause-fails : goal.returns-in_err-parts-clause-fails
returns-in_err-parts-clause-fails c =
    let p = err_from_is_err_and c.from_residual-in_err-parts.result c.from_residual-in_err-parts.ensures.1 in
    let Q : SmartsFault → Type 0 = λ e. (whole : Whole) → IsDraftOf whole c.args.draft → IsOpenBy whole e in
    if_err Q c.from_residual-in_err-parts.result p.0 p.1 (λ whole d.
    let F : SmartsFault → Type 0 = λ v. IsOpenBy whole v in
    subst F (sym p.2) (parts_open whole c.args.draft _ d (c.in_err-parts.ensures.fails d.trees d.parts)))

pub returns-clause-found : goal.returns-clause-found
returns-clause-found c = λ whole d. record {
  top = (c.in_ok-top.ensures (nodes_of whole) d.top).0;
  trees = d.trees;
  closing = d.closing;
  parts = c.in_ok-parts.ensures.found d.trees d.parts;
  groups = d.groups;
}
