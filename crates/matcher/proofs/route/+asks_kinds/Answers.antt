use Rattle.std.proofs.Common.{subst, sym}
use Rattle.std.proofs.lemmas.Bool.{and_parts}
use Rattle.smarts_parse.specs.Pattern.{term_of}
use Rattle.matcher.specs.Route.{AsksKinds}
use Rattle.matcher.proofs.route.+asks_kinds.Goals as goal

pub returns-in-Prim : goal.returns-in-Prim
returns-in-Prim t c = λ h. subst (λ e. AsksKinds (term_of e)) (sym c.in-Prim.is) (c.is_of_kind.ensures h)

pub returns-in-And : goal.returns-in-And
returns-in-And t c = λ h.
    let both = and_parts c.asks_kinds.result c.asks_kinds-in-And.result h in
    subst (λ e. AsksKinds (term_of e)) (sym c.in-And.is) (
      subst (λ e. AsksKinds (term_of e)) c.deref.ensures (c.asks_kinds.ensures both.0),
      subst (λ e. AsksKinds (term_of e)) c.deref-in-And.ensures (c.asks_kinds-in-And.ensures both.1),
    )

pub returns-in-Or : goal.returns-in-Or
returns-in-Or t c = λ h.
    let both = and_parts c.asks_kinds-in-Or.result c.asks_kinds-in-Or-2.result h in
    subst (λ e. AsksKinds (term_of e)) (sym c.in-Or.is) (
      subst (λ e. AsksKinds (term_of e)) c.deref-in-Or.ensures (c.asks_kinds-in-Or.ensures both.0),
      subst (λ e. AsksKinds (term_of e)) c.deref-in-Or-2.ensures (c.asks_kinds-in-Or-2.ensures both.1),
    )
