-- What the first side wants stays so where the other adds to it.
use Rattle.std.proofs.Common.{slice_index, subst, sym}
use Rattle.smarts_parse.specs.Pattern.{term_of}
use Rattle.smarts_parse.specs.Sound.{NamesBelow}
use Rattle.matcher.specs.Wanted.{IsWithin, NamesOnly}
use Rattle.matcher.proofs.Asked.{named_more}
use Rattle.matcher.proofs.wanted.+want.Goals as goal

pub returns-in-And-clause-named : goal.returns-in-And-clause-named
returns-in-And-clause-named t c =
    let mid = c.want-in-And.new.wanted in
    let new = c.want-in-And-2.new.wanted in
    let below = subst (λ e. NamesBelow 64 (term_of e)) c.in-And.is c.requires.names in
    subst (λ e. NamesOnly (λ k. IsWithin c.args.classes (slice_index new k)) (term_of e)) (sym c.in-And.is) (
      named_more mid new c.args.classes (term_of c.in-And.left.value) below.0 c.want-in-And-2.ensures.more
          (subst (λ e. NamesOnly (λ k. IsWithin c.args.classes (slice_index mid k)) (term_of e))
          c.deref-in-And.ensures c.want-in-And.ensures.named),
      subst (λ e. NamesOnly (λ k. IsWithin c.args.classes (slice_index new k)) (term_of e))
          c.deref-in-And-2.ensures c.want-in-And-2.ensures.named,
    )

pub returns-in-Or-clause-named : goal.returns-in-Or-clause-named
returns-in-Or-clause-named t c =
    let mid = c.want-in-Or.new.wanted in
    let new = c.want-in-Or-2.new.wanted in
    let below = subst (λ e. NamesBelow 64 (term_of e)) c.in-Or.is c.requires.names in
    subst (λ e. NamesOnly (λ k. IsWithin c.args.classes (slice_index new k)) (term_of e)) (sym c.in-Or.is) (
      named_more mid new c.args.classes (term_of c.in-Or.left.value) below.0 c.want-in-Or-2.ensures.more
          (subst (λ e. NamesOnly (λ k. IsWithin c.args.classes (slice_index mid k)) (term_of e))
          c.deref-in-Or.ensures c.want-in-Or.ensures.named),
      subst (λ e. NamesOnly (λ k. IsWithin c.args.classes (slice_index new k)) (term_of e))
          c.deref-in-Or-2.ensures c.want-in-Or-2.ensures.named,
    )
