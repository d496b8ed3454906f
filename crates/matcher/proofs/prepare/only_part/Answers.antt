use Rattle.std.proofs.Common.{◌≡◌, ◌∷◌, ◌∙◌, [], ap, arith, sym}
use Rattle.std.proofs.lemmas.List.{length-map}
use Rattle.smarts_parse.specs.declared.pattern.AtomPrim.TheVariants as atoms
use Rattle.smarts_parse.specs.Pattern.{Prim, graph_of, term_of}
use Rattle.matcher.proofs.OnlyParts.{one_element}
use Rattle.matcher.proofs.prepare.only_part.Goals as goal

pub returns : goal.returns
returns c =
    let named : term_of c.index.result.now ≡ Prim (atoms.Rec c.from-part.result) = ap term_of c.in-Prim.is
    ∙ ap Prim c.in-Rec.is ∙ ap (λ k. Prim (atoms.Rec k)) (sym c.from-part.ensures) in (
      omega (arith, c.args.pattern.now.recs.ok.0, length-map c.args.pattern.now.recs.items graph_of),
      one_element term_of c.args.pattern.now.top.atoms.items c.index.result.now
          (omega (arith, c.args.pattern.now.top.atoms.ok.0)) c.index.ensures ∙ ap (λ e. e ∷ []) named,
    )
