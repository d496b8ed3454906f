-- The bonds are looked at in turn.
use Rattle.std.proofs.Common.{◌≡◌, ◌≢◌, ◌++◌, ◌∷◌, [], arith, length, max}
use Rattle.std.proofs.lemmas.List.Elements.{All-map}
use Rattle.smarts_parse.specs.Embedding.{BondEmbeds}
use Rattle.smarts_parse.specs.Pattern.{bond_of}
use Rattle.matcher.proofs.Joins.{All-image}
use Rattle.matcher.proofs.fit.bonds_embed.Goals as goal

pub bond_embeds-requires-clause-apart : goal.bond_embeds-requires-clause-apart
bond_embeds-requires-clause-apart c = All-image (λ bond. bond.a ≢ bond.b) bond_of c.args.bonds.now
    c.loop-bond.bond-index c.bond-item.result c.loop-bond-test.true c.bond-item.is c.requires.apart

pub returns-then-not-bond_embeds : goal.returns-then-not-bond_embeds
returns-then-not-bond_embeds c = (
  λ t. absurd (cc),
  λ all. let embeds = c.bond_embeds.ensures.1 (All-image (λ bond. max bond.a bond.b ≡ length c.args.front.now
      → BondEmbeds c.args.mol.now (c.args.front.now ++ c.args.atom ∷ []) bond)
      bond_of c.args.bonds.now c.loop-bond.bond-index c.bond-item.result c.loop-bond-test.true c.bond-item.is all
      (omega arith)) in
      absurd (cc),
)

pub returns : goal.returns
returns c = (
  λ t. All-map (λ bond. max bond.a bond.b ≡ length c.args.front.now
      → BondEmbeds c.args.mol.now (c.args.front.now ++ c.args.atom ∷ []) bond) bond_of c.args.bonds.now
      (λ k d l. c.loop-bond.invariant k d (omega (arith, l))),
  λ all. cc,
)
