use Rattle.std.proofs.Common.{◌≡◌, ℕ, ◌++◌, ◌∷◌, [], ◌<◌, get_or, length, max}
use Rattle.smarts_parse.specs.declared.pattern.PatBond.{PatBond}
use Rattle.smarts_parse.specs.Embedding.{BondEmbeds}
use Rattle.smarts_parse.specs.Pattern.{bond_of}
use Rattle.matcher.proofs.fit.bonds_embed.Given as goal

-- each bond so far that ends at the next atom embeds
abbrev pub invariant-loop-bond : goal.invariant-loop-bond
invariant-loop-bond l = (k : ℕ) (d : PatBond) → k < l.bond-index
    → max (get_or l.bonds k d).a (get_or l.bonds k d).b ≡ length l.front
    → BondEmbeds l.mol (l.front ++ l.atom ∷ []) (bond_of (get_or l.bonds k d))
