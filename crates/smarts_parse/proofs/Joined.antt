-- More of recursive parts, and then others.
use Rattle.std.proofs.Common.{◌≡◌, ℕ, max, List, [], ◌∷◌, ◌++◌, arith}
use Rattle.smarts_parse.specs.Whole.{Parts, none, part, AreParts, parts_depth}
use Rattle.smarts_parse.specs.Reading.{DoPartsPair}
use Rattle.smarts_parse.specs.Draft.{join}

pub are-join : (xs ys : List (List ℕ)) (p q : Parts) → AreParts xs p → AreParts ys q → AreParts (xs ++ ys) (join p q)
are-join [] ys none q h k = k
are-join [] ys (part tree inner others) q h k = absurd h
are-join (x ∷ xs) ys none q h k = absurd h
are-join (x ∷ xs) ys (part tree inner others) q h k = (h.0, h.1, are-join xs ys others q h.2 k)

pub depth-join : (p q : Parts) → parts_depth (join p q) ≡ max (parts_depth p) (parts_depth q)
depth-join none q = omega arith
depth-join (part tree inner others) q = let e = depth-join others q in omega arith

pub pair_both : (p q : Parts) → DoPartsPair p → DoPartsPair q → DoPartsPair (join p q)
pair_both none q h k = k
pair_both (part tree inner others) q h k = (h.0, h.1, pair_both others q h.2 k)
