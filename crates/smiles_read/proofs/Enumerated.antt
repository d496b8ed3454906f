-- Atoms whose places are written one after another.
use Rattle.std.proofs.Common.{ℕ, ◌+◌, ◌<◌, ◌≡◌, List, ◌++◌, length, take, drop, get_or, set, ap, ◌∙◌}
use Rattle.chem_core.specs.declared.sketch.SketchAtom.{SketchAtom}
use Rattle.chem_core.specs.Enumerated.{written-at, written-more}
use Rattle.smiles_read.specs.Sketch.{numbered}

-- one more atom has its place
pub number-more : (xs ys : List SketchAtom) (i : ℕ) (d : SketchAtom) → i < length xs → ys ≡ numbered (take i xs)
    ++ drop i xs
    → set ys i (record (get_or ys i d) { written = i }) ≡ numbered (take (i + 1) xs) ++ drop (i + 1) xs
number-more xs ys i d within is =
    let f : ℕ × SketchAtom → SketchAtom = λ p. record p.1 { written = p.0 } in
    let same : get_or ys i d ≡ get_or xs i d = ap (λ zs. get_or zs i d) is ∙ written-at f xs i d within in
    ap (λ zs. set zs i (record (get_or ys i d) { written = i })) is
    ∙ ap (λ v. set (numbered (take i xs) ++ drop i xs) i (record v { written = i })) same
    ∙ written-more f xs i d within
