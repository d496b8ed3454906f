-- The table of symbols: its length, and a symbol by its place.
use Rattle.std.proofs.Common.{ℕ, ◌≡◌, ◌<◌, Some, option_map, List, length, map, get_or, refl, sym, ap, ◌∙◌}
use Rattle.std.specs.List.{slice_get}
use Rattle.std.proofs.lemmas.Option.{slice_get-map, slice_get-get_or}
use Rattle.chem_core.specs.Element.{symbols}

pub length-symbols : length symbols ≡ 104
unfolding symbols
length-symbols = refl

pub symbol_at : {X : Type 0} (text : X → List ℕ) (table : List X) (n : ℕ) (d : X) → map text table ≡ symbols
    → n < length table → slice_get symbols n ≡ Some (text (get_or table n d))
symbol_at text table n d is within =
    ap (λ xs. slice_get xs n) (sym is) ∙ slice_get-map text table n
    ∙ ap (λ o. option_map text o) (slice_get-get_or table n d within)
