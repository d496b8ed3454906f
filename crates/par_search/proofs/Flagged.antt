-- Flags of records, one more at a time.
use Rattle.std.proofs.Common.{◌≡◌, ◌↔◌, ◌++◌, ◌<◌, arith, Bool, false, get_or, length, List, [], ◌∷◌, refl, subst, suc, sym, true, zero, ℕ}
use Rattle.std.specs.Arc.{arc_value}
use Rattle.smarts_parse.specs.Embedding.{Matches}
use Rattle.smarts_parse.specs.Pattern.{PatternTerm}
use Rattle.store_core.specs.Records.{Shared}
use Rattle.par_search.specs.Flags.{AreFlags}

pub flags-push : (p : PatternTerm) (rs : List Shared) (r : Shared) (flags : List Bool) (flag : Bool)
    → AreFlags p rs flags → ((flag ≡ true) ↔ Matches p (arc_value r).mol)
    → AreFlags p (rs ++ r ∷ []) (flags ++ flag ∷ [])
flags-push p [] r flags flag none here =
    subst (λ (l : List Bool). AreFlags p (r ∷ []) (l ++ flag ∷ [])) (sym none) (here, refl)
flags-push p (x ∷ xs) r [] flag all here = absurd all
flags-push p (x ∷ xs) r (f ∷ fs) flag all here = (all.0, flags-push p xs r fs flag all.1 here)

pub flag-at : (p : PatternTerm) (rs : List Shared) (flags : List Bool) (i : ℕ) (d : Shared)
    → AreFlags p rs flags → i < length rs → (get_or flags i false ≡ true) ↔ Matches p (arc_value (get_or rs i d)).mol
flag-at p [] flags i d all less = absurd (omega (arith, less))
flag-at p (r ∷ rs) [] i d all less = absurd all
flag-at p (r ∷ rs) (f ∷ fs) zero d all less = all.0
flag-at p (r ∷ rs) (f ∷ fs) (suc i) d all less = flag-at p rs fs i d all.1 (omega (arith, less))
