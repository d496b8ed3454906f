-- What readers of pieces answer, and facts of one result.
use Rattle.std.proofs.Common.{◌≡◌, ℕ, List, ◌++◌, Option, None, Some, Result, Ok, Err, sym, ◌∙◌, ap, subst}
use Rattle.std.specs.Option.{option_map}
use Rattle.std.specs.Result.{IfOk}
use Rattle.line_walk.specs.Follow.{Reads}

pub ok_then : {X Y : Type 0} (r : Result X Y) {P Q : X → Type 0} → IfOk r P → ((x : X) → P x → Q x) → IfOk r Q
ok_then (Ok x) h f = f x h
ok_then (Err y) h f = tt

-- no piece
pub reads_none : {X V T : Type 0} {text : X → List ℕ} {Is : X → Type 0} {value : X → V} {May : List ℕ → Type 0}
    {bytes : List ℕ} (F : T → V × List ℕ) (o : Option T) → o ≡ None
    → ((x : X) (rest : List ℕ) → Is x → May rest → bytes ≡ text x ++ rest → ⊥)
    → Reads text Is value May bytes (option_map F o)
reads_none F None e h = record { found = tt; only = λ x rest is may k. absurd (h x rest is may k) }
reads_none F (Some r) e h = absurd (cc)

-- another kind of piece
pub reads_as : {X Y V T : Type 0} {text : X → List ℕ} {Is : X → Type 0} {value : X → V} {May : List ℕ → Type 0}
    {text' : Y → List ℕ} {Is' : Y → Type 0} {value' : Y → V} {May' : List ℕ → Type 0} {bytes bytes' : List ℕ}
    (F : T → V × List ℕ) (o : Option T) → Reads text Is value May bytes (option_map F o)
    → ((x : X) (v : V) (rest : List ℕ) → Is x → bytes ≡ text x ++ rest → v ≡ value x → (y : Y) × Is' y
    × (bytes' ≡ text' y ++ rest) × (v ≡ value' y))
    → ((y : Y) (rest : List ℕ) → Is' y → May' rest → bytes' ≡ text' y ++ rest → (x : X) × Is x × May rest
    × (bytes ≡ text x ++ rest))
    → Reads text' Is' value' May' bytes' (option_map F o)
reads_as F None h to from = record {
  found = tt;
  only = λ y rest is may k. let p = from y rest is may k in
      h.only p.0 rest p.1 p.2 p.3;
}
reads_as F (Some r) h to from = record {
  found = let f = h.found in to f.0 (F r).0 (F r).1 f.1 f.2 f.3;
  only = λ y rest is may k. let p = from y rest is may k in h.only p.0 rest p.1 p.2 p.3;
}

-- what a piece is read as, where texts tell pieces apart
pub reads_value : {X V : Type 0} {text : X → List ℕ} {Is : X → Type 0} {value : X → V} {May : List ℕ → Type 0}
    {bytes : List ℕ} (v : V) (r : List ℕ) → Reads text Is value May bytes (Some (v, r))
    → ((x y : X) (a b : List ℕ) → Is x → Is y → May a → May b → text x ++ a ≡ text y ++ b → x ≡ y)
    → (x : X) (rest : List ℕ) → Is x → May rest → bytes ≡ text x ++ rest → v ≡ value x
reads_value {value = value} {May = May} v r h one x rest is may k =
    let f = h.found in
    let e : r ≡ rest = h.only x rest is may k in
    f.3 ∙ ap value (one f.0 x r rest f.1 is (subst May (sym e) may) may (sym f.2 ∙ k))
