-- A text whose every line is ended, by its last byte.
use Rattle.std.proofs.Common.{◌≡◌, ℕ, zero, suc, ◌-◌, List, [], ◌∷◌, ◌++◌, length, refl, sym, ◌∙◌, ap, arith, ◌==◌, if◌then◌else◌, Bool, true, false, not, Some}
use Rattle.std.proofs.lemmas.Bool.{eqb-true}
use Rattle.std.specs.List.{slice_get}
use Rattle.std.proofs.lemmas.Option.{slice_get_within}
use Rattle.shell_lang.specs.Reply.{ended}

one_byte : (b : ℕ) (is_end : Bool) → (is_end ≡ true → b ≡ 10) →
    (if is_end then 10 ∷ [] else b ∷ 10 ∷ []) ≡ b ∷ (if not is_end then 10 ∷ [] else [])
one_byte b true is = let e : b ≡ 10 = is refl in cc
one_byte b false is = refl

ended_at : (text : List ℕ) (k b : ℕ) → length text ≡ suc k → slice_get text k ≡ Some b →
    ended text ≡ text ++ (if not (b == 10) then 10 ∷ [] else [])
ended_at [] k b l e = absurd (omega (arith, l))
ended_at (x ∷ []) zero b l e =
    let same : x ≡ b = cc in
    ap (λ (y : ℕ). ended (y ∷ [])) same
    ∙ (one_byte b (b == 10) (λ t. eqb-true b 10 t)
    ∙ ap (λ (y : ℕ). y ∷ (if not (b == 10) then 10 ∷ [] else [])) (sym same))
ended_at (x ∷ []) (suc k) b l e = absurd (omega (arith, l))
ended_at (x ∷ y ∷ ys) zero b l e = absurd (omega (arith, l))
ended_at (x ∷ y ∷ ys) (suc k) b l e = ap (λ (w : List ℕ). x ∷ w) (ended_at (y ∷ ys) k b (omega (arith, l)) e)

pub ended_by : (text : List ℕ) (b : ℕ) → Some b ≡ slice_get text (length text - 1) →
    ended text ≡ text ++ (if not (b == 10) then 10 ∷ [] else [])
ended_by text b e =
    let within = slice_get_within text (length text - 1) b (sym e) in
    ended_at text (length text - 1) b (omega arith) (sym e)
