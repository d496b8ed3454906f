-- Sessions that are made, and that forget their cursors and watches.
use Rattle.std.proofs.Common.{◌≡◌, ◌≤◌, ◌<◌, ◌++◌, ◌∙◌, ap, arith, get_or, length, List, [], ◌∷◌, map, refl, replicate, set, subst, suc, sym, zero, ℕ}
use Rattle.std.specs.List.{AllByRecursion}
use Rattle.session_acts.specs.Cursors.{Cursor}
use Rattle.session_acts.specs.Watching.{Standing, Watched, nothing_kept}
use Rattle.session_run.specs.Opened.{opened}
use Rattle.session_run.specs.Servable.{IsServable}
use Rattle.session_run.specs.Standings.{both, standing_of, watched_all}
use Rattle.session_run.specs.Walks.{AreSized, cursors_of}
use Rattle.session_run.specs.declared.respond.Responder.{Responder}
use Rattle.session_run.specs.declared.settings.Settings.{Settings}
use Rattle.drill_run.specs.Acts.{AllKept}
use Rattle.drill_run.specs.Talks.{IsSessionOf}
use Rattle.drill_run.specs.Views.{kept_in}

-- a session without cursors, whose settings are within the limits
pub session-new : (settings : Settings) (r : Responder) → IsServable settings → r.cursors.settings ≡ settings
    → opened r.cursors ≡ [] → IsSessionOf settings r
session-new settings r servable same none = (
  record {
    servable = subst IsServable (sym same) servable;
    sized = subst (AreSized r.cursors.settings.page) (sym none) tt;
  },
  same,
)

-- one that keeps nothing
pub keeps-none : (r : Responder) → opened r.cursors ≡ [] → r.watches.watches ≡ [] → standing_of r ≡ nothing_kept
keeps-none r e f =
    ap (λ (c : List Cursor). both c (watched_all r.watches.watches)) (ap cursors_of e)
    ∙ ap (λ (w : List Watched). both [] w) (ap watched_all f)

-- n sessions that keep nothing
pub record AreNew (settings : Settings) (n : ℕ) (xs : List Responder) : Type 0 where
  pub number : length xs ≡ n
  pub fit : AllByRecursion (IsSessionOf settings) xs
  pub none : kept_in xs ≡ replicate n nothing_kept

pub new-none : (settings : Settings) → AreNew settings 0 []
new-none settings = record { number = refl; fit = tt; none = refl }

length-more : (xs : List Responder) (r : Responder) (n : ℕ) → length xs ≡ n → length (xs ++ r ∷ []) ≡ suc n
length-more [] r n e = omega (arith, e)
length-more (x ∷ xs) r n e = let k = length-more xs r (length xs) refl in omega (arith, k, e)

fit-more : (settings : Settings) (xs : List Responder) (r : Responder) → AllByRecursion (IsSessionOf settings) xs
    → IsSessionOf settings r → AllByRecursion (IsSessionOf settings) (xs ++ r ∷ [])
fit-more settings [] r h k = (k, tt)
fit-more settings (x ∷ xs) r h k = (h.0, fit-more settings xs r h.1 k)

first-same : (j k : Standing) (js ks : AllKept) → j ∷ js ≡ k ∷ ks → j ≡ k
first-same j k js ks e = cc e

rest-same : (j k : Standing) (js ks : AllKept) → j ∷ js ≡ k ∷ ks → js ≡ ks
rest-same j k js ks e = cc e

none-more : (xs : List Responder) (r : Responder) (n : ℕ) → kept_in xs ≡ replicate n nothing_kept → length xs ≡ n
    → standing_of r ≡ nothing_kept → kept_in (xs ++ r ∷ []) ≡ replicate (suc n) nothing_kept
none-more [] r zero e l none = ap (λ (k : Standing). k ∷ []) none
none-more [] r (suc n) e l none = absurd (omega (arith, l))
none-more (x ∷ xs) r zero e l none = absurd (omega (arith, l))
none-more (x ∷ xs) r (suc n) e l none =
    ap (λ (k : Standing). k ∷ kept_in (xs ++ r ∷ [])) (first-same (standing_of x) nothing_kept _ _ e)
    ∙ ap (λ (l : AllKept). nothing_kept ∷ l)
    (none-more xs r n (rest-same (standing_of x) nothing_kept _ _ e) (omega (arith, l)) none)

pub new-more : (settings : Settings) (n : ℕ) (xs : List Responder) (r : Responder) → AreNew settings n xs
    → IsSessionOf settings r → standing_of r ≡ nothing_kept → AreNew settings (suc n) (xs ++ r ∷ [])
new-more settings n xs r h fit none = record {
  number = length-more xs r n h.number;
  fit = fit-more settings xs r h.fit fit;
  none = none-more xs r n h.none h.number none;
}

-- the first sessions keep nothing
abbrev pub AreForgotten : ℕ → List Responder → Type 0
AreForgotten zero xs = Unit {0}
AreForgotten (suc n) [] = Unit {0}
AreForgotten (suc n) (x ∷ xs) = (standing_of x ≡ nothing_kept) × AreForgotten n xs

pub forgotten-more : (n : ℕ) (xs : List Responder) (y : Responder) → n < length xs → AreForgotten n xs
    → standing_of y ≡ nothing_kept → AreForgotten (suc n) (set xs n y)
forgotten-more n [] y less h none = absurd (omega (arith, less))
forgotten-more zero (x ∷ xs) y less h none = (none, tt)
forgotten-more (suc n) (x ∷ xs) y less h none = (h.0, forgotten-more n xs y (omega (arith, less)) h.1 none)

pub forgotten-all : (n : ℕ) (xs : List Responder) → length xs ≤ n → AreForgotten n xs
    → kept_in xs ≡ map (λ _. nothing_kept) xs
forgotten-all n [] less h = refl
forgotten-all zero (x ∷ xs) less h = absurd (omega (arith, less))
forgotten-all (suc n) (x ∷ xs) less h =
    ap (λ (k : Standing). k ∷ kept_in xs) h.0
    ∙ ap (λ (l : AllKept). nothing_kept ∷ l) (forgotten-all n xs (omega (arith, less)) h.1)

pub same-none : {X Y : Type 0} (xs : List X) (ys : List Y) → length xs ≡ length ys
    → map (λ (x : X). nothing_kept) xs ≡ map (λ (y : Y). nothing_kept) ys
same-none [] [] e = refl
same-none [] (y ∷ ys) e = absurd (omega (arith, e))
same-none (x ∷ xs) [] e = absurd (omega (arith, e))
same-none (x ∷ xs) (y ∷ ys) e = ap (λ (l : AllKept). nothing_kept ∷ l) (same-none xs ys (omega (arith, e)))

pub set-all : {X : Type 0} (P : X → Type 0) (xs : List X) (i : ℕ) (y : X) → AllByRecursion P xs → P y
    → AllByRecursion P (set xs i y)
set-all P [] i y h p = tt
set-all P (x ∷ xs) zero y h p = (p, h.1)
set-all P (x ∷ xs) (suc i) y h p = (h.0, set-all P xs i y h.1 p)

pub get-all : {X : Type 0} (P : X → Type 0) (xs : List X) (i : ℕ) (x : X) → AllByRecursion P xs → i < length xs
    → x ≡ get_or xs i x → P x
get-all P [] i x h less e = absurd (omega (arith, less))
get-all P (z ∷ xs) zero x h less e = subst P (sym e) h.0
get-all P (z ∷ xs) (suc i) x h less e = get-all P xs i x h.1 (omega (arith, less)) e
