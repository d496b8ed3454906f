-- What one seat's view says, where another view is written or a seat is made.
use Rattle.std.proofs.Common.{◌≡◌, ◌≢◌, ℕ, List, [], ◌∷◌, ◌++◌, set, ap, sym, ◌∙◌}
use mathlib.Core.Logic.{dite}
use mathlib.Core.Option.{some, some-injective}
use native.Mathlib.Decide.{ℕ_discrete}
use lib.ListN.{get_elem?}
use Rattle.atomic_table.proofs.Lists.{set_here, set_else, at_longer}
use Rattle.turn_gate.specs.declared.known.Known.{Known}
use Rattle.turn_gate.specs.Rules.{At}
use Rattle.turn_gate.proofs.Lists.{at_length}

module _ {A V E O : Type 0} where
  -- the seat's own view is written
  pub at_own : (l : List (Known V E O)) (id : ℕ) (m w : Known V E O) (f : Known V E O → A) (a : A)
      → get_elem? l id ≡ some m → f w ≡ a → At (set l id w) id f a
  at_own l id m w f a at is = (w, set_here l id w (at_length l id m at), is)

  -- another seat's view is written
  pub at_other : (l : List (Known V E O)) (id k : ℕ) (w : Known V E O) (f : Known V E O → A) (a : A)
      → k ≢ id → At l k f a → At (set l id w) k f a
  at_other l id k w f a ne t = (t.0, set_else l id k w ne ∙ t.1, t.2)

  -- a view is written that says the same
  pub at_still : (l : List (Known V E O)) (id k : ℕ) (m w : Known V E O) (f : Known V E O → A) (a : A)
      → get_elem? l id ≡ some m → f w ≡ f m → At l k f a → At (set l id w) k f a
  at_still l id k m w f a at same t = dite (ℕ_discrete k id)
      (λ e.
      let here : m ≡ t.0 = some-injective m t.0 (sym at ∙ (ap (λ (j : ℕ). get_elem? l j) (sym e) ∙ t.1)) in (
        w,
        ap (λ (j : ℕ). get_elem? (set l id w) j) e ∙ set_here l id w (at_length l id m at),
        same ∙ (ap f here ∙ t.2),
      ))
      (λ ne. at_other l id k w f a ne t)

  -- a seat is made
  pub at_more : (l : List (Known V E O)) (k : ℕ) (w : Known V E O) (f : Known V E O → A) (a : A)
      → At l k f a → At (l ++ w ∷ []) k f a
  at_more l k w f a t = (t.0, at_longer l (w ∷ []) k t.0 t.1, t.2)

  -- what the seat's view says is what its At says
  pub at_is : (l : List (Known V E O)) (k : ℕ) (m : Known V E O) (f : Known V E O → A) (a : A)
      → get_elem? l k ≡ some m → At l k f a → f m ≡ a
  at_is l k m f a at t = ap f (some-injective m t.0 (sym at ∙ t.1)) ∙ t.2

  -- a view is written that says the same, and a seat is made
  pub at_grown : (l : List (Known V E O)) (id k : ℕ) (m w u : Known V E O) (f : Known V E O → A) (a : A)
      → get_elem? l id ≡ some m → f w ≡ f m → At l k f a → At (set l id w ++ u ∷ []) k f a
  at_grown l id k m w u f a at same t = at_more (set l id w) k u f a (at_still l id k m w f a at same t)
