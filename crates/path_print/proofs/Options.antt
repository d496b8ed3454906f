-- When a chain of optional steps gives a value.
use Rattle.std.proofs.Common.{ℕ, zero, suc, ◌≡◌, ◌⊎◌, inl, inr, Bool, true, false, cond, List, [], ◌∷◌, refl, sym, ap, ◌∙◌}
use Rattle.std.specs.Prelude.{Option, None, Some, option_map, option_and_then, find}
use Rattle.std.specs.List.{slice_get}
use Rattle.std.proofs.lemmas.Bool.{false≢true}
use Rattle.std.proofs.lemmas.Option.{none-some, same_Some}
use Rattle.path_print.specs.Implied.{either, alike}

pub and_then_some : {A B : Type 0} (f : A → Option B) (o : Option A) (y : B) → option_and_then f o ≡ Some y
    → (x : A) × (o ≡ Some x) × (f x ≡ Some y)
and_then_some f None y h = absurd (none-some y h)
and_then_some f (Some x) y h = (x, refl, h)

pub map_some : {A B : Type 0} (f : A → B) (o : Option A) (y : B) → option_map f o ≡ Some y
    → (x : A) × (o ≡ Some x) × (f x ≡ y)
map_some f None y h = absurd (none-some y h)
map_some f (Some x) y h = (x, refl, same_Some (f x) y h)

pub either_some : {A : Type 0} (o p : Option A) (x : A) → either o p ≡ Some x → (o ≡ Some x) ⊎ (p ≡ Some x)
either_some None p x h = inr h
either_some (Some y) p x h = inl h

-- what both have is what the first has
pub alike_some : {A : Type 0} (eq : A → A → Bool) (o p : Option A) (x : A) → alike eq o p ≡ Some x
    → (o ≡ Some x) × ((y : A) × (p ≡ Some y) × (eq x y ≡ true))
alike_some eq None p x h = absurd (none-some x h)
alike_some eq (Some y) None x h = absurd (none-some x h)
alike_some eq (Some y) (Some z) x h = at (eq y z) refl h
  where
    at : (b : Bool) → eq y z ≡ b → cond b (Some y) None ≡ Some x → (Some y ≡ Some x)
        × ((w : _) × (Some z ≡ Some w) × (eq x w ≡ true))
    at true e g = (g, (z, refl, ap (λ w. eq w z) (sym (same_Some y x g)) ∙ e))
    at false e g = absurd (none-some x g)

-- what is found stands in the list, and passes
pub find_there : {A : Type 0} (p : A → Bool) (xs : List A) (x : A) → find p xs ≡ Some x
    → (i : ℕ) × (slice_get xs i ≡ Some x) × (p x ≡ true)
find_there p [] x h = absurd (none-some x h)
find_there p (y ∷ ys) x h = at (p y) refl h (find_there p ys x)
  where
    at : (b : Bool) → p y ≡ b → cond b (Some y) (find p ys) ≡ Some x
        → (find p ys ≡ Some x → (i : ℕ) × (slice_get ys i ≡ Some x) × (p x ≡ true))
        → (i : ℕ) × (slice_get (y ∷ ys) i ≡ Some x) × (p x ≡ true)
    at true e g more = (0, g, ap p (sym (same_Some y x g)) ∙ e)
    at false e g more = let r = more g in (suc r.0, r.1, r.2)

-- where one passes, one is found
pub find_some : {A : Type 0} (p : A → Bool) (xs : List A) (i : ℕ) (x : A) → slice_get xs i ≡ Some x → p x ≡ true
    → (y : A) × (find p xs ≡ Some y)
find_some p [] i x h e = absurd (none-some x h)
find_some p (y ∷ ys) zero x h e = at (p y) refl
  where
    at : (b : Bool) → p y ≡ b → (z : _) × (cond b (Some y) (find p ys) ≡ Some z)
    at true q = (y, refl)
    at false q = absurd (false≢true (sym q ∙ ap p (same_Some y x h) ∙ e))
find_some p (y ∷ ys) (suc i) x h e = at (p y) (find_some p ys i x h e)
  where
    at : (b : Bool) → ((z : _) × (find p ys ≡ Some z)) → (z : _) × (cond b (Some y) (find p ys) ≡ Some z)
    at true more = (y, refl)
    at false more = more
