-- Cursors by their places.
use Rattle.std.proofs.Common.{◌≡◌, ◌++◌, ◌<◌, ◌∙◌, ap, arith, drop, drop-cons, get_or, length, List, [], ◌∷◌, map, refl, set, subst, suc, sym, take, zero, ℕ}
use Rattle.std.proofs.lemmas.List.{map-append, take-append-drop}
use Rattle.std.specs.List.{remove}
use Rattle.session_acts.specs.Cursors.{Cursor, IsNoName}
use Rattle.session_run.specs.Walks.{AreSized, IsNamedAt, cursor_of, cursors_of}
use Rattle.session_run.specs.declared.cursors.Cursor as rust

-- the cursor at a place stands among the others
pub split : (items : List rust.Cursor) (i : ℕ) (x : rust.Cursor) → i < length items → x ≡ get_or items i x
    → cursors_of items ≡ cursors_of (take i items) ++ cursor_of x ∷ cursors_of (drop (suc i) items)
split items i x lt e =
    ap (λ (l : List rust.Cursor). map cursor_of l) (sym (take-append-drop i items)
    ∙ ap (λ (l : List rust.Cursor). take i items ++ l)
    (drop-cons items i x lt ∙ ap (λ (y : rust.Cursor). y ∷ drop (suc i) items) (sym e)))
    ∙ map-append cursor_of (take i items) (x ∷ drop (suc i) items)

pub removed : (items : List rust.Cursor) (i : ℕ)
    → cursors_of (remove items i) ≡ cursors_of (take i items) ++ cursors_of (drop (suc i) items)
removed items i = map-append cursor_of (take i items) (drop (suc i) items)

sized-left : (size : ℕ) (xs ys : List rust.Cursor) → AreSized size (xs ++ ys) → AreSized size xs
sized-left size [] ys h = tt
sized-left size (x ∷ xs) ys h = (h.0, sized-left size xs ys h.1)

sized-both : (size : ℕ) (xs ys : List rust.Cursor) → AreSized size xs → AreSized size ys → AreSized size (xs ++ ys)
sized-both size [] ys h k = k
sized-both size (x ∷ xs) ys h k = (h.0, sized-both size xs ys h.1 k)

pub sized-removed : (size : ℕ) (items : List rust.Cursor) (i : ℕ) → AreSized size items → AreSized size (remove items i)
sized-removed size items i h =
    let whole : take i items ++ drop i items ≡ items = take-append-drop i items in
    let parts : AreSized size (take i items ++ drop i items) = subst (AreSized size) (sym whole) h in
    sized-both size (take i items) (drop (suc i) items) (sized-left size (take i items) (drop i items) parts)
    (behind items i h)
  where
    behind : (l : List rust.Cursor) (j : ℕ) → AreSized size l → AreSized size (drop (suc j) l)
    behind [] j h = tt
    behind (x ∷ xs) zero h = h.1
    behind (x ∷ xs) (suc j) h = behind xs j h.1

-- one more
pub sized-pushed : (size : ℕ) (items : List rust.Cursor) (x : rust.Cursor) → x.walk.search.size ≡ size
    → AreSized size items → AreSized size (items ++ x ∷ [])
sized-pushed size items x e h = sized-both size items (x ∷ []) h (e, tt)

pub pushed : (items : List rust.Cursor) (x : rust.Cursor)
    → cursors_of (items ++ x ∷ []) ≡ cursors_of items ++ cursor_of x ∷ []
pushed items x = map-append cursor_of items (x ∷ [])

-- a name that a place has is no free one
pub not_none : (items : List rust.Cursor) (name : List ℕ) (place : ℕ) → IsNamedAt items name place
    → ¬ IsNoName (cursors_of items) name
not_none [] name place n h = absurd (omega (arith, n.within))
not_none (x ∷ xs) name zero n h = h zero (cursor_of x) (omega arith) (n.named x)
not_none (x ∷ xs) name (suc k) n h =
    not_none xs name k (record { within = omega (arith, n.within); named = λ any. n.named any })
    (λ j any lt. h (suc j) any (omega (arith, lt)))

-- the cursor at a place is another
pub set-split : (items : List rust.Cursor) (i : ℕ) (x : rust.Cursor) → i < length items
    → cursors_of (set items i x) ≡ cursors_of (take i items) ++ cursor_of x ∷ cursors_of (drop (suc i) items)
set-split [] i x lt = absurd (omega (arith, lt))
set-split (y ∷ ys) zero x lt = refl
set-split (y ∷ ys) (suc i) x lt = ap (λ (l : List Cursor). cursor_of y ∷ l) (set-split ys i x (omega (arith, lt)))

pub sized-at : (size : ℕ) (items : List rust.Cursor) (i : ℕ) (any : rust.Cursor) → i < length items
    → AreSized size items
    → (get_or items i any).walk.search.size ≡ size
sized-at size [] i any lt h = absurd (omega (arith, lt))
sized-at size (y ∷ ys) zero any lt h = h.0
sized-at size (y ∷ ys) (suc i) any lt h = sized-at size ys i any (omega (arith, lt)) h.1

pub sized-set : (size : ℕ) (items : List rust.Cursor) (i : ℕ) (x : rust.Cursor) → x.walk.search.size ≡ size
    → AreSized size items → AreSized size (set items i x)
sized-set size [] i x e h = tt
sized-set size (y ∷ ys) zero x e h = (e, h.1)
sized-set size (y ∷ ys) (suc i) x e h = (h.0, sized-set size ys i x e h.1)
