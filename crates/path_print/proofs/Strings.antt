-- Strings of paths that go on by one atom.
use Rattle.std.proofs.Common.{ℕ, ◌+◌, ◌-◌, ◌≤◌, ◌≡◌, List, [], ◌∷◌, ◌++◌, length, get_or, take, reverse, refl, sym, ap, ◌∙◌, arith}
use Rattle.std.specs.Prelude.{Option, None, Some, option_map, option_and_then}
use Rattle.std.proofs.Math.Seq.{take-length}
use Rattle.std.proofs.lemmas.List.{reverse-append, take_more}
use Rattle.path_print.specs.Path.{View, string_of}
use Rattle.path_print.specs.Texts.{TextTerm, longer_if}
use Rattle.path_print.proofs.Options.{and_then_some, map_some}

-- what a step adds at the end
abbrev pub tail_of : Option ℕ → Option (ℕ × ℕ) → Option (List ℕ)
tail_of byte label = option_and_then (λ b. option_map (λ l. b ∷ l.0 ∷ l.1 ∷ []) label) byte

abbrev pub joined : Option (List ℕ) → Option (List ℕ) → Option (List ℕ)
joined r e = option_and_then (λ s. option_map (λ u. s ++ u) e) r

first_step : (o : Option (ℕ × ℕ)) (p : Option ℕ) (q : Option (ℕ × ℕ))
    → option_and_then (λ l. option_and_then (λ b. option_and_then (λ s. Some (l.0 ∷ l.1 ∷ b ∷ s))
    (option_map (λ l. l.0 ∷ l.1 ∷ []) q)) p) o ≡ joined (option_map (λ l. l.0 ∷ l.1 ∷ []) o) (tail_of p q)
first_step None p q = refl
first_step (Some l) None q = refl
first_step (Some l) (Some b) None = refl
first_step (Some l) (Some b) (Some m) = refl

later_step : (o : Option (ℕ × ℕ)) (p : Option ℕ) (r e : Option (List ℕ))
    → option_and_then (λ l. option_and_then (λ b. option_and_then (λ s. Some (l.0 ∷ l.1 ∷ b ∷ s)) (joined r e)) p) o
    ≡ joined (option_and_then (λ l. option_and_then (λ b. option_and_then (λ s. Some (l.0 ∷ l.1 ∷ b ∷ s)) r) p) o) e
later_step None p r e = refl
later_step (Some l) None r e = refl
later_step (Some l) (Some b) None e = refl
later_step (Some l) (Some b) (Some s) None = refl
later_step (Some l) (Some b) (Some s) (Some u) = refl

-- the string of a path that goes on to one more atom
pub string-push : (v : View) (front : List ℕ) (x y : ℕ) → string_of v ((front ++ x ∷ []) ++ y ∷ [])
    ≡ joined (string_of v (front ++ x ∷ [])) (tail_of (v.byte x y) (v.label y))
string-push v [] x y = first_step (v.label x) (v.byte x y) (v.label y)
string-push v (z ∷ []) x y = ap (λ r. option_and_then
    (λ l. option_and_then (λ b. option_and_then (λ s. Some (l.0 ∷ l.1 ∷ b ∷ s)) r) (v.byte z x)) (v.label z))
    (string-push v [] x y) ∙ later_step (v.label z) (v.byte z x) (string_of v (x ∷ []))
    (tail_of (v.byte x y) (v.label y))
string-push v (z ∷ w ∷ ws) x y = ap (λ r. option_and_then
    (λ l. option_and_then (λ b. option_and_then (λ s. Some (l.0 ∷ l.1 ∷ b ∷ s)) r) (v.byte z w)) (v.label z))
    (string-push v (w ∷ ws) x y) ∙ later_step (v.label z) (v.byte z w) (string_of v (w ∷ ws ++ x ∷ []))
    (tail_of (v.byte x y) (v.label y))

pub three_steps : (o : Option (ℕ × ℕ)) (p : Option ℕ) (r : Option (List ℕ)) (l : ℕ × ℕ) (b : ℕ) (s : List ℕ)
    → o ≡ Some l → p ≡ Some b → r ≡ Some s → option_and_then
    (λ l. option_and_then (λ b. option_and_then (λ s. Some (l.0 ∷ l.1 ∷ b ∷ s)) r) p) o ≡ Some (l.0 ∷ l.1 ∷ b ∷ s)
three_steps o p r l b s ho hp hr = rw (ho, hp, hr)

-- a path with a string begins with paths that have strings
pub string_prefix : (v : View) (front : List ℕ) (x : ℕ) (ys s : List ℕ) → string_of v ((front ++ x ∷ []) ++ ys) ≡ Some s
    → (r : List ℕ) × (string_of v (front ++ x ∷ []) ≡ Some r)
string_prefix v [] x [] s h = (s, h)
string_prefix v [] x (y ∷ ys) s h =
    let q = and_then_some _ (v.label x) s h in
    (q.0.0 ∷ q.0.1 ∷ [], ap (option_map (λ l. l.0 ∷ l.1 ∷ [])) q.1)
string_prefix v (z ∷ []) x ys s h =
    let q = and_then_some _ (v.label z) s h in
    let b = and_then_some _ (v.byte z x) s q.2 in
    let t = and_then_some _ (string_of v (x ∷ ys)) s b.2 in
    let r = string_prefix v [] x ys t.0 t.1 in
    (q.0.0 ∷ q.0.1 ∷ b.0 ∷ r.0, three_steps (v.label z) (v.byte z x) (string_of v (x ∷ [])) q.0 b.0 r.0 q.1 b.1 r.1)
string_prefix v (z ∷ w ∷ ws) x ys s h =
    let q = and_then_some _ (v.label z) s h in
    let b = and_then_some _ (v.byte z w) s q.2 in
    let t = and_then_some _ (string_of v ((w ∷ ws ++ x ∷ []) ++ ys)) s b.2 in
    let r = string_prefix v (w ∷ ws) x ys t.0 t.1 in (
      q.0.0 ∷ q.0.1 ∷ b.0 ∷ r.0,
      three_steps (v.label z) (v.byte z w)
          (string_of v (w ∷ ws ++ x ∷ [])) q.0 b.0 r.0 q.1 b.1 r.1,
    )

-- a path and more with a string: the step after the path is by a bond with a byte
pub step_byte : (v : View) (front : List ℕ) (x y : ℕ) (ys s : List ℕ)
    → string_of v (((front ++ x ∷ []) ++ y ∷ []) ++ ys) ≡ Some s → (b : ℕ) × (v.byte x y ≡ Some b)
step_byte v front x y ys s h =
    let r = string_prefix v (front ++ x ∷ []) y ys s h in
    let j = and_then_some _ (string_of v (front ++ x ∷ [])) r.0 (sym (string-push v front x y) ∙ r.1) in
    let t = map_some _ (tail_of (v.byte x y) (v.label y)) r.0 j.2 in
    let b = and_then_some _ (v.byte x y) t.0 t.1 in
    (b.0, b.1)

-- ---- texts

there_longer_if : (o : Option TextTerm) (b : ℕ) (q : Option (ℕ × ℕ))
    → option_map (λ t. t.back) (longer_if o b q) ≡ joined (option_map (λ t. t.there) o) (tail_of (Some b) q)
there_longer_if None b q = refl
there_longer_if (Some t) b None = refl
there_longer_if (Some t) b (Some l) = refl

back_longer_if : (o : Option TextTerm) (b : ℕ) (q : Option (ℕ × ℕ))
    → option_map (λ t. t.there) (longer_if o b q) ≡ option_and_then
    (λ l. option_and_then (λ c. option_and_then (λ s. Some (l.0 ∷ l.1 ∷ c ∷ s)) (option_map (λ t. t.back) o)) (Some b))
    q
back_longer_if None b None = refl
back_longer_if None b (Some l) = refl
back_longer_if (Some t) b None = refl
back_longer_if (Some t) b (Some l) = refl

-- the text of a path, and that of the path that goes on and is turned
pub there_longer : (v : View) (front : List ℕ) (x y b : ℕ) (o : Option TextTerm)
    → option_map (λ t. t.there) o ≡ string_of v (front ++ x ∷ []) → v.byte x y ≡ Some b
    → option_map (λ t. t.back) (longer_if o b (v.label y)) ≡ string_of v ((front ++ x ∷ []) ++ y ∷ [])
there_longer v front x y b o is byte =
    there_longer_if o b (v.label y) ∙ ap (λ r. joined r (tail_of (Some b) (v.label y))) is
    ∙ ap (λ c. joined (string_of v (front ++ x ∷ [])) (tail_of c (v.label y))) (sym byte)
    ∙ sym (string-push v front x y)

pub back_longer : (v : View) (front : List ℕ) (x y b : ℕ) (o : Option TextTerm)
    → option_map (λ t. t.back) o ≡ string_of v (reverse (front ++ x ∷ [])) → v.byte y x ≡ Some b
    → option_map (λ t. t.there) (longer_if o b (v.label y)) ≡ string_of v (y ∷ reverse (front ++ x ∷ []))
back_longer v front x y b o is byte =
    let turn : reverse (front ++ x ∷ []) ≡ x ∷ reverse front = reverse-append front (x ∷ []) in
    let is' : option_map (λ t. t.back) o ≡ string_of v (x ∷ reverse front) = is ∙ ap (string_of v) turn in
    back_longer_if o b (v.label y)
    ∙ ap (λ r. option_and_then (λ l. option_and_then (λ c. option_and_then (λ s. Some (l.0 ∷ l.1 ∷ c ∷ s)) r) (Some b))
    (v.label y)) is'
    ∙ ap (λ c. option_and_then (λ l. option_and_then
    (λ c. option_and_then (λ s. Some (l.0 ∷ l.1 ∷ c ∷ s)) (string_of v (x ∷ reverse front))) c) (v.label y))
    (sym byte)
    ∙ sym (ap (λ zs. string_of v (y ∷ zs)) turn)

-- the front and the last of a list
pub split_last : (xs : List ℕ) → 1 ≤ length xs → xs ≡ take (length xs - 1) xs ++ get_or xs (length xs - 1) 0 ∷ []
split_last xs some =
    let e : length xs - 1 + 1 ≡ length xs = omega arith in
    sym (take-length xs) ∙ ap (λ n. take n xs) (sym e) ∙ take_more xs (length xs - 1) 0 (omega arith)
