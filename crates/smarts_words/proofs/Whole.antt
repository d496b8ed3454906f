-- What is in brackets does not depend on what stands after the bracket.
use Rattle.std.proofs.Common.{◌≡◌, ◌≢◌, ℕ, Bool, true, false, List, [], ◌∷◌, ◌++◌, refl, sym, ◌∙◌, ap, subst, arith, append_assoc}
use Rattle.std.specs.List.{AllByRecursion}
use Rattle.smiles_words.specs.Atom.{IsDigit, ChiralClass, th, al, sp, tb, oh, class_bytes}
use Rattle.smarts_words.specs.Prims.{NoDigit, StandsAlone, IsWhole, Signs, run, amount, FollowsSigns, Turn, one, two, numbered, Stereo, turn_text, mark_text, stereo_text, IsTurn, IsLongest, Prim, any, aromatic, aliphatic, element, lower, atomic, counted, charge, mass, part, stereo, prim_text, IsPrim, FollowsPrim, word_of, part_of}
use Rattle.smarts_words.specs.Expression.{Joining, Operand, Expression}
use Rattle.smarts_words.specs.Expression as expression
use Rattle.smarts_words.specs.Bracket.{IsExpression}

tails : (a b : ℕ) (r s : List ℕ) → a ∷ r ≡ b ∷ s → r ≡ s
tails a b r s e = cc

heads : (a b : ℕ) (r s : List ℕ) → a ∷ r ≡ b ∷ s → a ≡ b
heads a b r s e = cc

-- bytes without `]` that stand at the front stand before it
before_end : (xs ys s more : List ℕ) → AllByRecursion (λ b. b ≢ 93) ys → xs ++ 93 ∷ s ≡ ys ++ more → (rest : List ℕ)
    × (xs ≡ ys ++ rest)
before_end xs [] s more none h = (xs, refl)
before_end [] (y ∷ ys) s more none h = absurd (none.0 (sym (heads 93 y s (ys ++ more) h)))
before_end (x ∷ xs) (y ∷ ys) s more none h =
    let p = before_end xs ys s more none.1 (tails x y (xs ++ 93 ∷ s) (ys ++ more) h) in
    (p.0, ap (λ v. v ∷ xs) (heads x y (xs ++ 93 ∷ s) (ys ++ more) h) ∙ ap (λ v. y ∷ v) p.1)

all_append : (xs ys : List ℕ) → AllByRecursion (λ b. b ≢ 93) xs → AllByRecursion (λ b. b ≢ 93) ys
    → AllByRecursion (λ b. b ≢ 93) (xs ++ ys)
all_append [] ys h k = k
all_append (x ∷ xs) ys h k = (h.0, all_append xs ys h.1 k)

digits_none : (ds : List ℕ) → AllByRecursion IsDigit ds → AllByRecursion (λ b. b ≢ 93) ds
digits_none [] h = tt
digits_none (d ∷ ds) h = (λ e. let high = h.0.1 in omega arith, digits_none ds h.1)

class_none : (k : ChiralClass) → AllByRecursion (λ b. b ≢ 93) (class_bytes k)
class_none th = (λ e. omega arith, (λ e. omega arith, tt))
class_none al = (λ e. omega arith, (λ e. omega arith, tt))
class_none sp = (λ e. omega arith, (λ e. omega arith, tt))
class_none tb = (λ e. omega arith, (λ e. omega arith, tt))
class_none oh = (λ e. omega arith, (λ e. omega arith, tt))

mark_none : (m : Bool) → AllByRecursion (λ b. b ≢ 93) (mark_text m)
mark_none true = (λ e. omega arith, tt)
mark_none false = tt

turn_none : (t : Turn) → IsTurn t → AllByRecursion (λ b. b ≢ 93) (turn_text t)
turn_none one is = (λ e. omega arith, tt)
turn_none two is = (λ e. omega arith, (λ e. omega arith, tt))
turn_none (numbered k ds) is = (λ e. omega arith, all_append (class_bytes k) ds (class_none k) (digits_none ds is.2))

longest_end : (x : Stereo) (w r s : List ℕ) → IsLongest x (w ++ 93 ∷ r) → IsLongest x (w ++ 93 ∷ s)
longest_end x w r s longest y more is e =
    let p = before_end (stereo_text x ++ w) (stereo_text y) s more (all_append (turn_text y.turn) (mark_text y.unsure)
    (turn_none y.turn is) (mark_none y.unsure)) (append_assoc (stereo_text x) w (93 ∷ s) ∙ e) in
    longest y (p.0 ++ 93 ∷ r) is (sym (append_assoc (stereo_text x) w (93 ∷ r)) ∙ ap (λ v. v ++ 93 ∷ r) p.1
    ∙ append_assoc (stereo_text y) p.0 (93 ∷ r))

alone_end : (a : ℕ) (w r s : List ℕ) → StandsAlone a (w ++ 93 ∷ r) → StandsAlone a (w ++ 93 ∷ s)
alone_end a [] r s h = h
alone_end a (x ∷ xs) r s h = h

digit_end : (w r s : List ℕ) → NoDigit (w ++ 93 ∷ r) → NoDigit (w ++ 93 ∷ s)
digit_end [] r s h = h
digit_end (x ∷ xs) r s h = h

whole_end : (text w r s : List ℕ) → IsWhole text (w ++ 93 ∷ r) → IsWhole text (w ++ 93 ∷ s)
whole_end [] w r s h = tt
whole_end (a ∷ []) w r s h = alone_end a w r s h
whole_end (a ∷ b ∷ bs) w r s h = tt

byte_end : (b : ℕ) (w r s : List ℕ) → ((more : List ℕ) → w ++ 93 ∷ r ≢ b ∷ more) → (more : List ℕ) → w ++ 93 ∷ s ≢ b
    ∷ more
byte_end b [] r s h more e = h r (ap (λ v. v ∷ r) (heads 93 b s more e))
byte_end b (x ∷ xs) r s h more e = h (xs ++ 93 ∷ r) (ap (λ v. v ∷ (xs ++ 93 ∷ r)) (heads x b (xs ++ 93 ∷ s) more e))

signs_end : (x : Signs) (w r s : List ℕ) → FollowsSigns x (w ++ 93 ∷ r) → FollowsSigns x (w ++ 93 ∷ s)
signs_end (run sign n) w r s h = (byte_end _ w r s h.0, digit_end w r s h.1)
signs_end (amount sign ds) w r s h = digit_end w r s h

pub follows_end : (p : Prim) (w r s : List ℕ) → FollowsPrim p (w ++ 93 ∷ r) → FollowsPrim p (w ++ 93 ∷ s)
follows_end any w r s h = tt
follows_end aromatic w r s h = alone_end 97 w r s h
follows_end aliphatic w r s h = alone_end 65 w r s h
follows_end (element n) w r s h = whole_end _ w r s h
follows_end (lower l) w r s h = whole_end _ w r s h
follows_end (atomic ds) w r s h = digit_end w r s h
follows_end (counted l []) w r s h = (alone_end _ w r s h.0, digit_end w r s h.1)
follows_end (counted l (d ∷ ds)) w r s h = digit_end w r s h
follows_end (charge x) w r s h = signs_end x w r s h
follows_end (mass ds) w r s h = digit_end w r s h
follows_end (part text) w r s h = tt
follows_end (stereo x) w r s h = longest_end x w r s h

moved : (p : Prim) (w c r s : List ℕ) → FollowsPrim p (w ++ (c ++ 93 ∷ r)) → FollowsPrim p (w ++ (c ++ 93 ∷ s))
moved p w c r s h =
    subst (λ (v : List ℕ). FollowsPrim p v) (append_assoc w c (93 ∷ s))
    (follows_end p (w ++ c) r s (subst (λ (v : List ℕ). FollowsPrim p v) (sym (append_assoc w c (93 ∷ r))) h))

more_moved : (xs : List (Joining × Operand Prim)) (c r s : List ℕ) → expression.AreMore prim_text IsPrim FollowsPrim
    word_of part_of xs (c ++ 93 ∷ r) → expression.AreMore prim_text IsPrim FollowsPrim word_of part_of xs (c ++ 93 ∷ s)
more_moved [] c r s h = tt
more_moved (x ∷ xs) c r s h = (
  h.0,
  moved x.1.prim (expression.more_text prim_text IsPrim FollowsPrim word_of part_of xs) c r s h.1,
  more_moved xs c r s h.2,
)

-- an expression before the end of a bracket, whatever stands after it
pub expression_moved : (e : Expression Prim) (c r s : List ℕ) → IsExpression e (c ++ 93 ∷ r)
    → IsExpression e (c ++ 93 ∷ s)
expression_moved e c r s h = (
  h.0,
  moved e.first.prim (expression.more_text prim_text IsPrim FollowsPrim word_of part_of
      e.more) c r s h.1,
  more_moved e.more c r s h.2,
)
