-- Parentheses that pair.
use Rattle.std.proofs.Common.{◌≡◌, ◌≢◌, ℕ, ◌+◌, ◌-◌, ◌≤◌, ◌==◌, ◌↔◌, Bool, true, false, List, [], ◌∷◌, ◌++◌, length, take, refl, sym, ◌∙◌, ap, subst, arith}
use Rattle.std.proofs.lemmas.Bool.Decides.{nat_tests}
use Rattle.std.proofs.lemmas.List.{append-nil}
use Rattle.std.specs.Bool.{MatchBool}
use Rattle.smarts_words.specs.Prims.{IsBalancedIn}

equal_is : (a b : ℕ) → a ≡ b → (a == b) ≡ true
equal_is a b e = grind (arith, nat_tests)

differ_is : (a b : ℕ) → a ≢ b → (a == b) ≡ false
differ_is a b e = grind (arith, nat_tests)

at_true : (b : Bool) (P Q : Type 0) → b ≡ true → P ↔ MatchBool b P Q
at_true true P Q e = (λ p. p, λ p. p)
at_true false P Q e = absurd (cc)

at_false : (b : Bool) (P Q : Type 0) → b ≡ false → Q ↔ MatchBool b P Q
at_false true P Q e = absurd (cc)
at_false false P Q e = (λ p. p, λ p. p)

close_both : (b n : ℕ) (more : List ℕ) → b ≡ 41 → ((1 ≤ n) × IsBalancedIn (n - 1) more) ↔ IsBalancedIn n (b ∷ more)
close_both b n more e =
    let outer = at_false (b == 40) (IsBalancedIn (n + 1) more)
    (MatchBool (b == 41) ((1 ≤ n) × IsBalancedIn (n - 1) more) (IsBalancedIn n more))
    (differ_is b 40 (λ k. omega arith)) in
    let inner = at_true (b == 41) ((1 ≤ n) × IsBalancedIn (n - 1) more) (IsBalancedIn n more) (equal_is b 41 e) in
    (λ p. outer.0 (inner.0 p), λ p. inner.1 (outer.1 p))

-- a `)` where none is depth
pub close_none : (b n : ℕ) (more : List ℕ) → b ≡ 41 → n ≡ 0 → IsBalancedIn n (b ∷ more) → ⊥
close_none b n more e z h = let k = (close_both b n more e).1 h in let l = k.0 in omega arith

-- what was read of a text, and how many parentheses are depth after it
pub record IsOpen (front : List ℕ) (depth : ℕ) : Type 0 where
  pub closes : (more : List ℕ) → IsBalancedIn depth more → IsBalancedIn 0 (front ++ more)

-- the text of a part, and what follows it, in the bytes that are left
pub record IsLeft (bytes left : List ℕ) (depth : ℕ) : Type 0 where
  pub text_of : (text rest : List ℕ) → IsBalancedIn 0 text → bytes ≡ text ++ 41 ∷ rest → (more : List ℕ)
      × IsBalancedIn depth more × (left ≡ more ++ 41 ∷ rest)

pub left_all : (bytes : List ℕ) → IsLeft bytes bytes 0
left_all bytes = record { text_of = λ text rest h e. (text, h, e) }

heads : (a b : ℕ) (r s : List ℕ) → a ∷ r ≡ b ∷ s → (a ≡ b) × (r ≡ s)
heads a b r s e = (cc, cc)

left_step : (b depth next : ℕ) (after more rest : List ℕ)
    → ((m : List ℕ) → IsBalancedIn next m ↔ IsBalancedIn depth (b ∷ m)) → (b ≡ 41 → 1 ≤ depth) → IsBalancedIn depth more
    → b ∷ after ≡ more ++ 41 ∷ rest
    → (m : List ℕ) × IsBalancedIn next m × (after ≡ m ++ 41 ∷ rest)
left_step b depth next after [] rest step closes h e = absurd (let l = closes (heads b 41 after rest e).0 in
    omega arith)
left_step b depth next after (x ∷ xs) rest step closes h e =
    let k = heads b x after (xs ++ 41 ∷ rest) e in
    (xs, (step xs).1 (subst (λ (v : ℕ). IsBalancedIn depth (v ∷ xs)) (sym k.0) h), k.1)

pub left_more : (bytes left after : List ℕ) (b depth next : ℕ) → left ≡ b ∷ after
    → ((m : List ℕ) → IsBalancedIn next m ↔ IsBalancedIn depth (b ∷ m)) → (b ≡ 41 → 1 ≤ depth) → IsLeft bytes left depth
    → IsLeft bytes after next
left_more bytes left after b depth next front step closes h = record {
  text_of = λ text rest k e. let p = h.text_of text rest k e in left_step b depth next after p.0 rest step closes p.1
      (sym front ∙ p.2);
}

last_step : (b depth : ℕ) (after more rest : List ℕ) → b ≡ 41 → depth ≡ 0 → IsBalancedIn depth more → b ∷ after ≡ more
    ++ 41 ∷ rest → after ≡ rest
last_step b depth after [] rest eb eo h e = (heads b 41 after rest e).1
last_step b depth after (x ∷ xs) rest eb eo h e = let k = heads b x after (xs ++ 41 ∷ rest) e in
    absurd (close_none x depth xs (sym k.0 ∙ eb) eo h)

pub left_last : (bytes left after : List ℕ) (b depth : ℕ) → left ≡ b ∷ after → b ≡ 41 → depth ≡ 0
    → IsLeft bytes left depth → (text rest : List ℕ) → IsBalancedIn 0 text → bytes ≡ text ++ 41 ∷ rest → after ≡ rest
left_last bytes left after b depth front eb eo h text rest k e = let p = h.text_of text rest k e in
    last_step b depth after p.0 rest eb eo p.1 (sym front ∙ p.2)

pub front_take : (xs rest bytes : List ℕ) (n : ℕ) → bytes ≡ xs ++ rest → length xs ≡ n → take n bytes ≡ xs
front_take xs rest bytes n e l = ap (λ v. take v bytes) (sym l) ∙ ap (λ v. take (length xs) v) e ∙ take_front xs rest
  where
    take_front : (xs rest : List ℕ) → take (length xs) (xs ++ rest) ≡ xs
    take_front [] rest = refl
    take_front (x ∷ xs) rest = ap (λ v. x ∷ v) (take_front xs rest)

pub closed_part : (bytes left after xs : List ℕ) (b depth n : ℕ) → bytes ≡ xs ++ left → length xs ≡ n → IsOpen xs depth
    → left ≡ b ∷ after → b ≡ 41 → depth ≡ 0
    → IsBalancedIn 0 (take n bytes) × (bytes ≡ take n bytes ++ 41 ∷ after)
closed_part bytes left after xs b depth n e l front first eb ed =
    let t = front_take xs left bytes n e l in (
      subst (λ (v : List ℕ). IsBalancedIn 0 v) (append-nil xs ∙ sym t) (front.closes [] ed),
      e ∙ ap (λ v. xs ++ v) (first ∙ ap (λ v. v ∷ after) eb) ∙ ap (λ v. v ++ 41 ∷ after) (sym t),
    )
