-- Parts of primitives that are the same where they are spelled alike.
use Rattle.std.proofs.Common.{◌≡◌, ◌≢◌, ℕ, zero, suc, ◌+◌, ◌-◌, ◌≤◌, Bool, true, false, not, cond, ◌==◌, ◌&&◌, List, [], ◌∷◌, ◌++◌, length, get_or, replicate, refl, sym, ◌∙◌, ap, subst, arith, append_assoc}
use Rattle.std.proofs.lemmas.Bool.{false≢true}
use Rattle.std.specs.Bool.{MatchBool}
use Rattle.std.specs.List.{list_all}
use Rattle.chem_core.specs.Element.{symbols}
use Rattle.smiles_words.specs.Atom.{Lower, lower_b, lower_c, lower_n, lower_o, lower_p, lower_s, lower_se, lower_as, lower_bytes, ChiralClass, th, al, sp, tb, oh, class_bytes, Sign, plus, minus, sign_byte}
use Rattle.smiles_words.proofs.Symbols.{same_element, element_not_lower}
use Rattle.smarts_words.specs.Prims.{NoDigit, Signs, run, amount, signs_text, AreSigns, FollowsSigns, IsBalancedIn, Turn, one, two, numbered, Stereo, turn_text, mark_text, stereo_text, IsTurn, IsLongest, Prim, any, aromatic, aliphatic, element, lower, prim_text, IsPrim}
use Rattle.smarts_words.specs.Follow.{IsBare}
use Rattle.smarts_words.proofs.Numbers.{same_digits, same_run, no_digit}
use Rattle.smarts_words.proofs.Signs.{digits_no_sign}
use Rattle.smarts_words.proofs.Letters.{length-symbols}
use Rattle.smarts_words.proofs.Shapes.{passes_at}

heads : (a b : ℕ) (r s : List ℕ) → a ∷ r ≡ b ∷ s → a ≡ b
heads a b r s e = cc

tails : (a b : ℕ) (r s : List ℕ) → a ∷ r ≡ b ∷ s → r ≡ s
tails a b r s e = cc

-- fronts of one length
pub same_front : (xs ys r s : List ℕ) → length xs ≤ length ys → length ys ≤ length xs → xs ++ r ≡ ys ++ s → xs ≡ ys
same_front [] [] r s l m h = refl
same_front [] (y ∷ ys) r s l m h = absurd (omega arith)
same_front (x ∷ xs) [] r s l m h = absurd (omega arith)
same_front (x ∷ xs) (y ∷ ys) r s l m h =
    ap (λ v. v ∷ xs) (heads x y (xs ++ r) (ys ++ s) h)
    ∙ ap (λ v. y ∷ v) (same_front xs ys r s (omega arith) (omega arith) (tails x y (xs ++ r) (ys ++ s) h))

-- texts of which each parenthesis pairs, before a `)`
part_by : (a b : Bool) (n : ℕ) (xs ys r s : List ℕ)
    → MatchBool a (IsBalancedIn (n + 1) xs) (MatchBool b ((1 ≤ n) × IsBalancedIn (n - 1) xs) (IsBalancedIn n xs))
    → MatchBool a (IsBalancedIn (n + 1) ys) (MatchBool b ((1 ≤ n) × IsBalancedIn (n - 1) ys) (IsBalancedIn n ys))
    → ((m : ℕ) → IsBalancedIn m xs → IsBalancedIn m ys → (xs ≡ ys) × (r ≡ s)) → (xs ≡ ys) × (r ≡ s)
part_by true b n xs ys r s h k rec = rec (n + 1) h k
part_by false true n xs ys r s h k rec = rec (n - 1) h.1 k.1
part_by false false n xs ys r s h k rec = rec n h k

closed_by : (a : Bool) (n : ℕ) (ys : List ℕ) → (41 == 40) ≡ a → n ≡ 0 → IsBalancedIn n (41 ∷ ys) → ⊥
closed_by true n ys e z h = absurd (false≢true e)
closed_by false n ys e z h = let low : 1 ≤ n = h.0 in omega arith

pub same_part : (n : ℕ) (xs ys r s : List ℕ) → IsBalancedIn n xs → IsBalancedIn n ys → xs ++ 41 ∷ r ≡ ys ++ 41 ∷ s
    → (xs ≡ ys) × (r ≡ s)
same_part n [] [] r s h k e = (refl, tails 41 41 r s e)
same_part n [] (y ∷ ys) r s h k e =
    absurd (closed_by false n ys refl h (subst (λ (v : ℕ). IsBalancedIn n (v ∷ ys))
    (sym (heads 41 y r (ys ++ 41 ∷ s) e)) k))
same_part n (x ∷ xs) [] r s h k e =
    absurd (closed_by false n xs refl k (subst (λ (v : ℕ). IsBalancedIn n (v ∷ xs)) (heads x 41 (xs ++ 41 ∷ r) s e) h))
same_part n (x ∷ xs) (y ∷ ys) r s h k e =
    let first = heads x y (xs ++ 41 ∷ r) (ys ++ 41 ∷ s) e in
    let rest = tails x y (xs ++ 41 ∷ r) (ys ++ 41 ∷ s) e in
    let p = part_by (x == 40) (x == 41) n xs ys r s h (subst (λ (v : ℕ). IsBalancedIn n (v ∷ ys)) (sym first) k)
    (λ m a b. same_part m xs ys r s a b rest) in
    (ap (λ v. v ∷ xs) first ∙ ap (λ v. y ∷ v) p.0, p.1)

-- charges
same_sign : (s t : Sign) → sign_byte s ≡ sign_byte t → s ≡ t
same_sign plus plus e = refl
same_sign plus minus e = absurd (omega arith)
same_sign minus plus e = absurd (omega arith)
same_sign minus minus e = refl

run_number : (s t : Sign) (n : ℕ) (ds r q : List ℕ) → AreSigns (run s n) → AreSigns (amount t ds)
    → FollowsSigns (run s n) r → replicate n (sign_byte s) ++ r ≡ sign_byte t ∷ (ds ++ q) → ⊥
run_number s t zero ds r q is js f e = absurd (let low = is.0 in omega arith)
run_number s t (suc zero) [] r q is js f e = absurd (let l = js.0 in omega arith)
run_number s t (suc zero) (d ∷ ds) r q is js f e =
    no_digit d (ds ++ q) r js.2.0 f.1 (tails (sign_byte s) (sign_byte t) r (d ∷ (ds ++ q)) e)
run_number s t (suc (suc n)) ds r q is js f e = digits_no_sign s ds q (replicate n (sign_byte s) ++ r) js
    (sym (tails (sign_byte s) (sign_byte t) _ (ds ++ q) e))

pub same_charge : (x y : Signs) (r s : List ℕ) → AreSigns x → AreSigns y → FollowsSigns x r → FollowsSigns y s
    → signs_text x ++ r ≡ signs_text y ++ s → x ≡ y
same_charge (run a zero) (run b n) r s is js f g e = absurd (let low = is.0 in omega arith)
same_charge (run a (suc m)) (run b zero) r s is js f g e = absurd (let low = js.0 in omega arith)
same_charge (run a (suc m)) (run b (suc n)) r s is js f g e =
    let sign = same_sign a b (heads (sign_byte a) (sign_byte b) _ _ e) in
    let spelled : replicate (suc m) (sign_byte b) ++ r ≡ replicate (suc n) (sign_byte b) ++ s =
    ap (λ v. replicate (suc m) (sign_byte v) ++ r) (sym sign) ∙ e in
    let ends : (more : List ℕ) → r ≢ sign_byte b ∷ more = subst (λ (v : Sign). (more : List ℕ) → r ≢ sign_byte v ∷ more)
    sign f.0 in
    let count = (same_run (suc m) (suc n) (sign_byte b) r s ends g.0 spelled).0 in
    ap (λ v. run v (suc m)) sign ∙ ap (λ v. run b v) count
same_charge (run a m) (amount b ds) r s is js f g e = absurd (run_number a b m ds r s is js f e)
same_charge (amount a ds) (run b n) r s is js f g e = absurd (run_number b a n ds s r js is g (sym e))
same_charge (amount a ds) (amount b es) r s is js f g e =
    let sign = same_sign a b (heads (sign_byte a) (sign_byte b) (ds ++ r) (es ++ s) e) in
    let digits = (same_digits ds es r s is.2 js.2 f g (tails (sign_byte a) (sign_byte b) (ds ++ r) (es ++ s) e)).0 in
    ap (λ v. amount v ds) sign ∙ ap (λ v. amount b v) digits

-- configurations
same_mark : (m n : Bool) → mark_text m ≡ mark_text n → m ≡ n
same_mark true true e = refl
same_mark true false e = absurd (cc)
same_mark false true e = absurd (cc)
same_mark false false e = refl

mark_no_digit : (m : Bool) → NoDigit (mark_text m)
mark_no_digit true = λ d. let high = d.1 in omega arith
mark_no_digit false = tt

class_back : List ℕ → ChiralClass
class_back [] = th
class_back (a ∷ []) = th
class_back (a ∷ b ∷ r) = cond (a == 84) (cond (b == 72) th tb) (cond (a == 65) al (cond (a == 83) sp oh))

class_is : (k : ChiralClass) (r : List ℕ) → class_back (class_bytes k ++ r) ≡ k
unfolding class_back
class_is th r = refl
class_is al r = refl
class_is sp r = refl
class_is tb r = refl
class_is oh r = refl

drop_two : List ℕ → List ℕ
drop_two [] = []
drop_two (a ∷ []) = []
drop_two (a ∷ b ∷ v) = v

dropped : (k : ChiralClass) (v : List ℕ) → drop_two (class_bytes k ++ v) ≡ v
unfolding drop_two
dropped th v = refl
dropped al v = refl
dropped sp v = refl
dropped tb v = refl
dropped oh v = refl

class_rest : (k j : ChiralClass) (r s : List ℕ) → class_bytes k ++ r ≡ class_bytes j ++ s → (k ≡ j) × (r ≡ s)
class_rest k j r s e = (
  sym (class_is k r) ∙ ap class_back e ∙ class_is j s,
  sym (dropped k r) ∙ ap drop_two e
      ∙ dropped j s,
)

class_long : (k : ChiralClass) (ds : List ℕ) (m n : Bool) (c : ℕ) → mark_text m ≡ class_bytes k ++ (ds ++ mark_text n)
    → ⊥
class_long th ds true n c e = absurd (let k = heads 63 84 _ _ e in omega arith)
class_long al ds true n c e = absurd (let k = heads 63 65 _ _ e in omega arith)
class_long sp ds true n c e = absurd (let k = heads 63 83 _ _ e in omega arith)
class_long tb ds true n c e = absurd (let k = heads 63 84 _ _ e in omega arith)
class_long oh ds true n c e = absurd (let k = heads 63 79 _ _ e in omega arith)
class_long th ds false n c e = absurd (cc)
class_long al ds false n c e = absurd (cc)
class_long sp ds false n c e = absurd (cc)
class_long tb ds false n c e = absurd (cc)
class_long oh ds false n c e = absurd (cc)

mark_no_at : (m : Bool) (r : List ℕ) → mark_text m ≡ 64 ∷ r → ⊥
mark_no_at true r e = absurd (let k = heads 63 64 [] r e in omega arith)
mark_no_at false r e = absurd (cc)

class_no_at : (k : ChiralClass) (r s : List ℕ) → 64 ∷ r ≡ class_bytes k ++ s → ⊥
class_no_at th r s e = absurd (let k = heads 64 84 _ _ e in omega arith)
class_no_at al r s e = absurd (let k = heads 64 65 _ _ e in omega arith)
class_no_at sp r s e = absurd (let k = heads 64 83 _ _ e in omega arith)
class_no_at tb r s e = absurd (let k = heads 64 84 _ _ e in omega arith)
class_no_at oh r s e = absurd (let k = heads 64 79 _ _ e in omega arith)

same_turn : (t u : Turn) (m n : Bool) → IsTurn t → IsTurn u → turn_text t ++ mark_text m ≡ turn_text u ++ mark_text n
    → (t ≡ u) × (m ≡ n)
same_turn one one m n is js e = (refl, same_mark m n (tails 64 64 _ _ e))
same_turn one two m n is js e = absurd (mark_no_at m (mark_text n) (tails 64 64 _ _ e))
same_turn one (numbered k ds) m n is js e =
    absurd (class_long k ds m n 0 (tails 64 64 _ _ e ∙ append_assoc (class_bytes k) ds (mark_text n)))
same_turn two one m n is js e = absurd (mark_no_at n (mark_text m) (sym (tails 64 64 _ _ e)))
same_turn two two m n is js e = (refl, same_mark m n (tails 64 64 _ _ (tails 64 64 _ _ e)))
same_turn two (numbered k ds) m n is js e =
    absurd (class_no_at k (mark_text m) (ds ++ mark_text n) (tails 64 64 _ _ e
    ∙ append_assoc (class_bytes k) ds (mark_text n)))
same_turn (numbered k ds) one m n is js e =
    absurd (class_long k ds n m 0 (sym (tails 64 64 _ _ e) ∙ append_assoc (class_bytes k) ds (mark_text m)))
same_turn (numbered k ds) two m n is js e =
    absurd (class_no_at k (mark_text n) (ds ++ mark_text m) (sym (tails 64 64 _ _ e)
    ∙ append_assoc (class_bytes k) ds (mark_text m)))
same_turn (numbered k ds) (numbered j es) m n is js e =
    let p = class_rest k j (ds ++ mark_text m) (es ++ mark_text n) (sym (append_assoc (class_bytes k) ds (mark_text m))
    ∙ tails 64 64 _ _ e ∙ append_assoc (class_bytes j) es (mark_text n)) in
    let d = same_digits ds es (mark_text m) (mark_text n) is.2 js.2 (mark_no_digit m) (mark_no_digit n) p.1 in
    (ap (λ v. numbered v ds) p.0 ∙ ap (λ v. numbered j v) d.0, same_mark m n d.1)

pub same_stereo : (x y : Stereo) (r s : List ℕ) → IsTurn x.turn → IsTurn y.turn → IsLongest x r → IsLongest y s
    → stereo_text x ++ r ≡ stereo_text y ++ s → x ≡ y
same_stereo x y r s is js f g e =
    let text = same_front (stereo_text x) (stereo_text y) r s (g x r is (sym e)) (f y s js e) e in
    let p = same_turn x.turn y.turn x.unsure y.unsure is js text in
    stereo_by x.turn y.turn x.unsure y.unsure p.0 p.1
  where
    stereo_by : (t u : Turn) (m n : Bool) → t ≡ u → m ≡ n → (let v : Stereo = record { turn = t; unsure = m } in v)
        ≡ record { turn = u; unsure = n }
    stereo_by t u m n p q = cc

-- symbols
lower_back : List ℕ → Lower
lower_back [] = lower_b
lower_back (a ∷ []) = cond (a == 98) lower_b
    (cond (a == 99) lower_c (cond (a == 110) lower_n (cond (a == 111) lower_o (cond (a == 112) lower_p lower_s))))
lower_back (a ∷ b ∷ r) = cond (a == 115) lower_se lower_as

lower_is : (l : Lower) → lower_back (lower_bytes l) ≡ l
unfolding lower_back
lower_is lower_b = refl
lower_is lower_c = refl
lower_is lower_n = refl
lower_is lower_o = refl
lower_is lower_p = refl
lower_is lower_s = refl
lower_is lower_se = refl
lower_is lower_as = refl

single_test : List ℕ → Bool
single_test (x ∷ []) = not (x == 65) && not (x == 97)
single_test _ = true

none_single : list_all single_test symbols ≡ true
unfolding symbols single_test
none_single = refl

not_single : (text : List ℕ) (a : ℕ) → single_test (a ∷ []) ≡ false → text ≡ a ∷ [] → single_test text ≡ true → ⊥
not_single text a f e h = absurd (false≢true (sym f ∙ sym (ap single_test e) ∙ h))

test_65 : single_test (65 ∷ []) ≡ false
unfolding single_test
test_65 = refl

test_97 : single_test (97 ∷ []) ≡ false
unfolding single_test
test_97 = refl

element_passes : (n : ℕ) → n ≤ 103 → single_test (get_or symbols n []) ≡ true
element_passes n h = let l = length-symbols in passes_at single_test symbols n none_single (omega arith)

star_text : get_or symbols 0 [] ≡ 42 ∷ []
unfolding symbols
star_text = refl

element_no_star : (n : ℕ) → 2 ≤ n → n ≤ 103 → get_or symbols n [] ≡ 42 ∷ [] → ⊥
element_no_star n low high e = let k = same_element n 0 high (omega arith) (e ∙ sym star_text) in omega arith

lower_no : (l : Lower) (a : ℕ) → lower_bytes l ≡ a ∷ [] → (a ≢ 42) × (a ≢ 97) × (a ≢ 65)
lower_no lower_b a e = let k = heads 98 a [] [] e in (λ h. omega arith, λ h. omega arith, λ h. omega arith)
lower_no lower_c a e = let k = heads 99 a [] [] e in (λ h. omega arith, λ h. omega arith, λ h. omega arith)
lower_no lower_n a e = let k = heads 110 a [] [] e in (λ h. omega arith, λ h. omega arith, λ h. omega arith)
lower_no lower_o a e = let k = heads 111 a [] [] e in (λ h. omega arith, λ h. omega arith, λ h. omega arith)
lower_no lower_p a e = let k = heads 112 a [] [] e in (λ h. omega arith, λ h. omega arith, λ h. omega arith)
lower_no lower_s a e = let k = heads 115 a [] [] e in (λ h. omega arith, λ h. omega arith, λ h. omega arith)
lower_no lower_se a e = absurd (cc)
lower_no lower_as a e = absurd (cc)

pub same_bare : (x y : Prim) → IsPrim x → IsPrim y → IsBare x → IsBare y → prim_text x ≡ prim_text y → x ≡ y
same_bare any any is js bx by e = refl
same_bare any aromatic is js bx by e = absurd (let k = heads 42 97 [] [] e in omega arith)
same_bare any aliphatic is js bx by e = absurd (let k = heads 42 65 [] [] e in omega arith)
same_bare any (element n) is js bx by e = absurd (element_no_star n js.0 js.1 (sym e))
same_bare any (lower l) is js bx by e = absurd ((lower_no l 42 (sym e)).0 refl)
same_bare aromatic any is js bx by e = absurd (let k = heads 97 42 [] [] e in omega arith)
same_bare aromatic aromatic is js bx by e = refl
same_bare aromatic aliphatic is js bx by e = absurd (let k = heads 97 65 [] [] e in omega arith)
same_bare aromatic (element n) is js bx by e =
    absurd (not_single (get_or symbols n []) 97 test_97 (sym e) (element_passes n js.1))
same_bare aromatic (lower l) is js bx by e = absurd ((lower_no l 97 (sym e)).1 refl)
same_bare aliphatic any is js bx by e = absurd (let k = heads 65 42 [] [] e in omega arith)
same_bare aliphatic aromatic is js bx by e = absurd (let k = heads 65 97 [] [] e in omega arith)
same_bare aliphatic aliphatic is js bx by e = refl
same_bare aliphatic (element n) is js bx by e =
    absurd (not_single (get_or symbols n []) 65 test_65 (sym e) (element_passes n js.1))
same_bare aliphatic (lower l) is js bx by e = absurd ((lower_no l 65 (sym e)).2 refl)
same_bare (element n) any is js bx by e = absurd (element_no_star n is.0 is.1 e)
same_bare (element n) aromatic is js bx by e =
    absurd (not_single (get_or symbols n []) 97 test_97 e (element_passes n is.1))
same_bare (element n) aliphatic is js bx by e =
    absurd (not_single (get_or symbols n []) 65 test_65 e (element_passes n is.1))
same_bare (element n) (element m) is js bx by e = ap (λ v. element v) (same_element n m is.1 js.1 e)
same_bare (element n) (lower l) is js bx by e = absurd (element_not_lower n l [] [] is.1 (ap (λ v. v ++ []) e))
same_bare (lower l) any is js bx by e = absurd ((lower_no l 42 e).0 refl)
same_bare (lower l) aromatic is js bx by e = absurd ((lower_no l 97 e).1 refl)
same_bare (lower l) aliphatic is js bx by e = absurd ((lower_no l 65 e).2 refl)
same_bare (lower l) (element n) is js bx by e = absurd (element_not_lower n l [] [] js.1 (ap (λ v. v ++ []) (sym e)))
same_bare (lower l) (lower m) is js bx by e = ap (λ v. lower v) (sym (lower_is l) ∙ ap lower_back e ∙ lower_is m)
same_bare any _ is js bx by e = absurd by
same_bare aromatic _ is js bx by e = absurd by
same_bare aliphatic _ is js bx by e = absurd by
same_bare (element n) _ is js bx by e = absurd by
same_bare (lower l) _ is js bx by e = absurd by
same_bare _ y is js bx by e = absurd bx
