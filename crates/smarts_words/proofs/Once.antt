-- Bytes begin with one primitive.
use Rattle.std.proofs.Common.{◌≡◌, ◌≢◌, ℕ, ◌≤◌, List, [], ◌∷◌, ◌++◌, ◌⊎◌, inl, inr, sym, ◌∙◌, ap, subst, arith, append_assoc}
use Rattle.smarts_words.specs.declared.word.Letter.{Letter}
use Rattle.smarts_words.specs.Prims.{Prim, atomic, counted, charge, mass, part, stereo, prim_text, IsPrim, FollowsPrim, letter_byte, AreSymbol, StandsAlone}
use Rattle.smarts_words.specs.Follow.{IsBare, IsLettered}
use Rattle.smarts_words.proofs.Numbers.{same_digits}
use Rattle.smarts_words.proofs.Shapes.{Shape, one, two, letter, shape_of, one_alone, symbol_first, bare_no_letter, one_letter_byte}
use Rattle.smarts_words.proofs.Lettered.{alone_at, counted_two, count_last}
use Rattle.smarts_words.proofs.FirstBytes.{KindAt, at_stereo, at_atomic, at_charge, at_mass, at_part, at_letter, first_of, kind_at, is_atomic, is_stereo, is_part, is_charge, is_mass}
use Rattle.smarts_words.proofs.Pairs.{same_part, same_charge, same_stereo, same_bare}

heads : (a b : ℕ) (r s : List ℕ) → a ∷ r ≡ b ∷ s → (a ≡ b) × (r ≡ s)
heads a b r s e = (cc, cc)

fronts : (t u a b r s : List ℕ) → t ++ r ≡ u ++ s → t ≡ a → u ≡ b → a ++ r ≡ b ++ s
fronts t u a b r s h e f = sym (ap (λ v. v ++ r) e) ∙ h ∙ ap (λ v. v ++ s) f

one_then_two : (x y : Prim) (a c d : ℕ) (r s : List ℕ) → IsBare x → prim_text x ≡ a ∷ [] → prim_text y ≡ c ∷ d ∷ []
    → AreSymbol c d → FollowsPrim x r → prim_text x ++ r ≡ prim_text y ++ s → ⊥
one_then_two x y a c d r s bare t u symbol follows h =
    let k = heads a c r (d ∷ s) (fronts (prim_text x) (prim_text y) (a ∷ []) (c ∷ d ∷ []) r s h t u) in
    elim (one_alone x a r bare t follows) [
      | inl star ↦ symbol_first c d symbol (sym k.0 ∙ star)
      | inr alone ↦ alone_at c d s r (subst (λ (v : ℕ). StandsAlone v r) k.0 alone) k.1 symbol
    ]

one_then_letter : (x y : Prim) (a : ℕ) (l : Letter) (ds r s : List ℕ) → IsPrim x → IsBare x → prim_text x ≡ a ∷ []
    → y ≡ counted l ds → prim_text x ++ r ≡ prim_text y ++ s → ⊥
one_then_letter x y a l ds r s is bare t u h =
    let k = heads a (letter_byte l) r (ds ++ s) (fronts (prim_text x) (prim_text y) (a ∷ []) (letter_byte l ∷ ds) r s h
    t (ap prim_text u)) in
    bare_no_letter x l is bare (t ∙ ap (λ v. v ∷ []) k.0)

two_then_letter : (x y : Prim) (a b : ℕ) (l : Letter) (ds r s : List ℕ) → IsPrim y → prim_text x ≡ a ∷ b ∷ []
    → AreSymbol a b → y ≡ counted l ds → FollowsPrim y s → prim_text x ++ r ≡ prim_text y ++ s → ⊥
two_then_letter x y a b l ds r s js t symbol u g h =
    counted_two l ds a b r s (subst IsPrim u js) (subst (λ (v : Prim). FollowsPrim v s) u g) symbol
    (fronts (prim_text x) (prim_text y) (a ∷ b ∷ []) (letter_byte l ∷ ds) r s h t (ap prim_text u))

lettered_by : (x y : Prim) (r s : List ℕ) → Shape x → Shape y → IsPrim x → IsPrim y → FollowsPrim x r → FollowsPrim y s
    → prim_text x ++ r ≡ prim_text y ++ s → x ≡ y
lettered_by x y r s (one a bx t) (one c by u) is js f g h =
    let k = heads a c r s (fronts (prim_text x) (prim_text y) (a ∷ []) (c ∷ []) r s h t u) in
    same_bare x y is js bx by (t ∙ ap (λ v. v ∷ []) k.0 ∙ sym u)
lettered_by x y r s (one a bx t) (two c d by u symbol) is js f g h =
    absurd (one_then_two x y a c d r s bx t u symbol f h)
lettered_by x y r s (one a bx t) (letter l ds u) is js f g h = absurd (one_then_letter x y a l ds r s is bx t u h)
lettered_by x y r s (two a b bx t symbol) (one c by u) is js f g h =
    absurd (one_then_two y x c a b s r by u t symbol g (sym h))
lettered_by x y r s (two a b bx t symbol) (two c d by u other) is js f g h =
    let k = heads a c (b ∷ r) (d ∷ s) (fronts (prim_text x) (prim_text y) (a ∷ b ∷ []) (c ∷ d ∷ []) r s h t u) in
    let j = heads b d r s k.1 in
    same_bare x y is js bx by (t ∙ ap (λ v. v ∷ b ∷ []) k.0 ∙ ap (λ v. c ∷ v ∷ []) j.0 ∙ sym u)
lettered_by x y r s (two a b bx t symbol) (letter l ds u) is js f g h =
    absurd (two_then_letter x y a b l ds r s js t symbol u g h)
lettered_by x y r s (letter l ds t) (one c by u) is js f g h = absurd (one_then_letter y x c l ds s r js by u t (sym h))
lettered_by x y r s (letter l ds t) (two c d by u symbol) is js f g h =
    absurd (two_then_letter y x c d l ds s r is u symbol t f (sym h))
lettered_by x y r s (letter l ds t) (letter m es u) is js f g h =
    let k = heads (letter_byte l) (letter_byte m) (ds ++ r) (es ++ s) (fronts (prim_text x) (prim_text y) (letter_byte l
    ∷ ds) (letter_byte m ∷ es) r s h (ap prim_text t) (ap prim_text u)) in
    let ix = subst IsPrim t is in
    let iy = subst IsPrim u js in
    let d = same_digits ds es r s ix.1 iy.1 (count_last l ds r (subst (λ (v : Prim). FollowsPrim v r) t f))
    (count_last m es s (subst (λ (v : Prim). FollowsPrim v s) u g)) k.1 in
    t ∙ ap (λ v. counted v ds) (one_letter_byte l m k.0) ∙ ap (λ v. counted m v) d.0 ∙ sym u

is_lettered : (y : Prim) (b : ℕ) → (b ≡ 42) ⊎ ((65 ≤ b) × (b ≢ 93)) → KindAt b y → IsLettered y
is_lettered y b h (at_stereo s e k) = absurd (grind arith)
is_lettered y b h (at_atomic ds e k) = absurd (grind arith)
is_lettered y b h (at_charge s e k) = absurd (grind arith)
is_lettered y b h (at_mass ds e k) = absurd (let low = k.0 in let high = k.1 in grind arith)
is_lettered y b h (at_part text e k) = absurd (grind arith)
is_lettered y b h (at_letter l k) = l

tail_of : (a b : ℕ) (r s : List ℕ) → a ∷ r ≡ b ∷ s → r ≡ s
tail_of a b r s e = cc

same_by : (x y : Prim) (r s : List ℕ) (b : ℕ) → IsPrim x → IsPrim y → FollowsPrim x r → FollowsPrim y s
    → prim_text x ++ r ≡ prim_text y ++ s → KindAt b x → KindAt b y → x ≡ y
same_by x y r s b is js f g h (at_stereo t e k) ky =
    let q = is_stereo y (subst (λ (v : ℕ). KindAt v y) k ky) in
    let z = same_stereo t q.0 r s (subst IsPrim e is) (subst IsPrim q.1 js) (subst (λ (v : Prim). FollowsPrim v r) e f)
    (subst (λ (v : Prim). FollowsPrim v s) q.1 g) (fronts (prim_text x) (prim_text y) _ _ r s h (ap prim_text e)
    (ap prim_text q.1)) in
    e ∙ ap (λ v. stereo v) z ∙ sym q.1
same_by x y r s b is js f g h (at_atomic ds e k) ky =
    let q = is_atomic y (subst (λ (v : ℕ). KindAt v y) k ky) in
    let ix = subst IsPrim e is in
    let iy = subst IsPrim q.1 js in
    let z = same_digits ds q.0 r s ix.2 iy.2 (subst (λ (v : Prim). FollowsPrim v r) e f)
    (subst (λ (v : Prim). FollowsPrim v s) q.1 g)
    (tail_of 35 35 (ds ++ r) (q.0 ++ s) (fronts (prim_text x) (prim_text y) (35 ∷ ds) (35 ∷ q.0) r s h (ap prim_text e)
    (ap prim_text q.1))) in
    e ∙ ap (λ v. atomic v) z.0 ∙ sym q.1
same_by x y r s b is js f g h (at_charge t e k) ky =
    let q = is_charge y b k ky in
    let z = same_charge t q.0 r s (subst IsPrim e is) (subst IsPrim q.1 js) (subst (λ (v : Prim). FollowsPrim v r) e f)
    (subst (λ (v : Prim). FollowsPrim v s) q.1 g) (fronts (prim_text x) (prim_text y) _ _ r s h (ap prim_text e)
    (ap prim_text q.1)) in
    e ∙ ap (λ v. charge v) z ∙ sym q.1
same_by x y r s b is js f g h (at_mass ds e k) ky =
    let q = is_mass y b k ky in
    let ix = subst IsPrim e is in
    let iy = subst IsPrim q.1 js in
    let z = same_digits ds q.0 r s ix.2 iy.2 (subst (λ (v : Prim). FollowsPrim v r) e f)
    (subst (λ (v : Prim). FollowsPrim v s) q.1 g) (fronts (prim_text x) (prim_text y) ds q.0 r s h (ap prim_text e)
    (ap prim_text q.1)) in
    e ∙ ap (λ v. mass v) z.0 ∙ sym q.1
same_by x y r s b is js f g h (at_part text e k) ky =
    let q = is_part y (subst (λ (v : ℕ). KindAt v y) k ky) in
    let spelled = fronts (prim_text x) (prim_text y) (prim_text (part text)) (prim_text (part q.0)) r s h
    (ap prim_text e) (ap prim_text q.1) in
    let inner = sym (append_assoc text (41 ∷ []) r) ∙ tail_of 40 40 _ _ (tail_of 36 36 _ _ spelled)
    ∙ append_assoc q.0 (41 ∷ []) s in
    let z = same_part 0 text q.0 r s (subst IsPrim e is) (subst IsPrim q.1 js) inner in
    e ∙ ap (λ v. part v) z.0 ∙ sym q.1
same_by x y r s b is js f g h (at_letter l k) ky =
    lettered_by x y r s (shape_of x is l) (shape_of y js (is_lettered y b k ky)) is js f g h

-- what is spelled alike is the same, where what follows may follow
pub one_prim : (x y : Prim) (r s : List ℕ) → IsPrim x → IsPrim y → FollowsPrim x r → FollowsPrim y s → prim_text x ++ r
    ≡ prim_text y ++ s → x ≡ y
one_prim x y r s is js f g h =
    let k = first_of x is in
    same_by x y r s k.byte is js f g h k.kind (kind_at y s (prim_text x ++ r) (k.more ++ r) k.byte js h
    (ap (λ v. v ++ r) k.spelled))
