-- The longest configuration that stands somewhere.
use Rattle.std.proofs.Common.{◌≡◌, ◌≢◌, ℕ, ◌+◌, ◌≤◌, Bool, true, false, List, [], ◌∷◌, ◌++◌, length, refl, sym, ◌∙◌, ap, subst, arith, append_assoc}
use Rattle.std.proofs.lemmas.List.{length-append}
use Rattle.smiles_words.specs.Atom.{ChiralClass, th, al, sp, tb, oh, class_bytes}
use Rattle.smarts_words.specs.Prims.{NoDigit, Turn, one, two, numbered, mark_text, stereo_text, IsTurn, IsLongest}
use Rattle.smarts_words.specs.Follow.{TurnEnds}

tails : (a b : ℕ) (r s : List ℕ) → a ∷ r ≡ b ∷ s → r ≡ s
tails a b r s e = cc

abbrev NoMark : Bool → List ℕ → Type 0
NoMark unsure rest = unsure ≡ false → (more : List ℕ) → rest ≢ 63 ∷ more

-- a mark where one stands
marks : (m n : Bool) (rest more : List ℕ) → NoMark m rest → mark_text m ++ rest ≡ mark_text n ++ more
    → length (mark_text n) ≤ length (mark_text m)
marks true true rest more h e = omega arith
marks true false rest more h e = omega arith
marks false true rest more h e = absurd (h refl more e)
marks false false rest more h e = omega arith

mark_short : (m : Bool) → length (mark_text m) ≤ 1
mark_short true = omega arith
mark_short false = omega arith

class_length : (k : ChiralClass) → length (class_bytes k) ≡ 2
class_length th = refl
class_length al = refl
class_length sp = refl
class_length tb = refl
class_length oh = refl

heads_differ : (a b : ℕ) (r s : List ℕ) → a ≢ b → a ∷ r ≡ b ∷ s → ⊥
heads_differ a b r s n e = let k : a ≡ b = cc in n k

class_no_turn : (k : ChiralClass) (r s : List ℕ) → 64 ∷ r ≡ class_bytes k ++ s → ⊥
class_no_turn th r s e = absurd (heads_differ 64 84 r _ (omega arith) e)
class_no_turn al r s e = absurd (heads_differ 64 65 r _ (omega arith) e)
class_no_turn sp r s e = absurd (heads_differ 64 83 r _ (omega arith) e)
class_no_turn tb r s e = absurd (heads_differ 64 84 r _ (omega arith) e)
class_no_turn oh r s e = absurd (heads_differ 64 79 r _ (omega arith) e)

after_classes : (xs ys r s : List ℕ) → length xs ≡ length ys → xs ++ r ≡ ys ++ s → r ≡ s
after_classes [] [] r s l h = h
after_classes [] (y ∷ ys) r s l h = absurd (omega arith)
after_classes (x ∷ xs) [] r s l h = absurd (omega arith)
after_classes (x ∷ xs) (y ∷ ys) r s l h = after_classes xs ys r s (omega arith) (tails x y (xs ++ r) (ys ++ s) h)

numbered_length : (k : ChiralClass) (ds : List ℕ) (m : Bool)
    → length (stereo_text (record { turn = numbered k ds; unsure = m })) ≡ 3 + length ds + length (mark_text m)
numbered_length k ds m =
    let a = length-append (64 ∷ (class_bytes k ++ ds)) (mark_text m) in
    let b = length-append (class_bytes k) ds in
    let c = class_length k in
    omega arith

numbered_then : (k : ChiralClass) (ds : List ℕ) (m : Bool) (rest : List ℕ)
    → stereo_text (record { turn = numbered k ds; unsure = m }) ++ rest ≡ 64
    ∷ (class_bytes k ++ (ds ++ (mark_text m ++ rest)))
numbered_then k ds m rest = ap (λ (v : List ℕ). 64 ∷ v) (append_assoc (class_bytes k ++ ds) (mark_text m) rest
    ∙ append_assoc (class_bytes k) ds (mark_text m ++ rest))

digits_longest : (ds es : List ℕ) (m n : Bool) (rest more : List ℕ) (k j : ChiralClass) → IsTurn (numbered k ds)
    → IsTurn (numbered j es) → TurnEnds (numbered k ds) (mark_text m ++ rest) → NoMark m rest
    → ds ++ (mark_text m ++ rest) ≡ es ++ (mark_text n ++ more) → length es + length (mark_text n) ≤ length ds
    + length (mark_text m)
digits_longest [] es m n rest more k j is js ends none e = absurd (let l = is.0 in omega arith)
digits_longest (d ∷ ds) [] m n rest more k j is js ends none e = absurd (let l = js.0 in omega arith)
digits_longest (d ∷ []) (f ∷ []) m n rest more k j is js ends none e = let l =
    marks m n rest more none (tails d f _ _ e) in omega arith
digits_longest (d ∷ []) (f ∷ g ∷ []) m n rest more k j is js ends none e =
    absurd (subst NoDigit (tails d f _ _ e) ends js.2.1.0)
digits_longest (d ∷ []) (f ∷ g ∷ h ∷ hs) m n rest more k j is js ends none e = absurd (let l = js.1 in omega arith)
digits_longest (d ∷ c ∷ []) (f ∷ []) m n rest more k j is js ends none e = let l = mark_short n in omega arith
digits_longest (d ∷ c ∷ []) (f ∷ g ∷ []) m n rest more k j is js ends none e = let l =
    marks m n rest more none (tails c g _ _ (tails d f _ _ e)) in omega arith
digits_longest (d ∷ c ∷ []) (f ∷ g ∷ h ∷ hs) m n rest more k j is js ends none e = absurd (let l = js.1 in omega arith)
digits_longest (d ∷ c ∷ b ∷ bs) es m n rest more k j is js ends none e = absurd (let l = is.1 in omega arith)

class_digit : (ds : List ℕ) (k j : ChiralClass) (m n : Bool) (rest more : List ℕ) → IsTurn (numbered j ds)
    → TurnEnds one (mark_text m ++ rest) → mark_text m ++ rest ≡ class_bytes j ++ (ds ++ (mark_text n ++ more)) → ⊥
class_digit [] k j m n rest more js ends e = absurd (let l = js.0 in omega arith)
class_digit (d ∷ ds) k j m n rest more js ends e = ends.1 j d (ds ++ (mark_text n ++ more)) js.2.0 e

longest_by : (t u : Turn) (m n : Bool) (rest more : List ℕ) → IsTurn t → IsTurn u → TurnEnds t (mark_text m ++ rest)
    → NoMark m rest
    → stereo_text (record { turn = t; unsure = m }) ++ rest ≡ stereo_text (record { turn = u; unsure = n }) ++ more
    → length (stereo_text (record { turn = u; unsure = n })) ≤ length (stereo_text (record { turn = t; unsure = m }))
longest_by one one m n rest more is js ends none e = let l = marks m n rest more none (tails 64 64 _ _ e) in omega arith
longest_by one two m n rest more is js ends none e = absurd (ends.0 (mark_text n ++ more) (tails 64 64 _ _ e))
longest_by one (numbered j es) m n rest more is js ends none e =
    absurd (class_digit es j j m n rest more js ends (tails 64 64 _ _ (e ∙ numbered_then j es n more)))
longest_by two one m n rest more is js ends none e = let l = mark_short n in omega arith
longest_by two two m n rest more is js ends none e = let l =
    marks m n rest more none (tails 64 64 _ _ (tails 64 64 _ _ e)) in omega arith
longest_by two (numbered j es) m n rest more is js ends none e =
    absurd (class_no_turn j (mark_text m ++ rest) (es ++ (mark_text n ++ more))
    (tails 64 64 _ _ (e ∙ numbered_then j es n more)))
longest_by (numbered k ds) one m n rest more is js ends none e =
    let l = mark_short n in
    let a = numbered_length k ds m in
    let b = is.0 in
    omega arith
longest_by (numbered k ds) two m n rest more is js ends none e =
    let l = mark_short n in
    let a = numbered_length k ds m in
    let b = is.0 in
    omega arith
longest_by (numbered k ds) (numbered j es) m n rest more is js ends none e =
    let f = tails 64 64 _ _ (sym (numbered_then k ds m rest) ∙ e ∙ numbered_then j es n more) in
    let same = after_classes (class_bytes k) (class_bytes j) (ds ++ (mark_text m ++ rest)) (es ++ (mark_text n ++ more))
    (class_length k ∙ sym (class_length j)) f in
    let l = digits_longest ds es m n rest more k j is js ends none same in
    let a = numbered_length k ds m in
    let b = numbered_length j es n in
    omega arith

pub longest : (t : Turn) (m : Bool) (rest : List ℕ) → IsTurn t → TurnEnds t (mark_text m ++ rest)
    → (m ≡ false → (more : List ℕ) → rest ≢ 63 ∷ more) → IsLongest (record { turn = t; unsure = m }) rest
longest t m rest is ends none y more js e = longest_by t y.turn m y.unsure rest more is js ends none e
