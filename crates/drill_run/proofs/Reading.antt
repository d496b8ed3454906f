-- A line of a drill is read in one way.
use Rattle.std.proofs.Common.{◌≡◌, ◌≢◌, ◌≤◌, ◌<◌, ◌++◌, ◌∙◌, ◌^◌, ap, arith, codes, Contains, decimal, List, [], ◌∷◌, refl, subst, suc, sym, zero, ℕ}
use Rattle.std.specs.List.{All}
use Rattle.std.specs.Str.Parse.{AllDigits, digits_value}
use Rattle.std.proofs.lemmas.Fmt.{digits_decimal}
use Rattle.std.proofs.lemmas.List.Elements.{All-contains, All-from_get_or, Contains-append_right}
use Rattle.std.proofs.lemmas.Str.Parse.{IsNumeralModel, not_in_digits, numerals_by_value, tells_digits}
use Rattle.disk_pair.specs.declared.choice.Which.{Which}
use Rattle.disk_pair.specs.declared.choice.Which.TheVariants.{First, Second}
use Rattle.shell_lang.specs.Command.{HasNoSpace}
use Rattle.drill_run.specs.Lines.{DrillLine, Empty, Fail, Reopen, Session, Spells, Stop, fail_word, stop_word}
use Rattle.drill_run.specs.declared.line.TheConstants.{LAST_IMAGE, MOST_CALLS, SESSIONS}

own : IsNumeralModel (AllDigits 10) (digits_value 10)
own = numerals_by_value (AllDigits 10) tells_digits

-- a byte that is no digit is in no number
no_digit : (n b : ℕ) → n < 2 ^ 64 → (48 ≤ b → b ≤ 57 → ⊥) → ¬ Contains (decimal n) b
no_digit n b small other held =
    let none : All (λ c. c ≢ b) (decimal n) = All-from_get_or (λ c. c ≢ b) (decimal n) 0
    (λ i l. not_in_digits own (decimal n) b (digits_decimal own n small) (λ r. other r.0 r.1) i l) in
    All-contains (λ c. c ≢ b) (decimal n) b none held refl

here : (b : ℕ) (bs : List ℕ) → Contains (b ∷ bs) b
here b bs = (0, omega arith, refl)

later : (b c : ℕ) (bs : List ℕ) → Contains bs c → Contains (b ∷ bs) c
later b c bs held = Contains-append_right (b ∷ []) bs c held

-- the first space is one place
one_split : (a c b d : List ℕ) → HasNoSpace a → HasNoSpace c → a ++ 32 ∷ b ≡ c ++ 32 ∷ d → (a ≡ c) × (b ≡ d)
one_split [] [] b d p q e = (refl, cc)
one_split [] (y ∷ c) b d p q e =
    let h : 32 ≡ y = cc in absurd (q (subst (λ (n : ℕ). Contains (y ∷ c) n) (sym h) (here y c)))
one_split (x ∷ a) [] b d p q e =
    let h : 32 ≡ x = cc in absurd (p (subst (λ (n : ℕ). Contains (x ∷ a) n) (sym h) (here x a)))
one_split (x ∷ a) (y ∷ c) b d p q e =
    let rest : a ++ 32 ∷ b ≡ c ++ 32 ∷ d = cc in
    let same = one_split a c b d (λ h. p (later x 32 a h)) (λ h. q (later y 32 c h)) rest in
    let tail : a ≡ c = same.0 in
    (cc, same.1)

abbrev are_letters : List ℕ → Type 0
are_letters [] = Unit {0}
are_letters (b ∷ bs) = (b ≢ 32) × are_letters bs

spaceless : (bytes : List ℕ) → are_letters bytes → HasNoSpace bytes
spaceless [] s (k, l, e) = omega (arith, l)
spaceless (b ∷ bs) s (zero, l, e) = s.0 e
spaceless (b ∷ bs) s (suc k, l, e) = spaceless bs s.1 (k, omega (arith, l), e)

-- the words of stops and failures
stop-letters : (disk : Which) → are_letters (stop_word disk)
stop-letters First = search arith
stop-letters Second = search arith

fail-letters : (disk : Which) → are_letters (fail_word disk)
fail-letters First = search arith
fail-letters Second = search arith

begins-stop : (disk : Which) → (more : List ℕ) × (stop_word disk ≡ 115 ∷ more)
begins-stop First = (_, refl)
begins-stop Second = (_, refl)

begins-fail : (disk : Which) → (more : List ℕ) × (fail_word disk ≡ 102 ∷ more)
begins-fail First = (_, refl)
begins-fail Second = (_, refl)

-- what a line with a space says, by its first part and the rest
abbrev pub Follows : List ℕ → List ℕ → DrillLine → Type 0
Follows first rest Empty = ⊥
Follows first rest (Session number text) = (1 ≤ number) × (number ≤ SESSIONS) × (first ≡ decimal number) × (rest ≡ text)
Follows first rest (Stop disk calls) = (calls ≤ MOST_CALLS) × (first ≡ stop_word disk) × (rest ≡ decimal calls)
Follows first rest (Fail disk call) =
    (1 ≤ call) × (call ≤ MOST_CALLS) × (first ≡ fail_word disk) × (rest ≡ decimal call)
Follows first rest (Reopen image) = (image ≤ LAST_IMAGE) × (first ≡ codes "reopen") × (rest ≡ decimal image)

no_end : (first rest : List ℕ) → first ++ 32 ∷ rest ≡ [] → ⊥
no_end [] rest e = cc
no_end (b ∷ bs) rest e = cc

follows : (line first rest : List ℕ) (d : DrillLine) → line ≡ first ++ 32 ∷ rest → HasNoSpace first → Spells line d
    → Follows first rest d
follows line first rest Empty cut n s = no_end first rest (sym cut ∙ s)
follows line first rest (Session number text) cut n s =
    let same = one_split first (decimal number) rest text n
    (no_digit number 32 (omega (arith, s.1)) (λ a b. omega arith))
    (sym cut ∙ s.2) in
    (s.0, s.1, same.0, same.1)
follows line first rest (Stop disk calls) cut n s =
    let same = one_split first (stop_word disk) rest (decimal calls) n (spaceless (stop_word disk) (stop-letters disk))
    (sym cut ∙ s.1) in
    (s.0, same.0, same.1)
follows line first rest (Fail disk call) cut n s =
    let same = one_split first (fail_word disk) rest (decimal call) n (spaceless (fail_word disk) (fail-letters disk))
    (sym cut ∙ s.2) in
    (s.0, s.1, same.0, same.1)
follows line first rest (Reopen image) cut n s =
    let same = one_split first (codes "reopen") rest (decimal image) n (spaceless (codes "reopen") (search arith))
    (sym cut ∙ s.1) in
    (s.0, same.0, same.1)

-- no number begins with such a letter
no_number : (n b : ℕ) (bs : List ℕ) → n ≤ SESSIONS → (48 ≤ b → b ≤ 57 → ⊥) → b ∷ bs ≡ decimal n → ⊥
no_number n b bs few other e =
    no_digit n b (omega (arith, few)) other (subst (λ (l : List ℕ). Contains l b) e (here b bs))

-- lines that are none
pub not_spaced : (line : List ℕ) → line ≢ [] → HasNoSpace line → (d : DrillLine) → ¬ Spells line d
not_spaced line some n Empty s = some s
not_spaced line some n (Session number text) s = n (has_space (decimal number) text s.2) where
  has_space : (a b : List ℕ) → line ≡ a ++ 32 ∷ b → Contains line 32
  has_space a b e = subst (λ (l : List ℕ). Contains l 32) (sym e) (Contains-append_right a (32 ∷ b) 32 (here 32 b))
not_spaced line some n (Stop disk calls) s =
    n (subst (λ (l : List ℕ). Contains l 32) (sym s.1)
    (Contains-append_right (stop_word disk) (32 ∷ decimal calls) 32 (here 32 _)))
not_spaced line some n (Fail disk call) s =
    n (subst (λ (l : List ℕ). Contains l 32) (sym s.2)
    (Contains-append_right (fail_word disk) (32 ∷ decimal call) 32 (here 32 _)))
not_spaced line some n (Reopen image) s =
    n (subst (λ (l : List ℕ). Contains l 32) (sym s.1)
    (Contains-append_right (codes "reopen") (32 ∷ decimal image) 32 (here 32 _)))

abbrev head : List ℕ → ℕ
head [] = 0
head (b ∷ bs) = b

-- a number that is none, behind the word of a line
abbrev pub IsNone : List ℕ → ℕ → Type 0
IsNone rest most = (n : ℕ) → n ≤ most → rest ≢ decimal n

pub not_stop : (disk : Which) (line first rest : List ℕ) → line ≡ first ++ 32 ∷ rest → HasNoSpace first
    → first ≡ stop_word disk → IsNone rest MOST_CALLS → (d : DrillLine) → ¬ Spells line d
not_stop disk line first rest cut n word none d s = by d (follows line first rest d cut n s) where
  begins : first ≡ 115 ∷ (begins-stop disk).0
  begins = word ∙ (begins-stop disk).1

  by : (d : DrillLine) → Follows first rest d → ⊥
  by Empty f = f
  by (Session number text) f = no_number number 115 _ f.1 (λ a b. omega arith) (sym begins ∙ f.2)
  by (Stop other calls) f = none calls f.0 f.2
  by (Fail other call) f =
      let e : 115 ≡ 102 = ap head (sym begins ∙ (f.2 ∙ (begins-fail other).1)) in omega (arith, e)
  by (Reopen image) f = let e : 115 ≡ 114 = ap head (sym begins ∙ f.1) in omega (arith, e)

pub not_fail : (disk : Which) (line first rest : List ℕ) → line ≡ first ++ 32 ∷ rest → HasNoSpace first
    → first ≡ fail_word disk → ((n : ℕ) → 1 ≤ n → n ≤ MOST_CALLS → rest ≢ decimal n) → (d : DrillLine)
    → ¬ Spells line d
not_fail disk line first rest cut n word none d s = by d (follows line first rest d cut n s) where
  begins : first ≡ 102 ∷ (begins-fail disk).0
  begins = word ∙ (begins-fail disk).1

  by : (d : DrillLine) → Follows first rest d → ⊥
  by Empty f = f
  by (Session number text) f = no_number number 102 _ f.1 (λ a b. omega arith) (sym begins ∙ f.2)
  by (Stop other calls) f =
      let e : 102 ≡ 115 = ap head (sym begins ∙ (f.1 ∙ (begins-stop other).1)) in omega (arith, e)
  by (Fail other call) f = none call f.0 f.1 f.3
  by (Reopen image) f = let e : 102 ≡ 114 = ap head (sym begins ∙ f.1) in omega (arith, e)

pub not_reopen : (line first rest : List ℕ) → line ≡ first ++ 32 ∷ rest → HasNoSpace first → first ≡ codes "reopen"
    → IsNone rest LAST_IMAGE → (d : DrillLine) → ¬ Spells line d
not_reopen line first rest cut n word none d s = by d (follows line first rest d cut n s) where
  by : (d : DrillLine) → Follows first rest d → ⊥
  by Empty f = f
  by (Session number text) f = no_number number 114 _ f.1 (λ a b. omega arith) (sym word ∙ f.2)
  by (Stop disk calls) f =
      let e : 114 ≡ 115 = ap head (sym word ∙ (f.1 ∙ (begins-stop disk).1)) in omega (arith, e)
  by (Fail disk call) f =
      let e : 114 ≡ 102 = ap head (sym word ∙ (f.2 ∙ (begins-fail disk).1)) in omega (arith, e)
  by (Reopen image) f = none image f.0 f.2

pub not_session : (line first rest : List ℕ) → line ≡ first ++ 32 ∷ rest → HasNoSpace first
    → ((disk : Which) → first ≢ stop_word disk) → ((disk : Which) → first ≢ fail_word disk) → first ≢ codes "reopen"
    → ((n : ℕ) → 1 ≤ n → n ≤ SESSIONS → first ≢ decimal n) → (d : DrillLine) → ¬ Spells line d
not_session line first rest cut n stop fail reopen none d s = by d (follows line first rest d cut n s) where
  by : (d : DrillLine) → Follows first rest d → ⊥
  by Empty f = f
  by (Session number text) f = none number f.0 f.1 f.2
  by (Stop disk calls) f = stop disk f.1
  by (Fail disk call) f = fail disk f.2
  by (Reopen image) f = reopen f.1
