-- Lines that are read one after another.
use Rattle.std.proofs.Common.{◌≡◌, ℕ, zero, suc, ◌+◌, ◌-◌, ◌<◌, ◌≤◌, List, [], ◌∷◌, ◌++◌, take, drop, Result, Ok, Err, refl, sym, ◌∙◌, ap, arith, append_assoc}
use Rattle.std.proofs.lemmas.List.{append-nil, drop-drop}
use Rattle.std.specs.List.{AllByRecursion}
use Rattle.molfile_read.specs.declared.fault.MolfileFault.{MolfileFault}
use Rattle.molfile_read.specs.Text.{Line}
use Rattle.molfile_read.specs.Steps.{◌>>=◌, each}

-- what was read, and then what is read
abbrev pub with_front : {A : Type 0} → List A → Result (List A) MolfileFault → Result (List A) MolfileFault
with_front front read = read >>= λ xs. Ok (front ++ xs)

front_more : {A : Type 0} → (front : List A) (x : A) (read : Result (List A) MolfileFault)
    → with_front front (read >>= λ xs. Ok (x ∷ xs)) ≡ with_front (front ++ x ∷ []) read
front_more front x (Ok xs) = ap (λ w. Ok w) (sym (append_assoc front (x ∷ []) xs))
front_more front x (Err e) = refl

-- the count that is left, at a line
pub one_less : (n i : ℕ) → i < n → n - i ≡ suc (n - (i + 1))
one_less n i h = omega arith

pub take_line : (n i : ℕ) (lines rest : List Line) (l : Line) → i < n → lines ≡ l ∷ rest → take (n - i) lines ≡ l
    ∷ take (n - (i + 1)) rest
take_line n i lines rest l h e = ap (λ w. take (n - i) w) e ∙ ap (λ k. take k (l ∷ rest)) (one_less n i h)

pub drop_line : (n i : ℕ) (lines rest : List Line) (l : Line) → i < n → lines ≡ l ∷ rest → drop (n - i) lines
    ≡ drop (n - (i + 1)) rest
drop_line n i lines rest l h e = ap (λ w. drop (n - i) w) e ∙ ap (λ k. drop k (l ∷ rest)) (one_less n i h)

pub take_nothing : (n : ℕ) → take {A = Line} n [] ≡ []
take_nothing zero = refl
take_nothing (suc n) = refl

pub drop_nothing : (n : ℕ) → drop {A = Line} n [] ≡ []
drop_nothing zero = refl
drop_nothing (suc n) = refl

pub none_left : (n i : ℕ) → n ≤ i → n - i ≡ 0
none_left n i h = omega arith

pub goes_on : {A : Type 0} → (read : Line → Result A MolfileFault) (front : List A) (n i : ℕ) (lines rest : List Line)
    (l : Line) (x : A) (whole : Result (List A) MolfileFault)
    → i < n → lines ≡ l ∷ rest → read l ≡ Ok x → with_front front (each read (take (n - i) lines)) ≡ whole
    → with_front (front ++ x ∷ []) (each read (take (n - (i + 1)) rest)) ≡ whole
goes_on read front n i lines rest l x whole lt e is so =
    sym (front_more front x (each read (take (n - (i + 1)) rest)))
    ∙ sym (ap (λ w. with_front front (each read w)) (take_line n i lines rest l lt e)
    ∙ ap (λ r. with_front front (r >>= λ x. each read (take (n - (i + 1)) rest) >>= λ xs. Ok (x ∷ xs))) is) ∙ so

pub stops : {A : Type 0} → (read : Line → Result A MolfileFault) (front : List A) (n i : ℕ) (lines rest : List Line)
    (l : Line) (fault : MolfileFault) (whole : Result (List A) MolfileFault)
    → i < n → lines ≡ l ∷ rest → read l ≡ Err fault → with_front front (each read (take (n - i) lines)) ≡ whole
    → whole ≡ Err fault
stops read front n i lines rest l fault whole lt e is so =
    sym so ∙ ap (λ w. with_front front (each read w)) (take_line n i lines rest l lt e)
    ∙ ap (λ r. with_front front (r >>= λ x. each read (take (n - (i + 1)) rest) >>= λ xs. Ok (x ∷ xs))) is

pub ends : {A : Type 0} → (read : Line → Result A MolfileFault) (front : List A) (k : ℕ) (lines : List Line)
    (whole : Result (List A) MolfileFault)
    → take k lines ≡ [] → with_front front (each read (take k lines)) ≡ whole → whole ≡ Ok front
ends read front k lines whole e so = sym so ∙ ap (λ w. with_front front (each read w)) e
    ∙ ap (λ w. Ok w) (append-nil front)

pub take_none : (n i : ℕ) (lines : List Line) → n ≤ i → take (n - i) lines ≡ []
take_none n i lines h = ap (λ k. take k lines) (none_left n i h)

pub drop_next : (n : ℕ) (lines rest : List Line) (l : Line) → drop n lines ≡ l ∷ rest → drop (n + 1) lines ≡ rest
drop_next n lines rest l e = sym (drop-drop 1 n lines) ∙ ap (λ w. drop 1 w) e

pub all_push : {A : Type 0} → (P : A → Type 0) (xs : List A) (z : A) → AllByRecursion P xs → P z
    → AllByRecursion P (xs ++ z ∷ [])
all_push P [] z h p = (p, tt)
all_push P (x ∷ xs) z h p = (h.0, all_push P xs z h.1 p)

pub all_append : {A : Type 0} → (P : A → Type 0) (xs ys : List A) → AllByRecursion P xs → AllByRecursion P ys
    → AllByRecursion P (xs ++ ys)
all_append P [] ys h k = k
all_append P (x ∷ xs) ys h k = (h.0, all_append P xs ys h.1 k)
