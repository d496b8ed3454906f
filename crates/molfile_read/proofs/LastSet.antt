-- The last settings, as they are found one after another.
use Rattle.std.proofs.Common.{◌≡◌, ℕ, zero, suc, ◌+◌, ◌<◌, inl, inr, Bool, true, false, List, [], ◌∷◌, length, get_or, set, drop, replicate, Option, Some, None, refl, sym, ◌∙◌, ap, arith}
use Rattle.std.proofs.lemmas.Bool.{cases_eq, eq-eqb, ne_eqb}
use Rattle.std.proofs.lemmas.List.{get_or-set_same, get_or-set_other, get_or-replicate, drop_more}
use Rattle.std.specs.List.{filter_map, cons_option, AllByRecursion}
use Rattle.std.specs.Prelude.{if◌then◌else◌, ◌==◌}
use Rattle.std.specs.Option.{IfSome}
use Rattle.molfile_read.specs.declared.setting.Value.{Value}
use Rattle.molfile_read.specs.declared.setting.Setting.{Setting}
use Rattle.molfile_read.specs.Properties.{set_for, last_or, last_set}
use Rattle.molfile_read.specs.Parts.{IsSetting}

-- what the settings set for an atom
abbrev pub set_all : {A : Type 0} → (Value → Option A) → ℕ → List Setting → List A
set_all part a settings = filter_map (set_for part a) settings

none_if : {A : Type 0} → (b : Bool) (o : Option A) → o ≡ None → (if b then o else None) ≡ None
none_if true o e = e
none_if false o e = refl

-- a setting of another kind
pub step_skip : {A : Type 0} → (part : Value → Option A) (a : ℕ) (before : Option A) (s : Setting) (ss : List Setting)
    → part s.value ≡ None
    → last_or before (set_all part a (s ∷ ss)) ≡ last_or before (set_all part a ss)
step_skip part a before s ss e = ap (λ o. last_or before (cons_option o (set_all part a ss)))
    (none_if (s.atom == a) (part s.value) e)

-- a setting of this kind
pub step_set : {A : Type 0} → (part : Value → Option A) (cs : List (Option A)) (a : ℕ) (v : A) (s : Setting)
    (ss : List Setting) → s.atom < length cs → part s.value ≡ Some v
    → last_or (get_or (set cs s.atom (Some v)) a None) (set_all part a ss)
    ≡ last_or (get_or cs a None) (set_all part a (s ∷ ss))
step_set part cs a v s ss lt e = elim (cases_eq s.atom a) [
  | inl here ↦
      let is : set_for part a s ≡ Some v = ap (λ t. if t then part s.value else None) (eq-eqb s.atom a here) ∙ e in
      let new : get_or (set cs s.atom (Some v)) a None ≡ Some v = ap (λ k. get_or (set cs s.atom (Some v)) k None)
      (sym here) ∙ get_or-set_same cs s.atom (Some v) None lt in
      ap (λ o. last_or o (set_all part a ss)) new
      ∙ sym (ap (λ o. last_or (get_or cs a None) (cons_option o (set_all part a ss))) is)
  | inr apart ↦
      let is : set_for part a s ≡ None = ap (λ t. if t then part s.value else None) (ne_eqb s.atom a apart) in
      let new : get_or (set cs s.atom (Some v)) a None ≡ get_or cs a None = get_or-set_other cs s.atom a (Some v) None
      (λ h. apart (sym h)) in
      ap (λ o. last_or o (set_all part a ss)) new
      ∙ sym (ap (λ o. last_or (get_or cs a None) (cons_option o (set_all part a ss))) is)
]

-- what holds of all values that are set holds of the last
last_holds : {A : Type 0} → (P : A → Type 0) (before : Option A) (xs : List A) → IfSome before P → AllByRecursion P xs
    → IfSome (last_or before xs) P
last_holds P before [] h k = h
last_holds P before (x ∷ xs) h k = last_holds P (Some x) xs k.0 k.1

some_if : {A : Type 0} → (P : A → Type 0) (b : Bool) (o : Option A) → IfSome o P → IfSome (if b then o else None) P
some_if P true o h = h
some_if P false o h = tt

kept : {A : Type 0} → (P : A → Type 0) (o : Option A) (xs : List A) → IfSome o P → AllByRecursion P xs
    → AllByRecursion P (cons_option o xs)
kept P None xs h k = k
kept P (Some x) xs h k = (h, k)

all_set : {A : Type 0} → (P : A → Type 0) (part : Value → Option A) (a : ℕ) (Q : Setting → Type 0)
    → ((s : Setting) → Q s → IfSome (part s.value) P) → (ss : List Setting) → AllByRecursion Q ss
    → AllByRecursion P (set_all part a ss)
all_set P part a Q f [] h = tt
all_set P part a Q f (s ∷ ss) h = kept P (set_for part a s) (set_all part a ss)
    (some_if P (s.atom == a) (part s.value) (f s h.0)) (all_set P part a Q f ss h.1)

pub last_set_holds : {A : Type 0} → (P : A → Type 0) (part : Value → Option A) (a : ℕ) (Q : Setting → Type 0)
    → ((s : Setting) → Q s → IfSome (part s.value) P) → (ss : List Setting) → AllByRecursion Q ss
    → IfSome (last_set part a ss) P
last_set_holds P part a Q f ss h = last_holds P None (set_all part a ss) tt (all_set P part a Q f ss h)

-- a table of what is set so far, one setting further
pub table_set : {A : Type 0} → (part : Value → Option A) (cs new : List (Option A)) (a i place : ℕ) (v : A)
    (d : Setting) (settings : List Setting) (whole : Option A) → i < length settings
    → place ≡ (get_or settings i d).atom
    → place < length cs → part (get_or settings i d).value ≡ Some v → new ≡ set cs place (Some v)
    → last_or (get_or cs a None) (set_all part a (drop i settings)) ≡ whole
    → last_or (get_or new a None) (set_all part a (drop (i + 1) settings)) ≡ whole
table_set part cs new a i place v d settings whole lt at room is made so =
    let s : Setting = get_or settings i d in
    let room' : s.atom < length cs = omega arith in
    ap (λ xs. last_or (get_or xs a None) (set_all part a (drop (i + 1) settings))) (made
    ∙ ap (λ k. set cs k (Some v)) at)
    ∙ step_set part cs a v s (drop (i + 1) settings) room' is
    ∙ sym (ap (λ ss. last_or (get_or cs a None) (set_all part a ss)) (drop_more settings i d lt)) ∙ so

pub table_kept : {A : Type 0} → (part : Value → Option A) (cs new : List (Option A)) (a i : ℕ) (d : Setting)
    (settings : List Setting) (whole : Option A) → i < length settings
    → part (get_or settings i d).value ≡ None → new ≡ cs → last_or (get_or cs a None) (set_all part a (drop i settings))
    ≡ whole → last_or (get_or new a None) (set_all part a (drop (i + 1) settings)) ≡ whole
table_kept part cs new a i d settings whole lt is kept so =
    let s : Setting = get_or settings i d in
    ap (λ xs. last_or (get_or xs a None) (set_all part a (drop (i + 1) settings))) kept
    ∙ sym (step_skip part a (get_or cs a None) s (drop (i + 1) settings) is)
    ∙ sym (ap (λ ss. last_or (get_or cs a None) (set_all part a ss)) (drop_more settings i d lt)) ∙ so

-- nothing is set at first
pub table_new : {A : Type 0} → (part : Value → Option A) (n a : ℕ) (settings : List Setting) → a < n
    → last_or (get_or (replicate n None) a None) (set_all part a settings) ≡ last_set part a settings
table_new part n a settings lt = ap (λ o. last_or o (set_all part a settings)) (get_or-replicate n a None None lt)

-- the setting at a place is of one of so many atoms
pub setting_at : (n : ℕ) (settings : List Setting) (i : ℕ) (d : Setting) → AllByRecursion (IsSetting n) settings
    → i < length settings → IsSetting n (get_or settings i d)
setting_at n [] i d h lt = absurd (omega arith)
setting_at n (s ∷ ss) zero d h lt = h.0
setting_at n (s ∷ ss) (suc i) d h lt = setting_at n ss i d h.1 (omega arith)
