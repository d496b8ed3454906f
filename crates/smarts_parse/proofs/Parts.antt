-- Recursive parts one after another.
use Rattle.std.proofs.Common.{◌≡◌, ℕ, ◌+◌, Bool, true, false, ◌||◌, List, [], ◌∷◌, ◌++◌, length, drop, refl, sym, ◌∙◌, ap, subst, arith, append_assoc, length-append}
use Rattle.std.proofs.lemmas.List.Folds.{list_any-append}
use Rattle.std.specs.List.{list_any}
use Rattle.smarts_words.specs.declared.word.Step.TheVariants as steps
use Rattle.smarts_words.specs.declared.word.Step.{Step}
use Rattle.smarts_words.specs.declared.word.AtomWord.{AtomWord}
use Rattle.smarts_words.specs.declared.word.AtomWord.TheVariants as words
use Rattle.smarts_words.specs.Bracket.{AtomValue}
use Rattle.smarts_parse.specs.declared.pattern.AtomPrim.{AtomPrim}
use Rattle.smarts_parse.specs.Pattern.{GraphTerm}
use Rattle.smarts_parse.specs.Whole.{Parts, none, part, tree_atoms, AreParts, parts_atoms, count_of}
use Rattle.smarts_parse.specs.Meaning.{atom_prim, atom_steps, numbers_from, ArePartTerms}
use Rattle.smarts_parse.specs.Reading.{is_stereo, DoPartsPair}
use Rattle.smarts_parse.specs.Steps.{part_count}
use Rattle.smarts_parse.specs.Draft.{join}

pub record Split (xs ys : List (List ℕ)) (p : Parts) : Type 0 where
  pub mine : Parts
  pub others : Parts
  pub is : p ≡ join mine others
  pub mine_of : AreParts xs mine
  pub others_of : AreParts ys others

pub split : (xs ys : List (List ℕ)) (p : Parts) → AreParts (xs ++ ys) p → Split xs ys p
split [] ys p h = record { mine = none; others = p; is = refl; mine_of = tt; others_of = h }
split (x ∷ xs) ys none h = absurd h
split (x ∷ xs) ys (part tree inner others) h =
    let s = split xs ys others h.2 in
    record {
      mine = part tree inner s.mine;
      others = s.others;
      is = ap (λ w. part tree inner w) s.is;
      mine_of = (h.0, h.1, s.mine_of);
      others_of = s.others_of;
    }

pub count-join : (p q : Parts) → count_of (join p q) ≡ count_of p + count_of q
count-join none q = omega arith
count-join (part tree inner others) q = let e = count-join others q in omega arith

pub atoms-join : (p q : Parts) → parts_atoms (join p q) ≡ parts_atoms p ++ parts_atoms q
atoms-join none q = refl
atoms-join (part tree inner others) q =
    ap (λ w. tree_atoms tree ++ (parts_atoms inner ++ w)) (atoms-join others q)
    ∙ ap (λ w. tree_atoms tree ++ w) (sym (append_assoc (parts_atoms inner) (parts_atoms others) (parts_atoms q)))
    ∙ sym (append_assoc (tree_atoms tree) (parts_atoms inner ++ parts_atoms others) (parts_atoms q))

pub pair-join : (p q : Parts) → DoPartsPair (join p q) → DoPartsPair p × DoPartsPair q
pair-join none q h = (tt, h)
pair-join (part tree inner others) q h = let e = pair-join others q h.2 in ((h.0, h.1, e.0), e.1)

pub numbers-join : (n : ℕ) (p q : Parts) → numbers_from n (join p q) ≡ numbers_from n p ++ numbers_from
    (n + count_of p) q
numbers-join n none q = let e : n ≡ n + 0 = omega arith in ap (λ w. numbers_from w q) e
numbers-join n (part tree inner others) q =
    let e : n + count_of inner + 1 + count_of others ≡ n + (count_of inner + 1 + count_of others) = omega arith in
    ap (λ w. (n + count_of inner) ∷ w) (numbers-join (n + count_of inner + 1) others q
    ∙ ap (λ w. numbers_from (n + count_of inner + 1) others ++ numbers_from w q) e)

pub terms-join : (n : ℕ) (p q : Parts) (gs hs : List GraphTerm) → ArePartTerms n p gs
    → ArePartTerms (n + count_of p) q hs → ArePartTerms n (join p q) (gs ++ hs)
terms-join n none q gs hs a b =
    let e : n + 0 ≡ n = omega arith in
    subst (λ (w : List GraphTerm). ArePartTerms n q (w ++ hs)) (sym a) (subst (λ (w : ℕ). ArePartTerms w q hs) e b)
terms-join n (part tree inner others) q gs hs a b =
    let m = n + count_of inner + 1 in
    let e : n + (count_of inner + 1 + count_of others) ≡ m + count_of others = omega arith in (
      a.0,
      a.1,
      a.2 ++ hs,
      ap (λ w. w ++ hs) a.3 ∙ append_assoc a.0 (a.1 ∷ a.2) hs,
      a.4,
      a.5,
      terms-join m others q a.2 hs a.6 (subst (λ (w : ℕ). ArePartTerms w q hs) e b),
    )

-- there are as many graphs as parts
pub terms_count : (n : ℕ) (p : Parts) (gs : List GraphTerm) → ArePartTerms n p gs → length gs ≡ count_of p
terms_count n none gs a = ap (λ w. length w) a
terms_count n (part tree inner others) gs a =
    let b = terms_count n inner a.0 a.4 in
    let c = terms_count (n + count_of inner + 1) others a.2 a.6 in
    let d = length-append a.0 (a.1 ∷ a.2) in
    let e = ap (λ w. length w) a.3 in
    omega arith

pub numbers_count : (n : ℕ) (texts : List (List ℕ)) (p : Parts) → AreParts texts p
    → length (numbers_from n p) ≡ length texts
numbers_count n [] none h = refl
numbers_count n [] (part tree inner others) h = absurd h
numbers_count n (text ∷ texts) none h = absurd h
numbers_count n (text ∷ texts) (part tree inner others) h = let e =
    numbers_count (n + count_of inner + 1) texts others h.2 in omega arith

pub or_false : (a b : Bool) → (a || b) ≡ false → (a ≡ false) × (b ≡ false)
or_false true b h = absurd (cc)
or_false false b h = (refl, h)

pub none_in : (xs ys : List AtomValue) → list_any (λ a. list_any is_stereo a.steps) (xs ++ ys) ≡ false
    → (list_any (λ a. list_any is_stereo a.steps) xs ≡ false) × (list_any (λ a. list_any is_stereo a.steps) ys ≡ false)
none_in xs ys h =
    let t : AtomValue → Bool = λ a. list_any is_stereo a.steps in
    or_false (list_any t xs) (list_any t ys) (sym (list_any-append t xs ys) ∙ h)

nil_steps : (ns : List ℕ) → atom_steps ns [] ≡ []
nil_steps [] = refl
nil_steps (n ∷ ns) = refl

-- a step that is no recursive part
abbrev pub plain_step : Step AtomWord → Step AtomPrim
plain_step (steps.Prim word) = steps.Prim (atom_prim 0 word)
plain_step steps.Not = steps.Not
plain_step steps.And = steps.And
plain_step steps.Or = steps.Or

pub steps_plain : (ns : List ℕ) (s : Step AtomWord) (ss : List (Step AtomWord)) → part_count s ≡ 0
    → atom_steps ns (s ∷ ss) ≡ plain_step s ∷ atom_steps ns ss
steps_plain ns (steps.Prim words.Part) ss h = absurd (omega arith)
steps_plain [] s ss h = refl
steps_plain (n ∷ ns) s ss h = refl

pub drop_first : (ns ms : List ℕ) → drop (length ns) (ns ++ ms) ≡ ms
drop_first [] ms = refl
drop_first (n ∷ ns) ms = drop_first ns ms
