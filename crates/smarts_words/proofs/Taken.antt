-- What is read by its first byte.
use Rattle.std.proofs.Common.{◌≡◌, ℕ, ◌<◌, ◌≤◌, List, [], ◌∷◌, ◌++◌, length, Option, None, Some, ◌⊎◌, refl, sym, ◌∙◌, ap, subst, arith, append_assoc}
use Rattle.std.proofs.lemmas.List.{length-append}
use Rattle.std.specs.Option.{option_to_list}
use Rattle.smiles_words.specs.Atom.{IsDigit}
use Rattle.smarts_words.specs.declared.word.AtomWord.{AtomWord}
use Rattle.smarts_words.specs.declared.word.AtomWord.TheVariants as words
use Rattle.smarts_words.specs.Prims.{Prim, atomic, charge, mass, part, stereo, signs_text, AreSigns, FollowsSigns, charge_of, Stereo, stereo_text, IsTurn, IsLongest, IsBalancedIn, prim_text, IsPrim, FollowsPrim, word_of}
use Rattle.smarts_words.specs.Follow.{Takes, IsWord, PrimAt}
use Rattle.smarts_words.proofs.Numbers.{SomeNumber}
use Rattle.smarts_words.proofs.FirstBytes.{first_of, kind_at, is_part, is_atomic, is_stereo, is_charge, is_mass}

-- the primitive that bytes begin with, where it is no recursive part
abbrev pub WordAt : List ℕ → Option (AtomWord × List ℕ) → Type 0
WordAt = Takes prim_text (λ x. IsPrim x × IsWord x) FollowsPrim word_of

tails : (a b : ℕ) (r s : List ℕ) → a ∷ r ≡ b ∷ s → r ≡ s
tails a b r s e = cc

atomic_only : (bytes r : List ℕ) (result : Option (ℕ × List ℕ)) → bytes ≡ 35 ∷ r → SomeNumber r result
    → (x : Prim) (rest : List ℕ) → IsPrim x → FollowsPrim x rest → bytes ≡ prim_text x ++ rest
    → (ds : List ℕ) × (x ≡ atomic ds) × IsPrim (atomic ds) × FollowsPrim (atomic ds) rest × (r ≡ ds ++ rest)
atomic_only bytes r result e at x rest is follows h =
    let p = is_atomic x (kind_at x rest bytes r 35 is h e) in (
      p.0,
      p.1,
      subst IsPrim p.1 is,
      subst (λ (v : Prim). FollowsPrim v rest) p.1 follows,
      tails 35 35 r (p.0 ++ rest) (sym e ∙ h ∙ ap (λ v. prim_text v ++ rest) p.1),
    )

pub atomic_taken : (bytes r left : List ℕ) (n : ℕ) → bytes ≡ 35 ∷ r → SomeNumber r (Some (n, left))
    → WordAt bytes (Some (words.Number n, left))
atomic_taken bytes r left n e at =
    let f = at.found in
    record {
      found = (atomic f.0, (f.1, tt), e ∙ ap (λ (v : List ℕ). 35 ∷ v) f.2, f.3, ap (λ v. words.Number v) f.4);
      only = λ x rest is follows h. let p = atomic_only bytes r (Some (n, left)) e at x rest is.0 follows h in
          at.only p.0 rest p.2 p.3 p.4;
    }

pub atomic_refused : (bytes r : List ℕ) → bytes ≡ 35 ∷ r → SomeNumber r None → WordAt bytes None
atomic_refused bytes r e at = record {
  found = tt;
  only = λ x rest is follows h. let p =
      atomic_only bytes r None e at x rest is.0 follows h in at.only p.0 rest p.2 p.3 p.4;
}

pub mass_taken : (bytes r left : List ℕ) (b n : ℕ) → bytes ≡ b ∷ r → IsDigit b → SomeNumber bytes (Some (n, left))
    → WordAt bytes (Some (words.Mass n, left))
mass_taken bytes r left b n e digit at =
    let f = at.found in
    record {
      found = (mass f.0, (f.1, tt), f.2, f.3, ap (λ v. words.Mass v) f.4);
      only = λ x rest is follows h.
          let p = is_mass x b digit (kind_at x rest bytes r b is.0 h e) in
          at.only p.0 rest (subst IsPrim p.1 is.0) (subst (λ (v : Prim). FollowsPrim v rest) p.1 follows) (h
          ∙ ap (λ v. prim_text v ++ rest) p.1);
    }

pub mass_refused : (bytes r : List ℕ) (b : ℕ) → bytes ≡ b ∷ r → IsDigit b → SomeNumber bytes None → WordAt bytes None
mass_refused bytes r b e digit at = record {
  found = tt;
  only = λ x rest is follows h.
      let p = is_mass x b digit (kind_at x rest bytes r b is.0 h e) in
      at.only p.0 rest (subst IsPrim p.1 is.0) (subst (λ (v : Prim). FollowsPrim v rest) p.1 follows) (h
      ∙ ap (λ v. prim_text v ++ rest) p.1);
}

abbrev pub ChargesAt : List ℕ → Option (AtomWord × List ℕ) → Type 0
ChargesAt = Takes signs_text AreSigns FollowsSigns (λ s. words.Charge (charge_of s))

pub charges_taken : (bytes r : List ℕ) (b : ℕ) (result : Option (AtomWord × List ℕ)) → bytes ≡ b ∷ r → (b ≡ 43)
    ⊎ (b ≡ 45) → ChargesAt bytes result → WordAt bytes result
charges_taken bytes r b (Some (word, left)) e sign at =
    let f = at.found in
    record {
      found = (charge f.0, (f.1, tt), f.2, f.3, f.4);
      only = λ x rest is follows h.
          let p = is_charge x b sign (kind_at x rest bytes r b is.0 h e) in
          at.only p.0 rest (subst IsPrim p.1 is.0) (subst (λ (v : Prim). FollowsPrim v rest) p.1 follows) (h
          ∙ ap (λ v. prim_text v ++ rest) p.1);
    }
charges_taken bytes r b None e sign at = record {
  found = tt;
  only = λ x rest is follows h.
      let p = is_charge x b sign (kind_at x rest bytes r b is.0 h e) in
      at.only p.0 rest (subst IsPrim p.1 is.0) (subst (λ (v : Prim). FollowsPrim v rest) p.1 follows) (h
      ∙ ap (λ v. prim_text v ++ rest) p.1);
}

-- what follows texts of one length
pub same_left : (xs ys r s : List ℕ) → length xs ≤ length ys → length ys ≤ length xs → xs ++ r ≡ ys ++ s → r ≡ s
same_left [] [] r s l m h = h
same_left [] (y ∷ ys) r s l m h = absurd (omega arith)
same_left (x ∷ xs) [] r s l m h = absurd (omega arith)
same_left (x ∷ xs) (y ∷ ys) r s l m h = same_left xs ys r s (omega arith) (omega arith)
    (tails x y (xs ++ r) (ys ++ s) h)

pub stereo_taken : (bytes r left : List ℕ) (z : Stereo) → bytes ≡ 64 ∷ r → IsTurn z.turn → 64 ∷ r ≡ stereo_text z
    ++ left → IsLongest z left → WordAt bytes (Some (words.Stereo, left))
stereo_taken bytes r left z e is spelled longest = record {
  found = (stereo z, (is, tt), e ∙ spelled, longest, refl);
  only = λ x rest ix follows h.
      let p = is_stereo x (kind_at x rest bytes r 64 ix.0 h e) in
      let iy : IsTurn p.0.turn = subst IsPrim p.1 ix.0 in
      let other : IsLongest p.0 rest = subst (λ (v : Prim). FollowsPrim v rest) p.1 follows in
      let both : stereo_text z ++ left ≡ stereo_text p.0 ++ rest = sym spelled ∙ sym e ∙ h
      ∙ ap (λ v. prim_text v ++ rest) p.1 in
      same_left (stereo_text z) (stereo_text p.0) left rest (other z left is (sym both)) (longest p.0 rest iy both)
      both;
}

part_only : (bytes r : List ℕ) → bytes ≡ 36 ∷ 40 ∷ r → (x : Prim) (rest : List ℕ) → IsPrim x → bytes ≡ prim_text x
    ++ rest → (text : List ℕ) × IsBalancedIn 0 text × (r ≡ text ++ 41 ∷ rest)
part_only bytes r e x rest is h =
    let p = is_part x (kind_at x rest bytes (40 ∷ r) 36 is h e) in
    let k : 36 ∷ 40 ∷ r ≡ 36 ∷ 40 ∷ ((p.0 ++ 41 ∷ []) ++ rest) = sym e ∙ h ∙ ap (λ v. prim_text v ++ rest) p.1 in
    (p.0, subst IsPrim p.1 is, tails 40 40 r _ (tails 36 36 (40 ∷ r) _ k) ∙ append_assoc p.0 (41 ∷ []) rest)

pub part_taken : (bytes r text left : List ℕ) (word : AtomWord) (o : Option (List ℕ)) → bytes ≡ 36 ∷ 40 ∷ r
    → IsBalancedIn 0 text → r ≡ text ++ 41 ∷ left → word ≡ words.Part → o ≡ Some text
    → ((t rest : List ℕ) → IsBalancedIn 0 t → r ≡ t ++ 41 ∷ rest → left ≡ rest)
    → PrimAt bytes (Some ((word, option_to_list o), left))
part_taken bytes r text left word o e balanced split ew eo only = record {
  found = (
    part text,
    balanced,
    e ∙ ap (λ (v : List ℕ). 36 ∷ 40 ∷ v) (split ∙ sym (append_assoc text (41 ∷ []) left)),
    tt,
    ap (λ v. (v, option_to_list o)) ew ∙ ap (λ (v : Option (List ℕ)). (words.Part, option_to_list v)) eo,
  );
  only = λ x rest is follows h. let p = part_only bytes r e x rest is h in only p.0 rest p.1 p.2;
}

pub part_refused : (bytes r : List ℕ) → bytes ≡ 36 ∷ 40 ∷ r → ((t rest : List ℕ) → IsBalancedIn 0 t → r ≡ t ++ 41 ∷ rest
    → ⊥) → PrimAt bytes None
part_refused bytes r e only = record {
  found = tt;
  only = λ x rest is follows h. let p =
      part_only bytes r e x rest is h in only p.0 rest p.1 p.2;
}

shorter_by : (text left bytes : List ℕ) → bytes ≡ text ++ left → 1 ≤ length text → length left < length bytes
shorter_by text left bytes e l = let k = ap length e ∙ length-append text left in omega arith

pub prim_shorter : (x : Prim) (left bytes : List ℕ) → IsPrim x → bytes ≡ prim_text x ++ left
    → length left < length bytes
prim_shorter x left bytes is e = let f = first_of x is in let l = ap length f.spelled in
    shorter_by (prim_text x) left bytes e (omega arith)
