-- What is read where a letter or `*` stands first.
use Rattle.std.proofs.Common.{◌≡◌, ◌≢◌, ℕ, List, [], ◌∷◌, ◌++◌, Option, None, Some, inl, inr, sym, ◌∙◌, ap, subst, arith}
use Rattle.smarts_words.specs.declared.word.Letter.{Letter}
use Rattle.smarts_words.specs.declared.word.AtomWord.{AtomWord}
use Rattle.smarts_words.specs.Prims.{Prim, counted, prim_text, IsPrim, letter_byte, AreSymbol, StandsAlone, NoDigit, FollowsPrim, word_of}
use Rattle.smarts_words.specs.Follow.{Takes, IsLettered, IsPair, IsSingle, IsCountAt, IsBare}
use Rattle.smarts_words.proofs.Shapes.{Shape, one, two, letter, shape_of, one_follows, two_follows, one_alone, bare_is_lettered, symbol_second, symbol_first, bare_no_letter, one_letter_byte}

-- the primitive of letters that bytes begin with
abbrev pub LetteredAt : List ℕ → Option (AtomWord × List ℕ) → Type 0
LetteredAt = Takes prim_text (λ x. IsPrim x × IsLettered x) FollowsPrim word_of

-- the bytes begin with no symbol of two bytes
abbrev pub NoSymbol : List ℕ → Type 0
NoSymbol bytes = (a b : ℕ) (rest : List ℕ) → bytes ≡ a ∷ b ∷ rest → ¬ AreSymbol a b

heads_two : (a b c d : ℕ) (r s : List ℕ) → a ∷ b ∷ r ≡ c ∷ d ∷ s → (a ≡ c) × (b ≡ d) × (r ≡ s)
heads_two a b c d r s e = (cc, cc, cc)

heads_one : (a c : ℕ) (r s : List ℕ) → a ∷ r ≡ c ∷ s → (a ≡ c) × (r ≡ s)
heads_one a c r s e = (cc, cc)

pub alone_at : (a b : ℕ) (r rest : List ℕ) → StandsAlone a rest → rest ≡ b ∷ r → ¬ AreSymbol a b
alone_at a b r rest alone e = let F : List ℕ → Type 0 = λ v. StandsAlone a v in subst F e alone

alone_from : (a : ℕ) (r bytes : List ℕ) → NoSymbol bytes → bytes ≡ a ∷ r → StandsAlone a r
alone_from a [] bytes none e = tt
alone_from a (b ∷ bs) bytes none e = none a b bs e

pub counted_two : (l : Letter) (ds : List ℕ) (a b : ℕ) (r rest : List ℕ) → IsPrim (counted l ds)
    → FollowsPrim (counted l ds) rest → AreSymbol a b → a ∷ b ∷ r ≡ letter_byte l ∷ (ds ++ rest) → ⊥
counted_two l [] a b r rest is follows symbol h =
    let k = heads_one a (letter_byte l) (b ∷ r) rest h in
    alone_at (letter_byte l) b r rest follows.0 (sym k.1) (subst (λ (v : ℕ). AreSymbol v b) k.0 symbol)
counted_two l (d ∷ ds) a b r rest is follows symbol h =
    let k = heads_two a b (letter_byte l) d r (ds ++ rest) h in
    let same = k.1 in
    let low = symbol_second a b symbol in
    let high = is.1.0.1 in
    absurd (omega arith)

front_by : (text u rest bytes : List ℕ) → text ≡ u → bytes ≡ text ++ rest → bytes ≡ u ++ rest
front_by text u rest bytes e h = h ∙ ap (λ v. v ++ rest) e

-- a symbol of two bytes
pub pair_taken : (bytes r : List ℕ) (a b : ℕ) (word : AtomWord) → bytes ≡ a ∷ b ∷ r → IsPair a b word
    → LetteredAt bytes (Some (word, r))
pair_taken bytes r a b word e p = record {
  found = (
    p.prim,
    (p.is, bare_is_lettered p.prim p.bare),
    e ∙ ap (λ v. v ++ r) (sym p.spelled),
    two_follows p.prim a b r p.bare p.spelled,
    p.value,
  );
  only = λ x rest is follows h. pair_only x (shape_of x is.0 is.1) rest is.0 follows h;
}
  where
    pair_only : (x : Prim) → Shape x → (rest : List ℕ) → IsPrim x → FollowsPrim x rest → bytes ≡ prim_text x ++ rest
        → r ≡ rest
    pair_only x (one c bare t) rest is follows h =
        let k = heads_one a c (b ∷ r) rest (sym e ∙ front_by (prim_text x) (c ∷ []) rest bytes t h) in
        let symbol = subst (λ (v : ℕ). AreSymbol v b) k.0 p.symbol in
        elim (one_alone x c rest bare t follows) [
          | inl star ↦ absurd (symbol_first c b symbol star)
          | inr alone ↦ absurd (alone_at c b r rest alone (sym k.1) symbol)
        ]
    pair_only x (two c d bare t s) rest is follows h =
        (heads_two a b c d r rest (sym e ∙ front_by (prim_text x) (c ∷ d ∷ []) rest bytes t h)).2
    pair_only x (letter l ds t) rest is follows h =
        absurd (counted_two l ds a b r rest (subst IsPrim t is) (subst (λ (v : Prim). FollowsPrim v rest) t follows)
        p.symbol (sym e ∙ front_by (prim_text x) (letter_byte l ∷ ds) rest bytes (ap prim_text t) h))

-- what stands there after a letter of counts
pub count_only : (bytes r : List ℕ) (l : Letter) → bytes ≡ letter_byte l ∷ r → NoSymbol bytes → (x : Prim) → Shape x
    → (rest : List ℕ) → IsPrim x → bytes ≡ prim_text x ++ rest
    → (ds : List ℕ) × (x ≡ counted l ds) × (r ≡ ds ++ rest)
count_only bytes r l e none x (one c bare t) rest is h =
    let k = heads_one (letter_byte l) c r rest (sym e ∙ front_by (prim_text x) (c ∷ []) rest bytes t h) in
    absurd (bare_no_letter x l is bare (t ∙ ap (λ v. v ∷ []) (sym k.0)))
count_only bytes r l e none x (two c d bare t s) rest is h =
    absurd (none c d rest (front_by (prim_text x) (c ∷ d ∷ []) rest bytes t h) s)
count_only bytes r l e none x (letter m ds t) rest is h =
    let k = heads_one (letter_byte l) (letter_byte m) r (ds ++ rest) (sym e
    ∙ front_by (prim_text x) (letter_byte m ∷ ds) rest bytes (ap prim_text t) h) in
    (ds, t ∙ ap (λ v. counted v ds) (sym (one_letter_byte l m k.0)), k.1)

count_follows : (l : Letter) (ds left bytes : List ℕ) → NoSymbol bytes → bytes ≡ letter_byte l ∷ (ds ++ left)
    → NoDigit left → FollowsPrim (counted l ds) left
count_follows l [] left bytes none e last = (alone_from (letter_byte l) left bytes none e, last)
count_follows l (d ∷ ds) left bytes none e last = last

pub count_last : (l : Letter) (ds rest : List ℕ) → FollowsPrim (counted l ds) rest → NoDigit rest
count_last l [] rest follows = follows.1
count_last l (d ∷ ds) rest follows = follows

pub count_taken : (bytes r : List ℕ) (l : Letter) (result : Option (AtomWord × List ℕ)) → bytes ≡ letter_byte l ∷ r
    → NoSymbol bytes → IsCountAt l r result → LetteredAt bytes result
count_taken bytes r l (Some (word, left)) e none at =
    let f = at.found in
    record {
      found = (
        counted l f.0,
        (f.1, tt),
        e ∙ ap (λ v. letter_byte l ∷ v) f.2,
        count_follows l f.0 left bytes none (e ∙ ap (λ v. letter_byte l ∷ v) f.2) f.3,
        f.4,
      );
      only = λ x rest is follows h.
          let p = count_only bytes r l e none x (shape_of x is.0 is.1) rest is.0 h in
          at.only p.0 rest (subst IsPrim p.1 is.0)
          (count_last l p.0 rest (subst (λ (v : Prim). FollowsPrim v rest) p.1 follows)) p.2;
    }
count_taken bytes r l None e none at = record {
  found = tt;
  only = λ x rest is follows h.
      let p = count_only bytes r l e none x (shape_of x is.0 is.1) rest is.0 h in
      at.only p.0 rest (subst IsPrim p.1 is.0)
      (count_last l p.0 rest (subst (λ (v : Prim). FollowsPrim v rest) p.1 follows)) p.2;
}

-- what stands there where the first byte is no letter of counts
pub single_only : (bytes r : List ℕ) (a : ℕ) → bytes ≡ a ∷ r → NoSymbol bytes → ((l : Letter) → letter_byte l ≢ a)
    → (x : Prim) → Shape x → (rest : List ℕ) → bytes ≡ prim_text x ++ rest
    → IsBare x × (prim_text x ≡ a ∷ []) × (r ≡ rest)
single_only bytes r a e none others x (one c bare t) rest h =
    let k = heads_one a c r rest (sym e ∙ front_by (prim_text x) (c ∷ []) rest bytes t h) in
    (bare, t ∙ ap (λ v. v ∷ []) (sym k.0), k.1)
single_only bytes r a e none others x (two c d bare t s) rest h =
    absurd (none c d rest (front_by (prim_text x) (c ∷ d ∷ []) rest bytes t h) s)
single_only bytes r a e none others x (letter m ds t) rest h =
    let k = heads_one a (letter_byte m) r (ds ++ rest) (sym e ∙ front_by (prim_text x) (letter_byte m ∷ ds) rest bytes
    (ap prim_text t) h) in
    absurd (others m (sym k.0))

pub single_taken : (bytes r : List ℕ) (a : ℕ) (word : AtomWord) → bytes ≡ a ∷ r → NoSymbol bytes
    → ((l : Letter) → letter_byte l ≢ a) → IsSingle a word → LetteredAt bytes (Some (word, r))
single_taken bytes r a word e none others p = record {
  found = (
    p.prim,
    (p.is, bare_is_lettered p.prim p.bare),
    e ∙ ap (λ v. v ++ r) (sym p.spelled),
    one_follows p.prim a r p.bare p.spelled (alone_from a r bytes none e),
    p.value,
  );
  only = λ x rest is follows h. (single_only bytes r a e none others x (shape_of x is.0 is.1) rest h).2;
}

pub single_refused : (bytes r : List ℕ) (a : ℕ) → bytes ≡ a ∷ r → NoSymbol bytes → ((l : Letter) → letter_byte l ≢ a)
    → ((x : Prim) → IsPrim x → IsBare x → prim_text x ≢ a ∷ []) → LetteredAt bytes None
single_refused bytes r a e none others never = record {
  found = tt;
  only = λ x rest is follows h. let p = single_only bytes r a e none others x (shape_of x is.0 is.1) rest h in
      never x is.0 p.0 p.1;
}

empty_only : (x : Prim) → Shape x → (rest : List ℕ) → [] ≡ prim_text x ++ rest → ⊥
empty_only x (one c bare t) rest h = let k : [] ≡ c ∷ rest = front_by (prim_text x) (c ∷ []) rest [] t h in cc
empty_only x (two c d bare t s) rest h = let k : [] ≡ c ∷ d ∷ rest = front_by (prim_text x) (c ∷ d ∷ []) rest [] t h in
    cc
empty_only x (letter m ds t) rest h = let k : [] ≡ letter_byte m ∷ (ds ++ rest) =
    front_by (prim_text x) (letter_byte m ∷ ds) rest [] (ap prim_text t) h in cc

pub empty_refused : (bytes : List ℕ) → bytes ≡ [] → LetteredAt bytes None
empty_refused bytes e = record {
  found = tt;
  only = λ x rest is follows h. empty_only x (shape_of x is.0 is.1) rest
      (sym e ∙ h);
}
