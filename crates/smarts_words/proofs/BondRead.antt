-- Bond expressions that are read.
use Rattle.std.proofs.Common.{◌≡◌, ◌≢◌, ℕ, true, false, List, [], ◌∷◌, ◌++◌, replicate, Option, Some, None, inl, inr, refl, sym, ◌∙◌, ap, subst, arith}
use Rattle.smarts_words.specs.declared.word.BondWord.{BondWord}
use Rattle.smarts_words.specs.declared.word.BondWord.TheVariants as words
use Rattle.smarts_words.specs.declared.postfix.Postfix.{Postfix}
use Rattle.smarts_words.specs.declared.word.Step.{Step}
use Rattle.smarts_words.specs.declared.word.Step.TheVariants as steps
use Rattle.smarts_words.specs.declared.postfix.Joint.{Joint}
use Rattle.smarts_words.specs.declared.postfix.Joint.TheVariants as joints
use Rattle.smarts_words.specs.Expression.{Expression, joined}
use Rattle.smarts_words.specs.Bonds.{BondPrim, single, double, triple, quadruple, aromatic, any, ring, up, down, bond_prim_text, IsBondPrim, FollowsBondPrim, bond_word, no_part, bond_text, IsBondExpression, BeginsBond, bond_value}
use Rattle.smarts_words.specs.Prims.{mark_text}
use Rattle.smarts_words.specs.Follow.{Takes}
use Rattle.smarts_words.specs.State.{Holds, one_operand, ors_ended, lows_ended, JoinsAt, EndsBond}
use Rattle.smarts_words.proofs.Expressions.{Apart, Goes, OperandRead, read_none, last_found, last_only, none_only, next_goes}

heads : (a b : ℕ) (r s : List ℕ) → a ∷ r ≡ b ∷ s → a ≡ b
heads a b r s e = cc

tails : (a b : ℕ) (r s : List ℕ) → a ∷ r ≡ b ∷ s → r ≡ s
tails a b r s e = cc

-- a primitive of a bond by its first byte
pub record First (x : BondPrim) : Type 0 where
  pub byte : ℕ
  pub more : List ℕ
  pub spelled : bond_prim_text x ≡ byte ∷ more
  pub begins : BeginsBond byte
  pub bang : byte ≢ 33

pub first_of : (x : BondPrim) → First x
first_of single = record { byte = 45; more = []; spelled = refl; begins = inr (inl refl); bang = λ e. omega arith }
first_of double = record {
  byte = 61;
  more = [];
  spelled = refl;
  begins = inr (inr (inl refl));
  bang =
      λ e. omega arith;
}
first_of triple = record {
  byte = 35;
  more = [];
  spelled = refl;
  begins = inr (inr (inr (inl refl)));
  bang =
      λ e. omega arith;
}
first_of quadruple = record {
  byte = 36;
  more = [];
  spelled = refl;
  begins = inr (inr (inr (inr (inl refl))));
  bang =
      λ e. omega arith;
}
first_of aromatic = record {
  byte = 58;
  more = [];
  spelled = refl;
  begins = inr (inr (inr (inr (inr (inl refl)))));
  bang = λ e. omega arith;
}
first_of any = record {
  byte = 126;
  more = [];
  spelled = refl;
  begins = inr (inr (inr (inr (inr (inr (inl refl))))));
  bang = λ e. omega arith;
}
first_of ring = record {
  byte = 64;
  more = [];
  spelled = refl;
  begins =
      inr (inr (inr (inr (inr (inr (inr (inl refl)))))));
  bang = λ e. omega arith;
}
first_of (up m) = record {
  byte = 47;
  more = mark_text m;
  spelled = refl;
  begins =
      inr (inr (inr (inr (inr (inr (inr (inr (inl refl))))))));
  bang = λ e. omega arith;
}
first_of (down m) = record {
  byte = 92;
  more = mark_text m;
  spelled = refl;
  begins =
      inr (inr (inr (inr (inr (inr (inr (inr (inr refl))))))));
  bang = λ e. omega arith;
}

no_joining : (b : ℕ) → BeginsBond b → (b ≢ 59) × (b ≢ 44) × (b ≢ 38)
no_joining b h = (λ e. grind arith, λ e. grind arith, λ e. grind arith)

pub bond_apart : Apart bond_prim_text IsBondPrim FollowsBondPrim bond_word no_part EndsBond
bond_apart = record {
  starts = λ p is. let f = first_of p in record {
    byte = f.byte;
    more = f.more;
    spelled = f.spelled;
    bang = f.bang;
    joins = no_joining f.byte f.begins;
  };
  end_prim = λ p rest is end. let f = first_of p in let k : EndsBond (f.byte ∷ (f.more ++ rest)) =
      subst EndsBond (ap (λ v. v ++ rest) f.spelled) end in k.0 f.begins;
  end_bang = λ rest end. end.0 (inl refl);
  end_semicolon = λ rest end. end.1 refl;
  end_comma = λ rest end. end.2 refl;
  end_ampersand = λ rest end. end.3 refl;
}

abbrev pub BondGoes : List ℕ → List ℕ → Postfix BondWord → Type 0
BondGoes bytes rest postfix = Goes bond_prim_text IsBondPrim FollowsBondPrim bond_word no_part EndsBond bytes rest
    postfix []

abbrev pub BondPrimAt : List ℕ → Option (BondWord × List ℕ) → Type 0
BondPrimAt = Takes bond_prim_text IsBondPrim FollowsBondPrim bond_word

pub record WordRead (rest after : List ℕ) (bangs : ℕ) (word : BondWord) : Type 0 where
  pub prim : BondPrim
  pub operand : OperandRead bond_prim_text IsBondPrim FollowsBondPrim bond_word no_part EndsBond rest after bangs prim
  pub word_is : word ≡ bond_word prim

pub word_read : (rest a after : List ℕ) (bangs : ℕ) (word : BondWord) → rest ≡ replicate bangs 33 ++ a
    → ((more : List ℕ) → a ≢ 33 ∷ more) → BondPrimAt a (Some (word, after)) → WordRead rest after bangs word
word_read rest a after bangs word split all at =
    let f = at.found in
    record {
      prim = f.0;
      operand = record {
        a = a;
        split = split;
        all = all;
        is = f.1;
        spelled = f.2;
        follows = f.3;
        only = λ q r is follows h. at.only q r is follows h;
      };
      word_is = f.4;
    }

pub bond_last : (bytes rest after : List ℕ) (old new : Postfix BondWord) (bangs : ℕ) (word : BondWord)
    (ss : List (Step BondWord)) → BondGoes bytes rest old → WordRead rest after bangs word
    → ((l o a : List (List (Step BondWord))) → Holds l o a old → Holds l o (a ++ one_operand bangs word ∷ []) new)
    → ((l o a : List (List (Step BondWord))) → Holds l o a new → ss ≡ joined steps.And (lows_ended l o a))
    → (e : Expression BondPrim) × IsBondExpression e after × (bytes ≡ bond_text e ++ after) × (ss ≡ bond_value (Some e))
bond_last bytes rest after old new bangs word ss goes w put ended =
    let e = last_found bond_prim_text IsBondPrim FollowsBondPrim bond_word no_part EndsBond bytes rest after goes.lows
    goes.ors goes.ands [] bangs w.prim goes.read w.operand in
    let same = ended goes.lows goes.ors (goes.ands ++ one_operand bangs word ∷ [])
    (put goes.lows goes.ors goes.ands goes.holds) in (
      e.0,
      e.1,
      e.2,
      same ∙ ap (λ v.
          joined steps.And (lows_ended goes.lows goes.ors (goes.ands ++ one_operand bangs v ∷ []))) w.word_is ∙ sym e.3,
    )

pub bond_only : (bytes rest after : List ℕ) (old : Postfix BondWord) (bangs : ℕ) (word : BondWord)
    → BondGoes bytes rest old → WordRead rest after bangs word → EndsBond after
    → (e : Expression BondPrim) (r : List ℕ) → IsBondExpression e r → EndsBond r → bytes ≡ bond_text e ++ r → after ≡ r
bond_only bytes rest after old bangs word goes w ends = last_only bond_prim_text IsBondPrim FollowsBondPrim bond_word
    no_part EndsBond bond_apart bytes rest after goes.lows goes.ors goes.ands [] bangs w.prim goes.read w.operand ends

pub bond_never : (bytes rest a : List ℕ) (old : Postfix BondWord) (bangs : ℕ) → BondGoes bytes rest old
    → rest ≡ replicate bangs 33 ++ a → ((more : List ℕ) → a ≢ 33 ∷ more) → BondPrimAt a None
    → (e : Expression BondPrim) (r : List ℕ) → IsBondExpression e r → EndsBond r → bytes ≡ bond_text e ++ r → ⊥
bond_never bytes rest a old bangs goes split all at = none_only bond_prim_text IsBondPrim FollowsBondPrim bond_word
    no_part EndsBond bond_apart bytes rest a goes.lows goes.ors goes.ands [] bangs goes.read split all at.only

pub bond_next : (bytes rest after left : List ℕ) (old middle new : Postfix BondWord) (bangs : ℕ) (word : BondWord)
    (joint : Joint) → BondGoes bytes rest old → WordRead rest after bangs word
    → ((l o a : List (List (Step BondWord))) → Holds l o a old → Holds l o (a ++ one_operand bangs word ∷ []) middle)
    → JoinsAt after joint left → (EndsBond after → ⊥)
    → (joint ≡ joints.Semicolon → (l o a : List (List (Step BondWord))) → Holds l o a middle
    → Holds (lows_ended l o a) [] [] new)
    → (joint ≡ joints.Comma → (l o a : List (List (Step BondWord))) → Holds l o a middle
    → Holds l (ors_ended o a) [] new)
    → (joint ≡ joints.And → new ≡ middle) → BondGoes bytes left new
bond_next bytes rest after left old middle new bangs word joint goes w put at not_end s c a =
    let held = put goes.lows goes.ors goes.ands goes.holds in
    let held' = subst (λ (v : BondWord). Holds goes.lows goes.ors (goes.ands ++ one_operand bangs v ∷ []) middle)
    w.word_is held in
    next_goes bond_prim_text IsBondPrim FollowsBondPrim bond_word no_part EndsBond bond_apart bytes rest after left
    goes.lows goes.ors goes.ands [] bangs w.prim joint middle new goes.read w.operand held' at not_end s c a

pub bond_begins : (bytes : List ℕ) (postfix : Postfix BondWord) → Holds [] [] [] postfix → BondGoes bytes bytes postfix
bond_begins bytes postfix holds = record {
  lows = [];
  ors = [];
  ands = [];
  holds = holds;
  read =
      read_none bond_prim_text IsBondPrim FollowsBondPrim bond_word no_part EndsBond bytes;
}

-- `/?` and `\?`
pub up_taken : (bytes r : List ℕ) → bytes ≡ 47 ∷ 63 ∷ r → BondPrimAt bytes (Some (words.Up, r))
up_taken bytes r e = record {
  found = (up true, tt, e, tt, refl);
  only = λ x rest is follows h.
      by x rest follows (sym e ∙ h);
}
  where
    by : (x : BondPrim) (rest : List ℕ) → FollowsBondPrim x rest → 47 ∷ 63 ∷ r ≡ bond_prim_text x ++ rest → r ≡ rest
    by single rest f h = absurd (let k = heads 47 45 _ _ h in omega arith)
    by double rest f h = absurd (let k = heads 47 61 _ _ h in omega arith)
    by triple rest f h = absurd (let k = heads 47 35 _ _ h in omega arith)
    by quadruple rest f h = absurd (let k = heads 47 36 _ _ h in omega arith)
    by aromatic rest f h = absurd (let k = heads 47 58 _ _ h in omega arith)
    by any rest f h = absurd (let k = heads 47 126 _ _ h in omega arith)
    by ring rest f h = absurd (let k = heads 47 64 _ _ h in omega arith)
    by (up true) rest f h = tails 63 63 r rest (tails 47 47 _ _ h)
    by (up false) rest f h = absurd (f r (sym (tails 47 47 _ _ h)))
    by (down m) rest f h = absurd (let k = heads 47 92 _ _ h in omega arith)

pub down_taken : (bytes r : List ℕ) → bytes ≡ 92 ∷ 63 ∷ r → BondPrimAt bytes (Some (words.Down, r))
down_taken bytes r e = record {
  found = (down true, tt, e, tt, refl);
  only = λ x rest is follows h.
      by x rest follows (sym e ∙ h);
}
  where
    by : (x : BondPrim) (rest : List ℕ) → FollowsBondPrim x rest → 92 ∷ 63 ∷ r ≡ bond_prim_text x ++ rest → r ≡ rest
    by single rest f h = absurd (let k = heads 92 45 _ _ h in omega arith)
    by double rest f h = absurd (let k = heads 92 61 _ _ h in omega arith)
    by triple rest f h = absurd (let k = heads 92 35 _ _ h in omega arith)
    by quadruple rest f h = absurd (let k = heads 92 36 _ _ h in omega arith)
    by aromatic rest f h = absurd (let k = heads 92 58 _ _ h in omega arith)
    by any rest f h = absurd (let k = heads 92 126 _ _ h in omega arith)
    by ring rest f h = absurd (let k = heads 92 64 _ _ h in omega arith)
    by (up m) rest f h = absurd (let k = heads 92 47 _ _ h in omega arith)
    by (down true) rest f h = tails 63 63 r rest (tails 92 92 _ _ h)
    by (down false) rest f h = absurd (f r (sym (tails 92 92 _ _ h)))
