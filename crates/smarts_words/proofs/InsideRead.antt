-- Atom expressions that are read.
use Rattle.std.proofs.Common.{◌≡◌, ◌≢◌, ℕ, List, [], ◌∷◌, ◌++◌, replicate, Some, None, ◌⊎◌, inl, inr, sym, ◌∙◌, ap, subst, arith}
use Rattle.smarts_words.specs.declared.word.AtomWord.{AtomWord}
use Rattle.smarts_words.specs.declared.postfix.Postfix.{Postfix}
use Rattle.smarts_words.specs.Prims.{Prim, prim_text, IsPrim, FollowsPrim, word_of, part_of}
use Rattle.smarts_words.specs.declared.word.Step.{Step}
use Rattle.smarts_words.specs.declared.word.Step.TheVariants as steps
use Rattle.smarts_words.specs.declared.postfix.Joint.{Joint}
use Rattle.smarts_words.specs.declared.postfix.Joint.TheVariants as joints
use Rattle.smarts_words.specs.Expression.{Expression, joined}
use Rattle.smarts_words.specs.Expression as expression
use Rattle.smarts_words.specs.Bracket.{AtomValue, expression_text, IsExpression}
use Rattle.smarts_words.specs.Follow.{PrimAt, IsInsideRead}
use Rattle.smarts_words.specs.State.{Holds, one_operand, ors_ended, lows_ended, JoinsAt, EndsInside}
use Rattle.smarts_words.proofs.FirstBytes.{KindAt, at_stereo, at_atomic, at_charge, at_mass, at_part, at_letter, first_of}
use Rattle.smarts_words.proofs.Expressions.{Apart, Goes, OperandRead, read_none, last_found, last_only, none_only, next_goes}

-- the first byte of a primitive is none of these
record Other (b : ℕ) : Type 0 where
  bang : b ≢ 33
  semicolon : b ≢ 59
  comma : b ≢ 44
  ampersand : b ≢ 38
  end : b ≢ 93
  colon : b ≢ 58

other : (b : ℕ) (x : Prim) → KindAt b x → Other b
other b x (at_stereo s e k) = record {
  bang = λ h. omega arith;
  semicolon = λ h. omega arith;
  comma = λ h. omega arith;
  ampersand = λ h. omega arith;
  end = λ h. omega arith;
  colon = λ h. omega arith;
}
other b x (at_atomic ds e k) = record {
  bang = λ h. omega arith;
  semicolon = λ h. omega arith;
  comma = λ h. omega arith;
  ampersand = λ h. omega arith;
  end = λ h. omega arith;
  colon = λ h. omega arith;
}
other b x (at_charge s e (inl k)) = record {
  bang = λ h. omega arith;
  semicolon = λ h. omega arith;
  comma =
      λ h. omega arith;
  ampersand = λ h. omega arith;
  end = λ h. omega arith;
  colon = λ h. omega arith;
}
other b x (at_charge s e (inr k)) = record {
  bang = λ h. omega arith;
  semicolon = λ h. omega arith;
  comma =
      λ h. omega arith;
  ampersand = λ h. omega arith;
  end = λ h. omega arith;
  colon = λ h. omega arith;
}
other b x (at_mass ds e k) = let low = k.0 in let high = k.1 in record {
  bang = λ h. omega arith;
  semicolon =
      λ h. omega arith;
  comma = λ h. omega arith;
  ampersand = λ h. omega arith;
  end = λ h. omega arith;
  colon =
      λ h. omega arith;
}
other b x (at_part t e k) = record {
  bang = λ h. omega arith;
  semicolon = λ h. omega arith;
  comma = λ h. omega arith;
  ampersand = λ h. omega arith;
  end = λ h. omega arith;
  colon = λ h. omega arith;
}
other b x (at_letter h (inl k)) = record {
  bang = λ h. omega arith;
  semicolon = λ h. omega arith;
  comma =
      λ h. omega arith;
  ampersand = λ h. omega arith;
  end = λ h. omega arith;
  colon = λ h. omega arith;
}
other b x (at_letter h (inr k)) = let low = k.0 in record {
  bang = λ h. omega arith;
  semicolon = λ h. omega arith;
  comma = λ h. omega arith;
  ampersand = λ h. omega arith;
  end = k.1;
  colon = λ h. omega arith;
}

ends_by : (b : ℕ) → Other b → (b ≡ 93) ⊎ (b ≡ 58) → ⊥
ends_by b o (inl e) = o.end e
ends_by b o (inr e) = o.colon e

pub inside_apart : Apart prim_text IsPrim FollowsPrim word_of part_of EndsInside
inside_apart = record {
  starts = λ p is.
      let f = first_of p is in
      let o = other f.byte p f.kind in
      record {
        byte = f.byte;
        more = f.more;
        spelled = f.spelled;
        bang = o.bang;
        joins =
            (o.semicolon, o.comma, o.ampersand);
      };
  end_prim = λ p rest is end.
      let f = first_of p is in
      ends_by f.byte (other f.byte p f.kind) (subst EndsInside (ap (λ v. v ++ rest) f.spelled) end);
  end_bang = λ rest end. elim end [ inl e ↦ omega arith | inr e ↦ omega arith ];
  end_semicolon = λ rest end. elim end [ inl e ↦ omega arith | inr e ↦ omega arith ];
  end_comma = λ rest end. elim end [ inl e ↦ omega arith | inr e ↦ omega arith ];
  end_ampersand = λ rest end. elim end [ inl e ↦ omega arith | inr e ↦ omega arith ];
}

abbrev pub InsideGoes : List ℕ → List ℕ → Postfix AtomWord → List (List ℕ) → Type 0
InsideGoes bytes rest postfix found = Goes prim_text IsPrim FollowsPrim word_of part_of EndsInside bytes rest postfix
    found

abbrev pub InsideOperand : List ℕ → List ℕ → ℕ → Prim → Type 0
InsideOperand rest after bangs p = OperandRead prim_text IsPrim FollowsPrim word_of part_of EndsInside rest after bangs
    p

-- an operand that was read
pub record WordRead (rest after : List ℕ) (bangs : ℕ) (word : AtomWord) (parts : List (List ℕ)) : Type 0 where
  pub prim : Prim
  pub operand : InsideOperand rest after bangs prim
  pub word_is : word ≡ word_of prim
  pub parts_are : parts ≡ part_of prim

pub word_read : (rest a after : List ℕ) (bangs : ℕ) (word : AtomWord) (parts : List (List ℕ))
    → rest ≡ replicate bangs 33 ++ a → ((more : List ℕ) → a ≢ 33 ∷ more) → PrimAt a (Some ((word, parts), after))
    → WordRead rest after bangs word parts
word_read rest a after bangs word parts split all at =
    let f = at.found in
    let value : (word, parts) ≡ (word_of f.0, part_of f.0) = f.4 in
    record {
      prim = f.0;
      operand = record {
        a = a;
        split = split;
        all = all;
        is = f.1;
        spelled = f.2;
        follows = f.3;
        only =
            λ q r is follows h. at.only q r is follows h;
      };
      word_is = ap (λ (v : AtomWord × List (List ℕ)). v.0) value;
      parts_are = ap (λ (v : AtomWord × List (List ℕ)). v.1) value;
    }

-- the last operand
pub inside_last : (bytes rest after : List ℕ) (old new : Postfix AtomWord) (before found : List (List ℕ)) (bangs : ℕ)
    (word : AtomWord) (parts : List (List ℕ)) (ss : List (Step AtomWord)) → InsideGoes bytes rest old before
    → WordRead rest after bangs word parts
    → found ≡ before ++ parts → ((l o a : List (List (Step AtomWord))) → Holds l o a old
    → Holds l o (a ++ one_operand bangs word ∷ []) new)
    → ((l o a : List (List (Step AtomWord))) → Holds l o a new → ss ≡ joined steps.And (lows_ended l o a))
    → IsInsideRead bytes (record { steps = ss; parts = found }) after
inside_last bytes rest after old new before found bangs word parts ss goes w all put ended =
    let p = w.prim in
    let e = last_found prim_text IsPrim FollowsPrim word_of part_of EndsInside bytes rest after goes.lows goes.ors
    goes.ands before bangs p goes.read w.operand in
    let same = ended goes.lows goes.ors (goes.ands ++ one_operand bangs word ∷ [])
    (put goes.lows goes.ors goes.ands goes.holds) in
    let steps_are : ss ≡ expression.expression_steps prim_text IsPrim FollowsPrim word_of part_of e.0 = same
    ∙ ap (λ v. joined steps.And (lows_ended goes.lows goes.ors (goes.ands ++ one_operand bangs v ∷ []))) w.word_is
    ∙ sym e.3 in
    let parts_are : found ≡ expression.expression_parts prim_text IsPrim FollowsPrim word_of part_of e.0 = all
    ∙ ap (λ v. before ++ v) w.parts_are ∙ sym e.4 in
    (e.0, e.1, e.2, value_by _ _ _ _ steps_are parts_are)
  where
    value_by : (s t : List (Step AtomWord)) (f g : List (List ℕ)) → s ≡ t → f ≡ g
        → (let v : AtomValue = record { steps = s; parts = f } in v) ≡ record { steps = t; parts = g }
    value_by s t f g p q = cc

pub inside_only : (bytes rest after : List ℕ) (old : Postfix AtomWord) (before : List (List ℕ)) (bangs : ℕ)
    (word : AtomWord) (parts : List (List ℕ)) → InsideGoes bytes rest old before → WordRead rest after bangs word parts
    → EndsInside after
    → (e : Expression Prim) (r : List ℕ) → IsExpression e r → EndsInside r → bytes ≡ expression_text e ++ r → after ≡ r
inside_only bytes rest after old before bangs word parts goes w ends = last_only prim_text IsPrim FollowsPrim word_of
    part_of EndsInside inside_apart bytes rest after goes.lows goes.ors goes.ands before bangs w.prim goes.read
    w.operand ends

pub inside_never : (bytes rest a : List ℕ) (old : Postfix AtomWord) (before : List (List ℕ)) (bangs : ℕ)
    → InsideGoes bytes rest old before → rest ≡ replicate bangs 33 ++ a → ((more : List ℕ) → a ≢ 33 ∷ more)
    → PrimAt a None
    → (e : Expression Prim) (r : List ℕ) → IsExpression e r → EndsInside r → bytes ≡ expression_text e ++ r → ⊥
inside_never bytes rest a old before bangs goes split all at = none_only prim_text IsPrim FollowsPrim word_of part_of
    EndsInside inside_apart bytes rest a goes.lows goes.ors goes.ands before bangs goes.read split all at.only

pub inside_next : (bytes rest after left : List ℕ) (old middle new : Postfix AtomWord) (before found : List (List ℕ))
    (bangs : ℕ) (word : AtomWord) (parts : List (List ℕ)) (joint : Joint) → InsideGoes bytes rest old before
    → WordRead rest after bangs word parts
    → found ≡ before ++ parts → ((l o a : List (List (Step AtomWord))) → Holds l o a old
    → Holds l o (a ++ one_operand bangs word ∷ []) middle) → JoinsAt after joint left → (EndsInside after → ⊥)
    → (joint ≡ joints.Semicolon → (l o a : List (List (Step AtomWord))) → Holds l o a middle
    → Holds (lows_ended l o a) [] [] new)
    → (joint ≡ joints.Comma → (l o a : List (List (Step AtomWord))) → Holds l o a middle
    → Holds l (ors_ended o a) [] new)
    → (joint ≡ joints.And → new ≡ middle) → InsideGoes bytes left new found
inside_next bytes rest after left old middle new before found bangs word parts joint goes w all put at not_end s c a =
    let p = w.prim in
    let held = put goes.lows goes.ors goes.ands goes.holds in
    let held' = subst (λ (v : AtomWord). Holds goes.lows goes.ors (goes.ands ++ one_operand bangs v ∷ []) middle)
    w.word_is held in
    subst (λ (v : List (List ℕ)). InsideGoes bytes left new v) (sym (all ∙ ap (λ v. before ++ v) w.parts_are))
    (next_goes prim_text IsPrim FollowsPrim word_of part_of EndsInside inside_apart bytes rest after left goes.lows
    goes.ors goes.ands before bangs p joint middle new goes.read w.operand held' at not_end s c a)

pub inside_begins : (bytes : List ℕ) (postfix : Postfix AtomWord) → Holds [] [] [] postfix
    → InsideGoes bytes bytes postfix []
inside_begins bytes postfix holds = record {
  lows = [];
  ors = [];
  ands = [];
  holds = holds;
  read =
      read_none prim_text IsPrim FollowsPrim word_of part_of EndsInside bytes;
}
