-- Expressions that are read from left to right.
use Rattle.std.proofs.Common.{◌≡◌, ◌≢◌, ℕ, zero, suc, List, [], ◌∷◌, ◌++◌, replicate, refl, sym, ◌∙◌, ap, subst, arith, append_assoc}
use Rattle.std.proofs.lemmas.List.{append-nil}
use Rattle.smarts_words.specs.declared.word.Step.{Step}
use Rattle.smarts_words.specs.declared.word.Step.TheVariants as steps
use Rattle.smarts_words.specs.declared.postfix.Joint.{Joint}
use Rattle.smarts_words.specs.declared.postfix.Joint.TheVariants as joints
use Rattle.smarts_words.specs.declared.postfix.Postfix.{Postfix}
use Rattle.smarts_words.specs.Expression.{Operand, Joining, semicolon, comma, ampersand, beside, joining_text, Expression, levels, joined}
use Rattle.smarts_words.specs.Expression as expression
use Rattle.smarts_words.specs.State.{Holds, one_operand, ors_ended, lows_ended, JoinsAt, joins}
use Rattle.smarts_words.proofs.Numbers.{same_run}
use Rattle.smarts_words.proofs.Levels.{combined, combined_semicolon, combined_comma, combined_ampersand, combined_beside, combined_whole}

tails : (a b : ℕ) (r s : List ℕ) → a ∷ r ≡ b ∷ s → r ≡ s
tails a b r s e = cc

heads : (a b : ℕ) (r s : List ℕ) → a ∷ r ≡ b ∷ s → a ≡ b
heads a b r s e = cc

module _ {P W : Type 0} (text : P → List ℕ) (Is : P → Type 0) (Follows : P → List ℕ → Type 0) (word : P → W) (parts : P
    → List (List ℕ)) (End : List ℕ → Type 0) where
  -- the first byte of a primitive
  pub record Starts (p : P) : Type 0 where
    pub byte : ℕ
    pub more : List ℕ
    pub spelled : text p ≡ byte ∷ more
    pub bang : byte ≢ 33
    pub joins : (byte ≢ 59) × (byte ≢ 44) × (byte ≢ 38)

  -- what tells operands, joinings and the end of an expression apart
  pub record Apart : Type 0 where
    pub starts : (p : P) → Is p → Starts p
    pub end_prim : (p : P) (rest : List ℕ) → Is p → End (text p ++ rest) → ⊥
    pub end_bang : (rest : List ℕ) → End (33 ∷ rest) → ⊥
    pub end_semicolon : (rest : List ℕ) → End (59 ∷ rest) → ⊥
    pub end_comma : (rest : List ℕ) → End (44 ∷ rest) → ⊥
    pub end_ampersand : (rest : List ℕ) → End (38 ∷ rest) → ⊥

  abbrev text_of : Expression P → List ℕ
  text_of e = expression.expression_text text Is Follows word parts e

  abbrev operand_of : Operand P → List ℕ
  operand_of x = expression.operand_text text Is Follows word parts x

  abbrev more_of : List (Joining × Operand P) → List ℕ
  more_of xs = expression.more_text text Is Follows word parts xs

  abbrev IsOne : Expression P → List ℕ → Type 0
  IsOne e r = expression.IsExpression text Is Follows word parts e r

  abbrev op : Operand P → List (Step W)
  op x = expression.operand_steps text Is Follows word parts x

  abbrev parts_of : Expression P → List (List ℕ)
  parts_of e = expression.expression_parts text Is Follows word parts e

  -- the bytes that are left, after what is read so far of an expression, and its parts
  pub record Read (bytes rest : List ℕ) (lows ors ands : List (List (Step W))) (found : List (List ℕ)) : Type 0 where
    pub onto : (e : Expression P) (r : List ℕ) → IsOne e r → rest ≡ text_of e ++ r
        → (whole : Expression P) × IsOne whole r × (bytes ≡ text_of whole ++ r)
        × (expression.expression_steps text Is Follows word parts whole
        ≡ combined op lows ors ands (levels e.first e.more)) × (parts_of whole ≡ found ++ parts_of e)
    pub back : (whole : Expression P) (r : List ℕ) → IsOne whole r → End r → bytes ≡ text_of whole ++ r
        → (e : Expression P) × IsOne e r × (rest ≡ text_of e ++ r)

  pub read_none : (bytes : List ℕ) → Read bytes bytes [] [] [] []
  read_none bytes = record {
    onto = λ e r is h. (e, is, h, sym (combined_whole op e.first e.more), refl);
    back =
        λ e r is end h. (e, is, h);
  }

  -- an operand that was read: a primitive after so many `!`
  pub record OperandRead (rest after : List ℕ) (bangs : ℕ) (p : P) : Type 0 where
    pub a : List ℕ
    pub split : rest ≡ replicate bangs 33 ++ a
    pub all : (more : List ℕ) → a ≢ 33 ∷ more
    pub is : Is p
    pub spelled : a ≡ text p ++ after
    pub follows : Follows p after
    pub only : (q : P) (r : List ℕ) → Is q → Follows q r → a ≡ text q ++ r → after ≡ r

  operand_then : (bangs : ℕ) (p : P) (xs : List (Joining × Operand P)) (r : List ℕ)
      → text_of (record { first = record { bangs = bangs; prim = p }; more = xs }) ++ r ≡ replicate bangs 33
      ++ (text p ++ (more_of xs ++ r))
  operand_then bangs p xs r = append_assoc (replicate bangs 33 ++ text p) (more_of xs) r
      ∙ append_assoc (replicate bangs 33) (text p) (more_of xs ++ r)

  no_bang : Apart → (p : P) (rest : List ℕ) → Is p → (more : List ℕ) → text p ++ rest ≢ 33 ∷ more
  no_bang apart p rest is more h = let s = apart.starts p is in
      s.bang (heads s.byte 33 (s.more ++ rest) more (sym (ap (λ v. v ++ rest) s.spelled) ∙ h))

  -- what stands after the operand, in any expression
  operand_only : Apart → (rest after : List ℕ) (bangs : ℕ) (p : P) → OperandRead rest after bangs p
      → (e : Expression P) (r : List ℕ) → IsOne e r → rest ≡ text_of e ++ r → after ≡ more_of e.more ++ r
  operand_only apart rest after bangs p o e r is h =
      let q = e.first.prim in
      let k : replicate bangs 33 ++ o.a ≡ replicate e.first.bangs 33 ++ (text q ++ (more_of e.more ++ r)) = sym o.split
      ∙ h ∙ operand_then e.first.bangs q e.more r in
      let same = same_run bangs e.first.bangs 33 o.a (text q ++ (more_of e.more ++ r)) o.all
      (no_bang apart q (more_of e.more ++ r) is.0) k in
      o.only q (more_of e.more ++ r) is.0 is.1 same.1

  more_then : (j : Joining) (x : Operand P) (xs : List (Joining × Operand P)) (r : List ℕ) → more_of ((j, x) ∷ xs) ++ r
      ≡ joining_text j ++ (text_of (record { first = x; more = xs }) ++ r)
  more_then j x xs r = append_assoc (joining_text j) (operand_of x ++ more_of xs) r

  operand_end : Apart → (x : Operand P) (r : List ℕ) → Is x.prim → End (operand_of x ++ r) → ⊥
  operand_end apart x r is end = by x.bangs x.prim is end
    where
      by : (n : ℕ) (p : P) → Is p → End ((replicate n 33 ++ text p) ++ r) → ⊥
      by zero p is end = apart.end_prim p r is end
      by (suc n) p is end = apart.end_bang _ end

  -- where an expression ends, none goes on
  more_end : Apart → (xs : List (Joining × Operand P)) (r after : List ℕ)
      → expression.AreMore text Is Follows word parts xs r → after ≡ more_of xs ++ r → End after → after ≡ r
  more_end apart [] r after are h end = h
  more_end apart ((semicolon, x) ∷ xs) r after are h end = absurd (apart.end_semicolon _ (subst End h end))
  more_end apart ((comma, x) ∷ xs) r after are h end = absurd (apart.end_comma _ (subst End h end))
  more_end apart ((ampersand, x) ∷ xs) r after are h end = absurd (apart.end_ampersand _ (subst End h end))
  more_end apart ((beside, x) ∷ xs) r after are h end =
      absurd (operand_end apart x (more_of xs ++ r) are.0 (subst End (h ∙ append_assoc (operand_of x) (more_of xs) r)
      end))

  -- the last operand is read
  pub last_found : (bytes rest after : List ℕ) (lows ors ands : List (List (Step W))) (found : List (List ℕ))
      (bangs : ℕ) (p : P) → Read bytes rest lows ors ands found → OperandRead rest after bangs p
      → (whole : Expression P) × IsOne whole after × (bytes ≡ text_of whole ++ after)
      × (expression.expression_steps text Is Follows word parts whole
      ≡ joined steps.And (lows_ended lows ors (ands ++ one_operand bangs (word p) ∷ []))) × (parts_of whole ≡ found
      ++ parts p)
  last_found bytes rest after lows ors ands found bangs p read o =
      let e : Expression P = record { first = record { bangs = bangs; prim = p }; more = [] } in
      let w = read.onto e after (o.is, o.follows, tt) (o.split ∙ ap (λ v. replicate bangs 33 ++ v) o.spelled
      ∙ sym (operand_then bangs p [] after)) in
      (w.0, w.1, w.2, w.3, w.4 ∙ ap (λ v. found ++ v) (append-nil (parts p)))

  pub last_only : Apart → (bytes rest after : List ℕ) (lows ors ands : List (List (Step W))) (found : List (List ℕ))
      (bangs : ℕ) (p : P) → Read bytes rest lows ors ands found → OperandRead rest after bangs p → End after
      → (whole : Expression P) (r : List ℕ) → IsOne whole r → End r → bytes ≡ text_of whole ++ r → after ≡ r
  last_only apart bytes rest after lows ors ands found bangs p read o ends whole r is end h =
      let b = read.back whole r is end h in
      more_end apart b.0.more r after b.1.2 (operand_only apart rest after bangs p o b.0 r b.1 b.2) ends

  -- no operand is read
  pub none_only : Apart → (bytes rest a : List ℕ) (lows ors ands : List (List (Step W))) (found : List (List ℕ))
      (bangs : ℕ) → Read bytes rest lows ors ands found → rest ≡ replicate bangs 33 ++ a
      → ((more : List ℕ) → a ≢ 33 ∷ more)
      → ((q : P) (r : List ℕ) → Is q → Follows q r → a ≡ text q ++ r → ⊥) → (whole : Expression P) (r : List ℕ)
      → IsOne whole r → End r → bytes ≡ text_of whole ++ r → ⊥
  none_only apart bytes rest a lows ors ands found bangs read split all never whole r is end h =
      let b = read.back whole r is end h in
      let e = b.0 in
      let q = e.first.prim in
      let k : replicate bangs 33 ++ a ≡ replicate e.first.bangs 33 ++ (text q ++ (more_of e.more ++ r)) = sym split
      ∙ b.2 ∙ operand_then e.first.bangs q e.more r in
      let same = same_run bangs e.first.bangs 33 a (text q ++ (more_of e.more ++ r)) all
      (no_bang apart q (more_of e.more ++ r) b.1.0) k in
      never q (more_of e.more ++ r) b.1.0 b.1.1 same.1

  -- what joins the next operand is the same in any expression
  operand_joins : Apart → (x : Operand P) (r bs : List ℕ) (b : ℕ) → Is x.prim → operand_of x ++ r ≡ b ∷ bs → (b ≢ 59)
      × (b ≢ 44) × (b ≢ 38)
  operand_joins apart x r bs b is h = by x.bangs x.prim is h
    where
      by : (n : ℕ) (p : P) → Is p → (replicate n 33 ++ text p) ++ r ≡ b ∷ bs → (b ≢ 59) × (b ≢ 44) × (b ≢ 38)
      by zero p is h =
          let s = apart.starts p is in
          let k : s.byte ≡ b = heads s.byte b (s.more ++ r) bs (sym (ap (λ v. v ++ r) s.spelled) ∙ h) in
          (λ e. s.joins.0 (k ∙ e), λ e. s.joins.1 (k ∙ e), λ e. s.joins.2 (k ∙ e))
      by (suc n) p is h =
          let k : 33 ≡ b = heads 33 b _ bs h in
          (λ e. omega arith, λ e. omega arith, λ e. omega arith)

  -- the bytes do not begin with what joins
  abbrev Beside : List ℕ → Type 0
  Beside bytes = (b : ℕ) (bs : List ℕ) → bytes ≡ b ∷ bs → (b ≢ 59) × (b ≢ 44) × (b ≢ 38)

  same_joining : (i j : Joining) (after left right : List ℕ) → after ≡ joining_text i ++ left
      → (i ≡ beside → Beside after) → after ≡ joining_text j ++ right → (j ≡ beside → Beside after) → (i ≡ j)
      × (left ≡ right)
  same_joining semicolon semicolon after left right h f k g = (refl, tails 59 59 left right (sym h ∙ k))
  same_joining semicolon comma after left right h f k g = absurd (let e = heads 59 44 left right (sym h ∙ k) in
      omega arith)
  same_joining semicolon ampersand after left right h f k g = absurd (let e = heads 59 38 left right (sym h ∙ k) in
      omega arith)
  same_joining semicolon beside after left right h f k g = absurd ((g refl 59 left h).0 refl)
  same_joining comma semicolon after left right h f k g = absurd (let e = heads 44 59 left right (sym h ∙ k) in
      omega arith)
  same_joining comma comma after left right h f k g = (refl, tails 44 44 left right (sym h ∙ k))
  same_joining comma ampersand after left right h f k g = absurd (let e = heads 44 38 left right (sym h ∙ k) in
      omega arith)
  same_joining comma beside after left right h f k g = absurd ((g refl 44 left h).1 refl)
  same_joining ampersand semicolon after left right h f k g = absurd (let e = heads 38 59 left right (sym h ∙ k) in
      omega arith)
  same_joining ampersand comma after left right h f k g = absurd (let e = heads 38 44 left right (sym h ∙ k) in
      omega arith)
  same_joining ampersand ampersand after left right h f k g = (refl, tails 38 38 left right (sym h ∙ k))
  same_joining ampersand beside after left right h f k g = absurd ((g refl 38 left h).2 refl)
  same_joining beside semicolon after left right h f k g = absurd ((f refl 59 right k).0 refl)
  same_joining beside comma after left right h f k g = absurd ((f refl 44 right k).1 refl)
  same_joining beside ampersand after left right h f k g = absurd ((f refl 38 right k).2 refl)
  same_joining beside beside after left right h f k g = (refl, sym h ∙ k)

  next_back : Apart → (after left r : List ℕ) (i : Joining) → after ≡ joining_text i ++ left
      → (i ≡ beside → Beside after) → (End after → ⊥) → End r → (xs : List (Joining × Operand P))
      → expression.AreMore text Is Follows word parts xs r
      → after ≡ more_of xs ++ r → (e : Expression P) × IsOne e r × (left ≡ text_of e ++ r)
  next_back apart after left r i h f goes end [] are k = absurd (goes (subst End (sym k) end))
  next_back apart after left r i h f goes end ((j, x) ∷ xs) are k =
      let e : Expression P = record { first = x; more = xs } in
      let right = text_of e ++ r in
      let split : after ≡ joining_text j ++ right = k ∙ more_then j x xs r in
      let g : j ≡ beside → Beside after = λ same b bs front. operand_joins apart x (more_of xs ++ r) bs b are.0
      (sym (append_assoc (operand_of x) (more_of xs) r) ∙ sym (ap (λ v. joining_text v ++ right) same) ∙ sym split
      ∙ front) in
      (e, are, (same_joining i j after left right h f split g).1)

  -- the next operand is joined so
  next_by : (bytes rest after left : List ℕ) (lows ors ands lows' ors' ands' : List (List (Step W)))
      (found : List (List ℕ)) (bangs : ℕ) (p : P) (i : Joining) → Apart → Read bytes rest lows ors ands found
      → OperandRead rest after bangs p
      → after ≡ joining_text i ++ left → (i ≡ beside → Beside after) → (End after → ⊥)
      → ((y : Operand P) (more : List (Joining × Operand P))
      → combined op lows ors ands (levels (record { bangs = bangs; prim = p }) ((i, y) ∷ more))
      ≡ combined op lows' ors' ands' (levels y more))
      → Read bytes left lows' ors' ands' (found ++ parts p)
  next_by bytes rest after left lows ors ands lows' ors' ands' found bangs p i apart read o h f goes same = record {
    onto = λ e r is k.
        let x : Operand P = record { bangs = bangs; prim = p } in
        let new : Expression P = record { first = x; more = (i, e.first) ∷ e.more } in
        let rest_is : more_of ((i, e.first) ∷ e.more) ++ r ≡ after = more_then i e.first e.more r
        ∙ sym (ap (λ v. joining_text i ++ v) k) ∙ sym h in
        let w = read.onto new r (o.is, subst (λ (v : List ℕ). Follows p v) (sym rest_is) o.follows, is)
        (o.split ∙ ap (λ v. replicate bangs 33 ++ v) (o.spelled ∙ ap (λ v. text p ++ v) (sym rest_is))
        ∙ sym (operand_then bangs p ((i, e.first) ∷ e.more) r)) in
        (w.0, w.1, w.2, w.3 ∙ same e.first e.more, w.4 ∙ sym (append_assoc found (parts p) (parts_of e)));
    back = λ whole r is end k.
        let b = read.back whole r is end k in
        next_back apart after left r i h f goes end b.0.more b.1.2 (operand_only apart rest after bangs p o b.0 r b.1
        b.2);
  }

  -- after what joins: the parts so far, and what is left
  pub record Goes (bytes left : List ℕ) (postfix : Postfix W) (found : List (List ℕ)) : Type 0 where
    pub lows : List (List (Step W))
    pub ors : List (List (Step W))
    pub ands : List (List (Step W))
    pub holds : Holds lows ors ands postfix
    pub read : Read bytes left lows ors ands found

  pub next_goes : Apart → (bytes rest after left : List ℕ) (lows ors ands : List (List (Step W)))
      (found : List (List ℕ)) (bangs : ℕ) (p : P) (joint : Joint) (old new : Postfix W)
      → Read bytes rest lows ors ands found → OperandRead rest after bangs p
      → Holds lows ors (ands ++ one_operand bangs (word p) ∷ []) old → JoinsAt after joint left → (End after → ⊥)
      → (joint ≡ joints.Semicolon → (l o a : List (List (Step W))) → Holds l o a old
      → Holds (lows_ended l o a) [] [] new)
      → (joint ≡ joints.Comma → (l o a : List (List (Step W))) → Holds l o a old → Holds l (ors_ended o a) [] new)
      → (joint ≡ joints.And → new ≡ old) → Goes bytes left new (found ++ parts p)
  next_goes apart bytes rest after left lows ors ands found bangs p joint old new read o holds (joins semicolon e h f)
      goes s c a =
      let x : Operand P = record { bangs = bangs; prim = p } in
      record {
        lows = lows_ended lows ors (ands ++ op x ∷ []);
        ors = [];
        ands = [];
        holds =
            s (sym e) lows ors (ands ++ op x ∷ []) holds;
        read = next_by bytes rest after left lows ors ands _ _ _ found
            bangs p semicolon apart read o h f goes (combined_semicolon op lows ors ands x);
      }
  next_goes apart bytes rest after left lows ors ands found bangs p joint old new read o holds (joins comma e h f) goes
      s c a =
      let x : Operand P = record { bangs = bangs; prim = p } in
      record {
        lows = lows;
        ors = ors_ended ors (ands ++ op x ∷ []);
        ands = [];
        holds =
            c (sym e) lows ors (ands ++ op x ∷ []) holds;
        read = next_by bytes rest after left lows ors ands _ _ _ found
            bangs p comma apart read o h f goes (combined_comma op lows ors ands x);
      }
  next_goes apart bytes rest after left lows ors ands found bangs p joint old new read o holds (joins ampersand e h f)
      goes s c a =
      let x : Operand P = record { bangs = bangs; prim = p } in
      record {
        lows = lows;
        ors = ors;
        ands = ands ++ op x ∷ [];
        holds =
            subst (λ (v : Postfix W). Holds lows ors (ands ++ op x ∷ []) v) (sym (a (sym e))) holds;
        read =
            next_by bytes rest after left lows ors ands _ _ _ found bangs p ampersand apart read o h f goes
            (combined_ampersand op lows ors ands x);
      }
  next_goes apart bytes rest after left lows ors ands found bangs p joint old new read o holds (joins beside e h f) goes
      s c a =
      let x : Operand P = record { bangs = bangs; prim = p } in
      record {
        lows = lows;
        ors = ors;
        ands = ands ++ op x ∷ [];
        holds =
            subst (λ (v : Postfix W). Holds lows ors (ands ++ op x ∷ []) v) (sym (a (sym e))) holds;
        read =
            next_by bytes rest after left lows ors ands _ _ _ found bangs p beside apart read o h f goes
            (combined_beside op lows ors ands x);
      }

  -- primitives that are spelled alike are the same
  abbrev pub AreOne : Type 0
  AreOne = (p q : P) (r s : List ℕ) → Is p → Is q → Follows p r → Follows q s → text p ++ r ≡ text q ++ s → p ≡ q

  append_same : (xs r s : List ℕ) → xs ++ r ≡ xs ++ s → r ≡ s
  append_same [] r s h = h
  append_same (x ∷ xs) r s h = append_same xs r s (tails x x (xs ++ r) (xs ++ s) h)

  operand_by : (m n : ℕ) (p q : P) → m ≡ n → p ≡ q → (let x : Operand P = record { bangs = m; prim = p } in x)
      ≡ record { bangs = n; prim = q }
  operand_by m n p q e f = cc

  same_operand : Apart → AreOne → (x y : Operand P) (r s : List ℕ) → Is x.prim → Is y.prim → Follows x.prim r
      → Follows y.prim s → operand_of x ++ r ≡ operand_of y ++ s → (x ≡ y) × (r ≡ s)
  same_operand apart same x y r s is js f g h =
      let k : replicate x.bangs 33 ++ (text x.prim ++ r) ≡ replicate y.bangs 33 ++ (text y.prim ++ s) =
      sym (append_assoc (replicate x.bangs 33) (text x.prim) r) ∙ h
      ∙ append_assoc (replicate y.bangs 33) (text y.prim) s in
      let runs = same_run x.bangs y.bangs 33 (text x.prim ++ r) (text y.prim ++ s) (no_bang apart x.prim r is)
      (no_bang apart y.prim s js) k in
      let p = same x.prim y.prim r s is js f g runs.1 in (
        operand_by x.bangs y.bangs x.prim y.prim runs.0 p,
        append_same (text y.prim) r s (sym (ap (λ v. text v ++ r) p)
            ∙ runs.1),
      )

  more_not_end : Apart → (j : Joining) (x : Operand P) (xs : List (Joining × Operand P)) (r after : List ℕ) → Is x.prim
      → after ≡ more_of ((j, x) ∷ xs) ++ r → End after → ⊥
  more_not_end apart semicolon x xs r after is h end = apart.end_semicolon _ (subst End h end)
  more_not_end apart comma x xs r after is h end = apart.end_comma _ (subst End h end)
  more_not_end apart ampersand x xs r after is h end = apart.end_ampersand _ (subst End h end)
  more_not_end apart beside x xs r after is h end = operand_end apart x (more_of xs ++ r) is
      (subst End (h ∙ append_assoc (operand_of x) (more_of xs) r) end)

  beside_goes : Apart → (j : Joining) (x : Operand P) (xs : List (Joining × Operand P)) (r after : List ℕ) → Is x.prim
      → after ≡ more_of ((j, x) ∷ xs) ++ r → j ≡ beside → Beside after
  beside_goes apart j x xs r after is h same b bs front =
      operand_joins apart x (more_of xs ++ r) bs b is (sym (append_assoc (operand_of x) (more_of xs) r)
      ∙ sym (ap (λ v. joining_text v ++ ((operand_of x ++ more_of xs) ++ r)) same)
      ∙ sym (append_assoc (joining_text j) (operand_of x ++ more_of xs) r) ∙ sym h ∙ front)

  pair_by : (i j : Joining) (x y : Operand P) (xs ys : List (Joining × Operand P)) → i ≡ j → x ≡ y → xs ≡ ys
      → (i, x) ∷ xs ≡ (j, y) ∷ ys
  pair_by i j x y xs ys e f g = cc

  pub same_more : Apart → AreOne → (xs ys : List (Joining × Operand P)) (r s : List ℕ)
      → expression.AreMore text Is Follows word parts xs r → expression.AreMore text Is Follows word parts ys s → End r
      → End s → more_of xs ++ r ≡ more_of ys ++ s
      → (xs ≡ ys) × (r ≡ s)
  same_more apart same [] [] r s are bre er es h = (refl, h)
  same_more apart same [] ((j, y) ∷ ys) r s are bre er es h = absurd (more_not_end apart j y ys s r bre.0 h er)
  same_more apart same ((i, x) ∷ xs) [] r s are bre er es h = absurd (more_not_end apart i x xs r s are.0 (sym h) es)
  same_more apart same ((i, x) ∷ xs) ((j, y) ∷ ys) r s are bre er es h =
      let after = more_of ((i, x) ∷ xs) ++ r in
      let left = (operand_of x ++ more_of xs) ++ r in
      let right = (operand_of y ++ more_of ys) ++ s in
      let p = same_joining i j after left right (append_assoc (joining_text i) (operand_of x ++ more_of xs) r)
      (beside_goes apart i x xs r after are.0 refl) (h ∙ append_assoc (joining_text j) (operand_of y ++ more_of ys)
      s) (beside_goes apart j y ys s after bre.0 h) in
      let q = same_operand apart same x y (more_of xs ++ r) (more_of ys ++ s) are.0 bre.0 are.1 bre.1
      (sym (append_assoc (operand_of x) (more_of xs) r) ∙ p.1 ∙ append_assoc (operand_of y) (more_of ys) s) in
      let t = same_more apart same xs ys r s are.2 bre.2 er es q.1 in
      (pair_by i j x y xs ys p.0 q.0 t.0, t.1)

  expression_by : (x y : Operand P) (xs ys : List (Joining × Operand P)) → x ≡ y → xs ≡ ys
      → (let e : Expression P = record { first = x; more = xs } in e) ≡ record { first = y; more = ys }
  expression_by x y xs ys e f = cc

  -- expressions that are spelled alike are the same, where both end
  pub same_expression : Apart → AreOne → (d e : Expression P) (r s : List ℕ) → IsOne d r → IsOne e s → End r → End s
      → text_of d ++ r ≡ text_of e ++ s → (d ≡ e) × (r ≡ s)
  same_expression apart same d e r s id ie er es h =
      let p = same_operand apart same d.first e.first (more_of d.more ++ r) (more_of e.more ++ s) id.0 ie.0 id.1 ie.1
      (sym (append_assoc (operand_of d.first) (more_of d.more) r) ∙ h
      ∙ append_assoc (operand_of e.first) (more_of e.more) s) in
      let q = same_more apart same d.more e.more r s id.2 ie.2 er es p.1 in
      (expression_by d.first e.first d.more e.more p.0 q.0, q.1)
