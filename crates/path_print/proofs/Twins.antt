-- What follows a step follows one of two atoms that the same step leads to.
use Rattle.std.proofs.Common.{ℕ, zero, suc, ◌+◌, ◌<◌, ◌≡◌, ◌≢◌, inl, inr, Bool, true, false, cond, List, [], ◌∷◌, ◌++◌, length, get_or, reverse, refl, sym, ap, ◌∙◌, subst, arith}
use Rattle.std.specs.Prelude.{Option, Some, AllPairs, Contains, option_map, count_by}
use Rattle.std.proofs.lemmas.Bool.{cases_eq}
use Rattle.std.proofs.lemmas.List.{length-append, get_or_append_left, get_or_default}
use Rattle.std.proofs.lemmas.List.Quantifiers.{all_pairs_push}
use Rattle.std.proofs.lemmas.List.Sums.{sum_by-cons, count_by-le-length}
use Rattle.std.proofs.lemmas.Nat.{mod_below}
use Rattle.chem_core.specs.Bits.{HasBit}
use Rattle.path_print.specs.Path.{◌>>=◌, Family, View, string_of, hash_of, lesser, bit_of, IsPath}
use Rattle.path_print.specs.Texts.{IsBitFrom, IsCounted, SetsBits, grown, last_of}
use Rattle.path_print.specs.Sheets.{AreSet}
use Rattle.path_print.proofs.Grown.{distinct_turned, length-grown}

-- a string of a label, a byte and the rest
abbrev glue : Option (ℕ × ℕ) → Option ℕ → Option (List ℕ) → Option (List ℕ)
glue label byte rest = do
  l ← label
  bond ← byte
  r ← rest
  Some (l.0 ∷ l.1 ∷ bond ∷ r)

-- another first atom
head_same : (v : View) (y f c : ℕ) (rest : List ℕ) → v.label y ≡ v.label f → v.byte y c ≡ v.byte f c
    → string_of v (f ∷ c ∷ rest) ≡ string_of v (y ∷ c ∷ rest)
head_same v y f c rest label byte =
    ap (λ l. glue l (v.byte f c) (string_of v (c ∷ rest))) (sym label)
    ∙ ap (λ b. glue (v.label y) b (string_of v (c ∷ rest))) (sym byte)

-- another last atom
last_same : (v : View) (y f c : ℕ) → v.label y ≡ v.label f → v.byte c y ≡ v.byte c f
    → string_of v (c ∷ f ∷ []) ≡ string_of v (c ∷ y ∷ [])
last_same v y f c label byte =
    ap (λ b. glue (v.label c) b (string_of v (f ∷ []))) (sym byte)
    ∙ ap (λ o. glue (v.label c) (v.byte c y) (option_map (λ l. l.0 ∷ l.1 ∷ []) o)) (sym label)

more_same : (v : View) (x c : ℕ) (xs ys : List ℕ) → string_of v (c ∷ xs) ≡ string_of v (c ∷ ys)
    → string_of v (x ∷ c ∷ xs) ≡ string_of v (x ∷ c ∷ ys)
more_same v x c xs ys same = ap (glue (v.label x) (v.byte x c)) same

-- distinct atoms with another last one
other_last : (xs : List ℕ) (y f : ℕ) → AllPairs ◌≢◌ (xs ++ y ∷ []) → (Contains xs f → ⊥)
    → AllPairs ◌≢◌ (xs ++ f ∷ [])
other_last xs y f distinct new = all_pairs_push ◌≢◌ xs f front
    (λ k d within same. new (k, within, get_or_default xs k f d within ∙ same))
  where
    front : AllPairs ◌≢◌ xs
    front i j d lo hi same =
        let hi' : j < length (xs ++ y ∷ []) = rw length-append (omega arith) in
        distinct i j d lo hi' (get_or_append_left xs (y ∷ []) d i (omega arith) ∙ same
        ∙ sym (get_or_append_left xs (y ∷ []) d j hi))

module _ (views : Family → View) (symmetric : (family : Family) (x y : ℕ)
    → (views family).byte x y ≡ (views family).byte y x) (a b c y f : ℕ)
    (byte : (family : Family) → (views family).byte c y ≡ (views family).byte c f)
    (label : (family : Family) → (views family).label y ≡ (views family).label f)
    (new : Contains (a ∷ b ∷ c ∷ []) f → ⊥) where
  turned_byte : (family : Family) → (views family).byte y c ≡ (views family).byte f c
  turned_byte family = symmetric family y c ∙ byte family ∙ symmetric family c f

  four : (family : Family) (there back : List ℕ) → IsPath (views family) (y ∷ c ∷ b ∷ a ∷ []) there back
      → IsPath (views family) (f ∷ c ∷ b ∷ a ∷ []) there back
  four family there back path =
      let v = views family in
      record {
        short = path.short;
        distinct = distinct_turned (a ∷ b ∷ c ∷ f ∷ [])
            (other_last (a ∷ b ∷ c ∷ []) y f (distinct_turned (y ∷ c ∷ b ∷ a ∷ []) path.distinct) new);
        reads = head_same v y f c (b ∷ a ∷ []) (label family) (turned_byte family) ∙ path.reads;
        reads_back = more_same v a b (c ∷ f ∷ []) (c ∷ y ∷ []) (more_same v b c (f ∷ []) (y ∷ [])
            (last_same v y f c (label family) (byte family))) ∙ path.reads_back;
      }

  five : (z : ℕ) → z ≢ f → (family : Family) (there back : List ℕ)
      → IsPath (views family) (z ∷ a ∷ b ∷ c ∷ y ∷ []) there back
      → IsPath (views family) (z ∷ a ∷ b ∷ c ∷ f ∷ []) there back
  five z other family there back path =
      let v = views family in
      record {
        short = path.short;
        distinct = other_last (z ∷ a ∷ b ∷ c ∷ []) y f path.distinct fresh;
        reads = more_same v z a (b ∷ c ∷ f ∷ []) (b ∷ c ∷ y ∷ []) (more_same v a b (c ∷ f ∷ []) (c ∷ y ∷ [])
            (more_same v b c (f ∷ []) (y ∷ []) (last_same v y f c (label family) (byte family)))) ∙ path.reads;
        reads_back = head_same v y f c (b ∷ a ∷ z ∷ []) (label family) (turned_byte family) ∙ path.reads_back;
      }
    where
      fresh : Contains (z ∷ a ∷ b ∷ c ∷ []) f → ⊥
      fresh (zero, within, same) = other same
      fresh (suc k, within, same) = new (k, omega (arith, within), same)

-- Three atoms go on by one step to three others. If all is marked from the first of these, and from the second on to
-- the first, all is marked from the third.
pub twins_set : (views : Family → View) → ((family : Family) (x y : ℕ)
    → (views family).byte x y ≡ (views family).byte y x) → (atoms : List ℕ) → length atoms ≡ 3
    → (first second y : ℕ) (print : _)
    → ((family : Family) → (views family).byte (last_of atoms) y ≡ (views family).byte (last_of atoms) first)
    → ((family : Family) → (views family).label y ≡ (views family).label first)
    → ((family : Family) → (views family).byte (last_of atoms) y ≡ (views family).byte (last_of atoms) second)
    → ((family : Family) → (views family).label y ≡ (views family).label second)
    → (Contains atoms first → ⊥) → (Contains atoms second → ⊥) → second ≢ first
    → AreSet views (first ∷ reverse atoms) print
    → AreSet views (first ∷ reverse (second ∷ reverse atoms)) print
    → AreSet views (y ∷ reverse atoms) print
twins_set views symmetric (a ∷ b ∷ c ∷ []) three first second y print byte label byte2 label2 new new2 apart set set2
    bit from = at from.0 from.1 from.2 from.3 from.4 from.5 from.6
  where
    at : (family : Family) (more there back : List ℕ) → IsPath (views family) (grown (y ∷ c ∷ b ∷ a ∷ []) more) there
        back → IsCounted (grown (y ∷ c ∷ b ∷ a ∷ []) more) → bit ≡ bit_of there back → HasBit print bit
    at family [] there back path counted is =
        set bit (
          family,
          [],
          there,
          back,
          four views symmetric a b c y first byte label new family there back path,
          counted,
          is,
        )
    at family (z ∷ []) there back path counted is = elim (cases_eq z first) [
      | inl same ↦
          let apart' : z ≢ second = λ e. apart (sym e ∙ same) in
          set2 bit (
            family,
            [],
            there,
            back,
            subst (λ w. IsPath (views family) (w ∷ a ∷ b ∷ c ∷ second ∷ []) there back)
                same (five views symmetric a b c y second byte2 label2 new2 z apart' family there back path),
            counted,
            is,
          )
      | inr other ↦ set bit (
        family,
        z ∷ [],
        there,
        back,
        five views symmetric a b c y first byte label new z other family there back path,
        counted,
        is,
      )
    ]
    at family (z ∷ w ∷ ws) there back path counted is =
        let short = path.short in
        let grows = length-grown (y ∷ c ∷ b ∷ a ∷ []) (z ∷ w ∷ ws) in
        absurd (omega (arith, short, grows))
twins_set views symmetric [] three first second y print byte label byte2 label2 new new2 apart set set2 bit from =
    absurd (omega (arith, three))
twins_set views symmetric (a ∷ []) three first second y print byte label byte2 label2 new new2 apart set set2 bit
    from = absurd (omega (arith, three))
twins_set views symmetric (a ∷ b ∷ []) three first second y print byte label byte2 label2 new new2 apart set set2 bit
    from = absurd (omega (arith, three))
twins_set views symmetric (a ∷ b ∷ c ∷ d ∷ xs) three first second y print byte label byte2 label2 new new2 apart set
    set2 bit from = absurd (omega (arith, three))

-- where all is marked, nothing is set
pub sets_again : (F : ℕ → Type 0) (print : _) → ((bit : ℕ) → F bit → HasBit print bit) → SetsBits F print print
sets_again F print all = record {
  size = refl;
  bits = λ bit. (λ h. inl h, λ h. elim h [ inl old ↦ old | inr f ↦ all bit f ]);
}

-- where more is set that is of a kind, and with it all of the kind
pub more_set : (F G : ℕ → Type 0) (old new : _) → SetsBits F old new → ((bit : ℕ) → F bit → G bit)
    → ((bit : ℕ) → G bit → HasBit new bit) → SetsBits G old new
more_set F G old new sets kind all = record {
  size = sets.size;
  bits = λ bit. (
    λ h. elim ((sets.bits bit).0 h) [ inl was ↦ inl was | inr f ↦ inr (kind bit f) ],
    λ h. elim h [ inl was ↦ (sets.bits bit).1 (inl was) | inr g ↦ all bit g ],
  );
}

-- ---- a print with all bits

-- where as many are set as there are, each is
pub all_counted : (bits : List Bool) → count_by (λ b. b) bits ≡ length bits → (i : ℕ) → i < length bits
    → get_or bits i false ≡ true
all_counted [] all i lt = absurd (omega (arith, lt))
all_counted (x ∷ xs) all i lt = at x (sym (sum_by-cons (λ b. cond b 1 0) x xs) ∙ all) i lt
    (λ more j below. all_counted xs more j below)
  where
    at : (b : Bool) → cond b 1 0 + count_by (λ b. b) xs ≡ suc (length xs) → (i : ℕ) → i < suc (length xs)
        → (count_by (λ b. b) xs ≡ length xs → (j : ℕ) → j < length xs → get_or xs j false ≡ true)
        → get_or (b ∷ xs) i false ≡ true
    at false all i lt next = let le = count_by-le-length (λ b. b) xs in absurd (omega (arith, all, le))
    at true all zero lt next = refl
    at true all (suc i) lt next = next (omega (arith, all)) i (omega (arith, lt))

-- where all bits are set, no path sets another
pub sets_all : (views : Family → View) (atoms : List ℕ) (print : List Bool)
    → ((bit : ℕ) → bit < 1024 → HasBit print bit) → SetsBits (IsBitFrom views atoms) print print
sets_all views atoms print all =
    sets_again (IsBitFrom views atoms) print (λ bit from. all bit
    (subst (λ z. z < 1024) (sym from.6) (small from.2 from.3)))
  where
    small : (there back : List ℕ) → bit_of there back < 1024
    small there back = mod_below (hash_of (lesser there back)) 1024 (omega arith)
