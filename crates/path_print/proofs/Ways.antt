-- Walks that set the bits of all paths that grow from a path.
use Rattle.std.proofs.Common.{ℕ, ◌+◌, ◌-◌, ◌%◌, ◌<◌, ◌≤◌, ◌≡◌, ◌≢◌, ◌⊎◌, inl, inr, Bool, cond, List, [], ◌∷◌, ◌++◌, length, get_or, take, reverse, Contains, refl, sym, ap, ◌∙◌, subst, ⊎_elim, lit≤, arith}
use Rattle.std.specs.Prelude.{Option, None, Some, IfSome, IfNone, AllPairs, option_map}
use Rattle.std.proofs.lemmas.Bool.{cases_eq, cases_lt}
use Rattle.std.specs.declared.cmp.Ordering.{Ordering}
use Rattle.std.specs.declared.cmp.Ordering.TheVariants.{Less, Equal, Greater}
use Rattle.std.specs.Ordering.{nat_cmp, is_lt, ordering_reverse}
use Rattle.std.specs.Cmp.Lexicographic.{slice_cmp}
use Rattle.std.proofs.lemmas.Cmp.{nat_list_cmp_total}
use Rattle.std.specs.FinMap.{nat_cmp-IsAntisymmetric, slice_cmp-IsAntisymmetric}
use Rattle.std.proofs.lemmas.List.{length-reverse, reverse-reverse, append-nil, length-append, get_or_append_left, get_or_default}
use Rattle.std.proofs.lemmas.List.Quantifiers.{all_pairs_push}
use Rattle.std.proofs.lemmas.Option.{none-some, same_Some}
use Rattle.chem_core.specs.Bits.{HasBit}
use Rattle.path_print.specs.declared.known.Known.{Known}
use Rattle.path_print.specs.Path.{Family, exact, plain, label_of, View, string_of, hash_of, bit_of, IsPath}
use Rattle.path_print.specs.Texts.{TextTerm, PathTerm, text_in, longer_if, of_label, path_start, path_longer, IsOn, IsOneLonger, NoneFrom, IsBitHere, IsBitOf, IsBitFrom, IsCounted, IsMarked, IsSpent, SetsBits, grown, before, last_of}
use Rattle.path_print.specs.Prints.{HasPathBits}
use Rattle.path_print.proofs.Options.{map_some}
use Rattle.path_print.proofs.Carries.{labels_in}
use Rattle.path_print.proofs.Strings.{step_byte, there_longer, back_longer, split_last}
use Rattle.path_print.proofs.Grown.{reverse-push, turned_back, length-turned, length-grown, distinct_turned, distinct_inner, strings_inner, grows, counted_back, counted_after, spent_none}

-- the bit of some path that grows by one of the first i atoms of a row
abbrev pub IsBitVia : (Family → View) → List ℕ → (ℕ → ℕ) → ℕ → ℕ → Type 0
IsBitVia views atoms to i bit = (k : ℕ) × (k < i) × IsBitFrom views (to k ∷ reverse atoms) bit

-- ---- bits that are set

pub sets_more : (H : ℕ → Type 0) (F : ℕ → ℕ → Type 0) (i : ℕ) (a b c : List Bool)
    → SetsBits (λ bit. H bit ⊎ ((k : ℕ) × (k < i) × F k bit)) a b → SetsBits (F i) b c
    → SetsBits (λ bit. H bit ⊎ ((k : ℕ) × (k < i + 1) × F k bit)) a c
sets_more H F i a b c first second = record {
  size = second.size ∙ first.size;
  bits = λ bit. (
    λ h. elim ((second.bits bit).0 h) [
      | inl g ↦ elim ((first.bits bit).0 g) [
        | inl old ↦ inl old
        | inr new ↦ elim new [ inl here ↦ inr (inl here) | inr via ↦ inr (inr (via.0, omega (arith, via.1), via.2)) ]
      ]
      | inr f ↦ inr (inr (i, omega arith, f))
    ],
    λ h. elim h [
      | inl old ↦ (second.bits bit).1 (inl ((first.bits bit).1 (inl old)))
      | inr new ↦ elim new [
        | inl here ↦ (second.bits bit).1 (inl ((first.bits bit).1 (inr (inl here))))
        | inr via ↦ elim (cases_eq via.0 i) [
          | inl same ↦ (second.bits bit).1 (inr (subst (λ k. F k bit) same via.2))
          | inr other ↦ (second.bits bit).1 (inl ((first.bits bit).1 (inr (inr (via.0, omega (arith, via.1), via.2)))))
        ]
      ]
    ],
  );
}

-- one more place
pub sets_next : (F : ℕ → ℕ → Type 0) (i : ℕ) (a b c : List Bool) → SetsBits (λ bit. (k : ℕ) × (k < i) × F k bit) a b
    → SetsBits (F i) b c → SetsBits (λ bit. (k : ℕ) × (k < i + 1) × F k bit) a c
sets_next F i a b c first second = record {
  size = second.size ∙ first.size;
  bits = λ bit. (
    λ h. elim ((second.bits bit).0 h) [
      | inl g ↦ elim ((first.bits bit).0 g) [ inl old ↦ inl old | inr new ↦ inr (new.0, omega (arith, new.1), new.2) ]
      | inr f ↦ inr (i, omega arith, f)
    ],
    λ h. elim h [
      | inl old ↦ (second.bits bit).1 (inl ((first.bits bit).1 (inl old)))
      | inr new ↦ elim (cases_eq new.0 i) [
        | inl same ↦ (second.bits bit).1 (inr (subst (λ k. F k bit) same new.2))
        | inr other ↦ (second.bits bit).1 (inl ((first.bits bit).1 (inr (new.0, omega (arith, new.1), new.2))))
      ]
    ],
  );
}

pub sets_none : (F : ℕ → Type 0) (a : List Bool) → ((bit : ℕ) → F bit → ⊥) → SetsBits F a a
sets_none F a none = record {
  size = refl;
  bits = λ bit.
      (λ h. inl h, λ h. ⊎_elim (λ g. g) (λ f. absurd (none bit f)) h);
}

pub sets_same : (F G : ℕ → Type 0) (a b : List Bool) → ((bit : ℕ) → F bit → G bit) → ((bit : ℕ) → G bit → F bit)
    → SetsBits F a b → SetsBits G a b
sets_same F G a b there back sets = record {
  size = sets.size;
  bits = λ bit. (
    λ h. elim ((sets.bits bit).0 h) [ inl old ↦ inl old | inr f ↦ inr (there bit f) ],
    λ h. elim h [ inl old ↦ (sets.bits bit).1 (inl old) | inr g ↦ (sets.bits bit).1 (inr (back bit g)) ],
  );
}

-- ---- one step

-- the text of a family, by its atoms, goes on to one more atom
module _ (views : Family → View) (symmetric : (family : Family) (x y : ℕ)
    → (views family).byte x y ≡ (views family).byte y x) (p : PathTerm) (on : IsOn views p) (y b : ℕ) (known : Known)
    (byte : (family : Family) → (views family).byte (last_of p.atoms) y ≡ Some b) (label : (family : Family)
    → (views family).label y ≡ label_of family known) where
  there_on : (family : Family) (o : Option TextTerm) → option_map (λ t. t.there) o ≡ string_of (views family) p.atoms
      → option_map (λ t. t.back) (longer_if o b (label_of family known))
      ≡ string_of (views family) (reverse (y ∷ reverse p.atoms))
  there_on family o is =
      let whole = split_last p.atoms on.some in
      let step = there_longer (views family) (take (length p.atoms - 1) p.atoms) (last_of p.atoms) y b o (is
      ∙ ap (string_of (views family)) whole) (byte family) in
      ap (λ l. option_map (λ t. t.back) (longer_if o b l)) (sym (label family)) ∙ step
      ∙ sym (ap (λ xs. string_of (views family) (xs ++ y ∷ [])) whole)
      ∙ sym (ap (string_of (views family)) (turned_back p.atoms y))

  back_on : (family : Family) (o : Option TextTerm) → option_map (λ t. t.back) o
      ≡ string_of (views family) (reverse p.atoms) → option_map (λ t. t.there) (longer_if o b (label_of family known))
      ≡ string_of (views family) (y ∷ reverse p.atoms)
  back_on family o is =
      let whole = split_last p.atoms on.some in
      let step = back_longer (views family) (take (length p.atoms - 1) p.atoms) (last_of p.atoms) y b o (is
      ∙ ap (λ xs. string_of (views family) (reverse xs)) whole) (symmetric family y (last_of p.atoms) ∙ byte family)
      in
      ap (λ l. option_map (λ t. t.there) (longer_if o b l)) (sym (label family)) ∙ step
      ∙ sym (ap (λ xs. string_of (views family) (y ∷ reverse xs)) whole)

  pub longer_there : (family : Family) → option_map (λ t. t.there) (text_in (path_longer p y b known) family)
      ≡ string_of (views family) (y ∷ reverse p.atoms)
  longer_there exact = back_on exact p.exact (on.back exact)
  longer_there plain = back_on plain p.plain (on.back plain)

  pub longer_back : (family : Family) → option_map (λ t. t.back) (text_in (path_longer p y b known) family)
      ≡ string_of (views family) (reverse (y ∷ reverse p.atoms))
  longer_back exact = there_on exact p.exact (on.there exact)
  longer_back plain = there_on plain p.plain (on.there plain)

  -- the path that goes on to a new atom
  pub longer_on : (Contains p.atoms y → ⊥) → length p.atoms < 5 → IsOn views (path_longer p y b known)
  longer_on new room =
      let count = length-turned p.atoms y in
      let some : 1 ≤ length (y ∷ reverse p.atoms) = omega arith in
      let short : length (y ∷ reverse p.atoms) ≤ 5 = omega (arith, count, room) in
      let pushed : AllPairs ◌≢◌ (p.atoms ++ y ∷ []) = all_pairs_push ◌≢◌ p.atoms y on.distinct
      (λ k d within same. new (k, within, Contains_at p.atoms k d y within same)) in
      record {
        some = some;
        short = short;
        distinct = subst (AllPairs ◌≢◌) (reverse-push p.atoms y) (distinct_turned (p.atoms ++ y ∷ []) pushed);
        there = longer_there;
        back = longer_back;
      }
    where
      Contains_at : (xs : List ℕ) (k d y : ℕ) → k < length xs → get_or xs k d ≡ y → get_or xs k y ≡ y
      Contains_at xs k d y within same = get_or_default xs k y d within ∙ same

  -- no path goes on so where the path is full, where the atom is in it, and where no text goes on
  pub none_from : (length p.atoms ≡ 5) ⊎ (Contains p.atoms y
      ⊎ (((path_longer p y b known).exact ≡ None) × ((path_longer p y b known).plain ≡ None))) → (bit : ℕ)
      → IsBitFrom views (y ∷ reverse p.atoms) bit → ⊥
  none_from why bit from =
      let family : Family = from.0 in
      let more : List ℕ = from.1 in
      let path = from.4 in
      elim why [
        | inl full ↦
            let short = path.short in
            let count = length-turned p.atoms y in
            let grows = length-grown (y ∷ reverse p.atoms) more in
            omega (arith, short, count, grows, full)
        | inr rest ↦ elim rest [
          | inl there ↦
              let lo : there.0 < length p.atoms = there.1 in
              let hi : length p.atoms < length (p.atoms ++ y ∷ []) = rw length-append (omega arith) in
              let distinct : AllPairs ◌≢◌ (p.atoms ++ y ∷ []) = subst (AllPairs ◌≢◌) (turned_back p.atoms y)
              (distinct_turned (y ∷ reverse p.atoms) (distinct_inner (y ∷ reverse p.atoms) more path.distinct)) in
              let first : get_or (p.atoms ++ y ∷ []) there.0 y ≡ y = get_or_append_left p.atoms (y ∷ []) y there.0 lo
              ∙ there.2 in
              distinct there.0 (length p.atoms) y lo hi (first ∙ sym (get_or-push p.atoms y))
          | inr none ↦
              let strings = strings_inner (views family) (y ∷ reverse p.atoms) more from.2 from.3 (omega arith) path in
              no_text family none strings.there.0 strings.there.1
        ]
      ]
    where
      get_or-push : (xs : List ℕ) (y : ℕ) → get_or (xs ++ y ∷ []) (length xs) y ≡ y
      get_or-push [] y = refl
      get_or-push (x ∷ xs) y = get_or-push xs y

      no_text : (family : Family) → ((path_longer p y b known).exact ≡ None) × ((path_longer p y b known).plain ≡ None)
          → (r : List ℕ) → string_of (views family) (y ∷ reverse p.atoms) ≡ Some r → ⊥
      no_text exact none r is = none-some r (sym (ap (option_map (λ t. t.there)) none.0) ∙ longer_there exact ∙ is)
      no_text plain none r is = none-some r (sym (ap (option_map (λ t. t.there)) none.1) ∙ longer_there plain ∙ is)

  -- what a step gives
  pub step_some : (r : Option PathTerm) → IfSome r (λ q. q ≡ path_longer p y b known)
      → IfSome r (λ _. Contains p.atoms y → ⊥) → IfSome r (λ _. length p.atoms < 5) → IfSome r (IsOneLonger views p y)
  step_some None is new room = tt
  step_some (Some q) is new room = record {
    on = subst (IsOn views) (sym is) (longer_on new room);
    atoms = ap (λ z. z.atoms) is;
  }

  pub step_none : (r : Option PathTerm) → IfNone r ((length p.atoms ≡ 5) ⊎ Contains p.atoms y
      ⊎ (((path_longer p y b known).exact ≡ None) × ((path_longer p y b known).plain ≡ None)))
      → IfNone r (NoneFrom views (y ∷ reverse p.atoms))
  step_none None why = none_from why
  step_none (Some q) why = tt

-- ---- all steps

-- a text is its two strings
parts_of : (t : TextTerm) (there back : List ℕ) → t.there ≡ there → t.back ≡ back
    → ◌≡◌ {A = TextTerm} t (record { there = there; back = back })
parts_of t there back e f = rw (sym e, sym f)

-- a path that grows by an atom: a bond with a byte leads there
grown_byte : (v : View) (xs : List ℕ) (y : ℕ) (ys there back : List ℕ) → 1 ≤ length xs
    → IsPath v (grown (y ∷ reverse xs) ys) there back → (b : ℕ) × (v.byte (last_of xs) y ≡ Some b)
grown_byte v xs y ys there back some path =
    let strings = strings_inner v (y ∷ reverse xs) ys there back (omega arith) path in
    let whole = split_last xs some in
    let front = take (length xs - 1) xs in
    let reads : string_of v (((front ++ last_of xs ∷ []) ++ y ∷ []) ++ []) ≡ Some strings.back.0 = ap (string_of v)
    (append-nil ((front ++ last_of xs ∷ []) ++ y ∷ []) ∙ sym (ap (λ zs. zs ++ y ∷ []) whole)
    ∙ sym (turned_back xs y)) ∙ strings.back.1 in
    step_byte v front (last_of xs) y [] strings.back.0 reads

-- what grows from a path: itself, or by a step to an atom by a bond with a byte
pub from_cases : (views : Family → View) (p : PathTerm) → IsOn views p → (bit : ℕ) → IsBitFrom views p.atoms bit
    → IsBitHere p bit ⊎ ((y : ℕ) × ((family : Family) × (b : ℕ) × ((views family).byte (last_of p.atoms) y ≡ Some b))
    × IsBitFrom views (y ∷ reverse p.atoms) bit)
from_cases views p on bit from = at from.0 from.1 from.2 from.3 from.4 from.5 from.6
  where
    at : (family : Family) (more there back : List ℕ) → IsPath (views family) (grown p.atoms more) there back
        → IsCounted (grown p.atoms more) → bit ≡ bit_of there back → IsBitHere p bit
        ⊎ ((y : ℕ) × ((family : Family) × (b : ℕ) × ((views family).byte (last_of p.atoms) y ≡ Some b))
        × IsBitFrom views (y ∷ reverse p.atoms) bit)
    at family [] there back path counted is =
        let t = map_some (λ t. t.there) (text_in p family) there (on.there family ∙ path.reads) in
        let u = map_some (λ t. t.back) (text_in p family) back (on.back family ∙ path.reads_back) in
        let one : u.0 ≡ t.0 = same_Some u.0 t.0 (sym u.1 ∙ t.1) in
        let parts = parts_of t.0 there back t.2 (ap (λ t. t.back) (sym one) ∙ u.2) in
        let here : bit ≡ bit_of t.0.there t.0.back = is ∙ sym (ap (λ (s : TextTerm). bit_of s.there s.back) parts) in
        inl (counted, (family, (t.0, t.1, here)))
    at family (y ∷ ys) there back path counted is =
        let b = grown_byte (views family) p.atoms y ys there back on.some path in
        inr (y, (family, b.0, b.1), (family, ys, there, back, path, counted, is))

pub from_here : (views : Family → View) (p : PathTerm) → IsOn views p → (bit : ℕ) → IsBitHere p bit
    → IsBitFrom views p.atoms bit
from_here views p on bit here =
    let family : Family = here.1.0 in
    let t : TextTerm = here.1.1.0 in
    let path : IsPath (views family) p.atoms t.there t.back = record {
      short = on.short;
      distinct = on.distinct;
      reads = sym (on.there family) ∙ ap (option_map (λ t. t.there)) here.1.1.1;
      reads_back = sym (on.back family) ∙ ap (option_map (λ t. t.back)) here.1.1.1;
    } in
    (family, [], t.there, t.back, path, here.0, here.1.1.2)

pub from_step : (views : Family → View) (atoms : List ℕ) (y bit : ℕ) → IsBitFrom views (y ∷ reverse atoms) bit
    → IsBitFrom views atoms bit
from_step views atoms y bit from = (from.0, y ∷ from.1, from.2, from.3, from.4, from.5, from.6)

-- the bits here and by all steps are those of all paths that begin so
pub sets_from : (views : Family → View) (p : PathTerm) → IsOn views p → (to : ℕ → ℕ) (n : ℕ)
    → ((family : Family) (y b : ℕ) → (views family).byte (last_of p.atoms) y ≡ Some b → (k : ℕ) × (k < n) × (to k ≡ y))
    → (old new : List Bool) → SetsBits (λ bit. IsBitHere p bit ⊎ IsBitVia views p.atoms to n bit) old new
    → SetsBits (IsBitFrom views p.atoms) old new
sets_from views p on to n all old new sets =
    sets_same (λ bit. IsBitHere p bit ⊎ IsBitVia views p.atoms to n bit) (IsBitFrom views p.atoms) old new
    (λ bit h. elim h [
      | inl here ↦ from_here views p on bit here
      | inr via ↦ from_step views p.atoms
          (to via.0) bit via.2
    ])
    (λ bit h. elim (from_cases views p on bit h) [
      | inl here ↦ inl here
      | inr step ↦
          let k = all step.1.0 step.0 step.1.1 step.1.2 in
          inr (k.0, k.1, subst (λ y. IsBitFrom views (y ∷ reverse p.atoms) bit) (sym k.2) step.2)
    ])
    sets

-- where nothing grows by one more atom, the bit here is all
sets_here : (views : Family → View) (p : PathTerm) → IsOn views p
    → ((y bit : ℕ) → IsBitFrom views (y ∷ reverse p.atoms) bit → ⊥) → (old new : List Bool)
    → SetsBits (IsBitHere p) old new → SetsBits (IsBitFrom views p.atoms) old new
sets_here views p on none old new sets =
    sets_same (IsBitHere p) (IsBitFrom views p.atoms) old new (from_here views p on)
    (λ bit h. elim (from_cases views p on bit h) [
      | inl here ↦ here
      | inr step ↦ absurd (none step.0 bit step.2)
    ])
    sets

-- from a full path nothing goes on
pub sets_full : (views : Family → View) (p : PathTerm) → IsOn views p → length p.atoms ≡ 5 → (old new : List Bool)
    → SetsBits (IsBitHere p) old new → SetsBits (IsBitFrom views p.atoms) old new
sets_full views p on full =
    sets_here views p on (λ y bit from.
    let short = from.4.short in
    let count = length-turned p.atoms y in
    let grows = length-grown (y ∷ reverse p.atoms) from.1 in
    omega (arith, short, count, grows, full))

-- nor from one that is spent
pub sets_spent : (views : Family → View) (p : PathTerm) → IsOn views p → IsSpent p.atoms → (old new : List Bool)
    → SetsBits (IsBitHere p) old new → SetsBits (IsBitFrom views p.atoms) old new
sets_spent views p on spent =
    sets_here views p on (λ y bit from. spent_none p.atoms y from.1 spent from.4.short from.5)

-- ---- the last step

-- the texts of a longer path do not depend on its atom
longer_text_in : (p : PathTerm) (y b : ℕ) (known : Known) (family : Family)
    → text_in (path_longer p y b known) family ≡ longer_if (text_in p family) b (label_of family known)
longer_text_in p y b known exact = refl
longer_text_in p y b known plain = refl

pub end_is_marked : (p : PathTerm) (y b : ℕ) (known : Known) (q : PathTerm) → q ≡ path_longer p y b known
    → length p.atoms + 1 ≡ 5 → (IsSpent p.atoms → ⊥) → (old new : List Bool) → SetsBits (IsBitHere q) old new
    → IsMarked p b known new
end_is_marked p y b known q is room more old new sets family bit h =
    let here : SetsBits (IsBitHere (path_longer p y b known)) old new = subst (λ z. SetsBits (IsBitHere z) old new) is
    sets in
    let same = sym (longer_text_in p y b known family) in
    (here.bits bit).1
    (inr (counted_after p.atoms y room more, (family, subst (λ (t : Option TextTerm). IsBitOf t bit) same h)))

module _ (views : Family → View) (symmetric : (family : Family) (x y : ℕ)
    → (views family).byte x y ≡ (views family).byte y x) (p : PathTerm) (on : IsOn views p) (y b : ℕ) (known : Known)
    (byte : (family : Family) → (views family).byte (last_of p.atoms) y ≡ Some b) (label : (family : Family)
    → (views family).label y ≡ label_of family known) (room : length p.atoms + 1 ≡ 5) where
  -- a longer path is full: no other grows from it
  full_text : (bit : ℕ) → IsBitFrom views (y ∷ reverse p.atoms) bit
      → (family : Family) × IsBitOf (longer_if (text_in p family) b (label_of family known)) bit
  full_text bit from = at from.0 from.1 from.2 from.3 from.4 from.6
    where
      at : (family : Family) (more there back : List ℕ) → IsPath (views family) (grown (y ∷ reverse p.atoms) more) there
          back → bit ≡ bit_of there back
          → (family : Family) × IsBitOf (longer_if (text_in p family) b (label_of family known)) bit
      at family [] there back path is =
          let same = longer_text_in p y b known family in
          let t = map_some (λ t. t.there) (longer_if (text_in p family) b (label_of family known)) there
          (sym (ap (option_map (λ t. t.there)) same)
          ∙ longer_there views symmetric p on y b known byte label family ∙ path.reads) in
          let u = map_some (λ t. t.back) (longer_if (text_in p family) b (label_of family known)) back
          (sym (ap (option_map (λ t. t.back)) same)
          ∙ longer_back views symmetric p on y b known byte label family ∙ path.reads_back) in
          let one : u.0 ≡ t.0 = same_Some u.0 t.0 (sym u.1 ∙ t.1) in
          let parts = parts_of t.0 there back t.2 (ap (λ t. t.back) (sym one) ∙ u.2) in
          (family, (t.0, t.1, is ∙ sym (ap (λ (s : TextTerm). bit_of s.there s.back) parts)))
      at family (z ∷ zs) there back path is =
          let short = path.short in
          let count = length-turned p.atoms y in
          let grows = length-grown (y ∷ reverse p.atoms) (z ∷ zs) in
          absurd (omega (arith, short, count, grows, room))

  -- a step that is marked sets nothing more
  pub end_again : (print : List Bool) → IsMarked p b known print
      → SetsBits (IsBitFrom views (y ∷ reverse p.atoms)) print print
  end_again print marked = record {
    size = refl;
    bits = λ bit. (
      λ h. inl h,
      λ h. elim h [ inl old ↦ old | inr from ↦ let t = full_text bit from in marked t.0 bit t.1 ],
    );
  }

  pub end_sets : (q : PathTerm) → q ≡ path_longer p y b known → (Contains p.atoms y → ⊥) → (old new : List Bool)
      → SetsBits (IsBitHere q) old new → SetsBits (IsBitFrom views (y ∷ reverse p.atoms)) old new
  end_sets q is new_atom old new sets =
      let count = length-turned p.atoms y in
      sets_full views (path_longer p y b known)
      (longer_on views symmetric p on y b known byte label new_atom (omega (arith, room))) (omega (arith, count, room))
      old new (subst (λ z. SetsBits (IsBitHere z) old new) is sets)

-- ---- from the start

-- the path of one atom
pub start_on : (views : Family → View) (atom : ℕ) (known : Known)
    → ((family : Family) → (views family).label atom ≡ label_of family known) → IsOn views (path_start atom known)
start_on views atom known label = record {
  some = lit≤ tt;
  short = lit≤ tt;
  distinct = λ i j d lo hi. absurd (omega arith);
  there = λ family. there family;
  back = λ family. back family;
}
  where
    two : (o : Option (ℕ × ℕ)) → option_map (λ t. t.there) (option_map of_label o) ≡ option_map (λ l. l.0 ∷ l.1 ∷ []) o
    two None = refl
    two (Some l) = refl

    two_back : (o : Option (ℕ × ℕ)) → option_map (λ t. t.back) (option_map of_label o)
        ≡ option_map (λ l. l.0 ∷ l.1 ∷ []) o
    two_back None = refl
    two_back (Some l) = refl

    there : (family : Family) → option_map (λ t. t.there) (text_in (path_start atom known) family)
        ≡ string_of (views family) (atom ∷ [])
    there exact = two (label_of exact known) ∙ ap (option_map (λ l. l.0 ∷ l.1 ∷ [])) (sym (label exact))
    there plain = two (label_of plain known) ∙ ap (option_map (λ l. l.0 ∷ l.1 ∷ [])) (sym (label plain))

    back : (family : Family) → option_map (λ t. t.back) (text_in (path_start atom known) family)
        ≡ string_of (views family) (atom ∷ [])
    back exact = two_back (label_of exact known) ∙ ap (option_map (λ l. l.0 ∷ l.1 ∷ [])) (sym (label exact))
    back plain = two_back (label_of plain known) ∙ ap (option_map (λ l. l.0 ∷ l.1 ∷ [])) (sym (label plain))

-- the bits of all paths that grow from one of the first atoms
abbrev pub IsBitBelow : (Family → View) → ℕ → ℕ → Type 0
IsBitBelow views n bit = (k : ℕ) × (k < n) × IsBitFrom views (k ∷ []) bit

pub below_none : (views : Family → View) (print : List Bool) → ((bit : ℕ) → HasBit print bit → ⊥)
    → SetsBits (IsBitBelow views 0) print print
below_none views print none = record {
  size = refl;
  bits = λ bit.
      (λ h. inl h, λ h. ⊎_elim (λ g. g) (λ f. absurd (omega (arith, f.1))) h);
}

pub below_more : (views : Family → View) (i : ℕ) (a b c : List Bool) → SetsBits (IsBitBelow views i) a b
    → SetsBits (IsBitFrom views (i ∷ [])) b c → SetsBits (IsBitBelow views (i + 1)) a c
below_more views = sets_next (λ k. IsBitFrom views (k ∷ []))

-- ---- the two ends of a path

-- the bit is the same from either end
pub bit-turn : (there back : List ℕ) → bit_of there back ≡ bit_of back there
bit-turn there back = at (slice_cmp nat_cmp back there) (slice_cmp nat_cmp there back)
    (nat_list_cmp_total.antisymm there back) (same_lists there back)
  where
    same_lists : (there back : List ℕ) → slice_cmp nat_cmp back there ≡ Equal → back ≡ there
    same_lists there back e = slice_cmp-IsAntisymmetric nat_cmp-IsAntisymmetric back there e

    at : (o p : Ordering) → p ≡ ordering_reverse o → (o ≡ Equal → back ≡ there)
        → hash_of (cond (is_lt o) back there) % 1024 ≡ hash_of (cond (is_lt p) there back) % 1024
    at Less p e same = ap (λ q. hash_of (cond (is_lt q) there back) % 1024) (sym e)
    at Equal p e same = ap (λ xs. hash_of xs % 1024) (sym (same refl))
        ∙ ap (λ q. hash_of (cond (is_lt q) there back) % 1024) (sym e)
    at Greater p e same = ap (λ q. hash_of (cond (is_lt q) there back) % 1024) (sym e)

-- a path walked from its other end
pub path_back : (v : View) (atoms there back : List ℕ) → IsPath v atoms there back → IsPath v (reverse atoms) back there
path_back v atoms there back path = record {
  short = rw length-reverse path.short;
  distinct = distinct_turned atoms path.distinct;
  reads = path.reads_back;
  reads_back = ap (string_of v) (reverse-reverse atoms) ∙ path.reads;
}

-- all atoms: the bits of all paths
pub below_all : (views : Family → View) (n : ℕ) (empty print : List Bool)
    → ((family : Family) (x : ℕ) (l : ℕ × ℕ) → (views family).label x ≡ Some l → x < n) → length empty ≡ 1024
    → ((bit : ℕ) → HasBit empty bit → ⊥) → SetsBits (IsBitBelow views n) empty print → HasPathBits views print
below_all views n empty print within size none sets = record {
  size = sets.size ∙ size;
  bits = λ bit. (
    λ h. elim ((sets.bits bit).0 h) [
      | inl old ↦ absurd (none bit old)
      | inr new ↦
          let from = new.2 in
          (from.0, (grown (new.0 ∷ []) from.1, from.2, from.3, from.4, from.6))
    ],
    λ h. (sets.bits bit).1 (inr (either_end h.0 bit h.1.0 h.1.1 h.1.2 h.1.3 h.1.4)),
  );
}
  where
    some_atoms : (v : View) (atoms there : List ℕ) → string_of v atoms ≡ Some there → 1 ≤ length atoms
    some_atoms v [] there reads = absurd (none-some there reads)
    some_atoms v (x ∷ xs) there reads = omega arith

    from_middle : (family : Family) (bit : ℕ) (atoms there back : List ℕ) → IsPath (views family) atoms there back
        → IsCounted atoms → bit ≡ bit_of there back → IsBitBelow views n bit
    from_middle family bit atoms there back path counted is =
        let middle = grows atoms (some_atoms (views family) atoms there path.reads) path.short in
        let l = labels_in (views family) atoms there path.reads middle.0 0 middle.1 in
        let all : grown (get_or atoms middle.0 0 ∷ []) middle.2 ≡ atoms = middle.3 in (
          get_or atoms middle.0 0,
          within family (get_or atoms middle.0 0) l.0 l.1,
          (
            family,
            middle.2,
            there,
            back,
            subst (λ xs. IsPath (views family) xs there back) (sym all) path,
            subst IsCounted (sym all) counted,
            is,
          ),
        )

    either_end : (family : Family) (bit : ℕ) (atoms there back : List ℕ) → IsPath (views family) atoms there back
        → bit ≡ bit_of there back → IsBitBelow views n bit
    either_end family bit atoms there back path is =
        let some = some_atoms (views family) atoms there path.reads in
        let k : ℕ = before (length atoms) in
        elim (cases_lt (get_or atoms (length atoms - 1 - k) 0) (get_or atoms k 0)) [
          | inl low ↦ from_middle family bit (reverse atoms) back there (path_back (views family) atoms there back path)
              (counted_back atoms some (omega (arith, low))) (is ∙ bit-turn there back)
          | inr high ↦ from_middle family bit atoms there back path (omega (arith, high)) is
        ]

-- without a bond that has a byte no path goes on
pub none_without_byte : (views : Family → View) (p : PathTerm) → IsOn views p → (y : ℕ)
    → ((family : Family) (b : ℕ) → (views family).byte (last_of p.atoms) y ≡ Some b → ⊥)
    → NoneFrom views (y ∷ reverse p.atoms)
none_without_byte views p on y none = λ bit from.
    let b = grown_byte (views from.0) p.atoms y from.1 from.2 from.3 on.some from.4 in
    none from.0 b.0 b.1
