-- A line is cut in one way: the first part has no space, and the first words differ.
use Rattle.std.proofs.Common.{◌≡◌, ◌≢◌, ◌⊎◌, inl, inr, ℕ, zero, suc, ◌+◌, ◌*◌, ◌-◌, ◌^◌, ◌<◌, ◌≤◌, List, [], ◌∷◌, ◌++◌, Ok, Err, Result, length, refl, sym, ◌∙◌, ap, subst, arith, decimal, codes, slice_index}
use Rattle.std.specs.List.{All, Contains}
use Rattle.std.specs.Str.Parse.{AllDigits, digits_value}
use Rattle.std.proofs.lemmas.Fmt.{decimal_injective, digits_decimal}
use Rattle.std.proofs.lemmas.Str.Parse.{IsNumeralModel, numerals_by_value, tells_digits, not_in_digits}
use Rattle.std.proofs.lemmas.List.Elements.{All-from_get_or, All-contains, Contains-append_right}
use Rattle.shell_lang.specs.declared.word.Word.{Word}
use Rattle.shell_lang.specs.declared.word.Word.TheVariants as words
use Rattle.shell_lang.specs.declared.command.LineRefusal.{LineRefusal}
use Rattle.shell_lang.specs.declared.command.LineRefusal.TheVariants as refusals
use Rattle.shell_lang.specs.declared.command.TheConstants.{LARGEST_DENOMINATOR, MOST_SIMILAR}
use Rattle.shell_lang.specs.Word.{word_text}
use Rattle.store_machine.specs.History.{IsId}
use Rattle.shell_lang.specs.Command.{Command, Empty, Register, RegisterNew, Revise, RegisterMol, ReviseMol, RegisterSd, Withdraw, Show, Data, Search, Same, Similar, Start, Next, Close, Watch, Hits, Unwatch, Prune, Compact, Stats, AreIds, IsNameByte, IsName, IsSimilarity, Spells, HasNoSpace, HasIdentifierPart, TakesRecords, IsLine}
use Rattle.shell_lang.specs.Cut.{Follows, IdentifierPart, FirstPart, IsRest}

own : IsNumeralModel (AllDigits 10) (digits_value 10)
own = numerals_by_value (AllDigits 10) tells_digits

-- no space is a digit
pub no_space_in_number : (n : ℕ) → n < 2 ^ 64 → HasNoSpace (decimal n)
no_space_in_number n small held =
    let digits = digits_decimal own n small in
    let none : All (λ b. b ≢ 32) (decimal n) =
    All-from_get_or (λ b. b ≢ 32) (decimal n) 0
    (λ i l. not_in_digits own (decimal n) 32 digits (λ r. omega (arith, r.0)) i l) in
    All-contains (λ b. b ≢ 32) (decimal n) 32 none held refl

pub no_space : (id : ℕ) → IsId id → HasNoSpace (decimal id)
no_space id is = no_space_in_number id (omega arith)

pub no_space_first : (id count : ℕ) → AreIds id count → HasNoSpace (decimal id)
no_space_first id count are = no_space_in_number id (omega (arith, are.1))

name_byte : (b : ℕ) → b ≡ 32 → IsNameByte b → ⊥
name_byte b e (inl x) = omega arith
name_byte b e (inr (inl x)) = omega arith
name_byte b e (inr (inr (inl x))) = omega arith
name_byte b e (inr (inr (inr x))) = omega arith

-- no space is in a name
pub no_space_named : (name : List ℕ) → IsName name → HasNoSpace name
no_space_named name is held = name_byte 32 refl (All-contains IsNameByte name 32 is.bytes held)

here : (b : ℕ) (bs : List ℕ) → b ≡ 32 → Contains (b ∷ bs) 32
here b bs e = (0, omega arith, e)

later : (b : ℕ) (bs : List ℕ) → Contains bs 32 → Contains (b ∷ bs) 32
later b bs held = Contains-append_right (b ∷ []) bs 32 held

-- what has a space between two parts has a space
pub has_space : (bytes a b : List ℕ) → bytes ≡ a ++ 32 ∷ b → Contains bytes 32
has_space bytes a b e =
    subst (λ (w : List ℕ). Contains w 32) (sym e) (Contains-append_right a (32 ∷ b) 32 (here 32 b refl))

-- the first space is one place
pub one_split : (a c b d : List ℕ) → HasNoSpace a → HasNoSpace c → a ++ 32 ∷ b ≡ c ++ 32 ∷ d → (a ≡ c) × (b ≡ d)
one_split [] [] b d p q e = (refl, cc)
one_split [] (y ∷ c) b d p q e = absurd (q (here y c cc))
one_split (x ∷ a) [] b d p q e = absurd (p (here x a cc))
one_split (x ∷ a) (y ∷ c) b d p q e =
    let rest : a ++ 32 ∷ b ≡ c ++ 32 ∷ d = cc in
    let same = one_split a c b d (λ h. p (later x a h)) (λ h. q (later y c h)) rest in
    let tail : a ≡ c = same.0 in
    (cc, same.1)

-- a number that tells the words apart: the last byte, the first, and the length
key : List ℕ → ℕ
key bytes = 4096 * slice_index bytes (length bytes - 1) + 16 * slice_index bytes 0 + length bytes

pub one_word : (w v : Word) → word_text w ≡ word_text v → w ≡ v
unfolding key
one_word words.Register words.Register e = refl
one_word words.RegisterNew words.RegisterNew e = refl
one_word words.Revise words.Revise e = refl
one_word words.RegisterMol words.RegisterMol e = refl
one_word words.ReviseMol words.ReviseMol e = refl
one_word words.RegisterSd words.RegisterSd e = refl
one_word words.Withdraw words.Withdraw e = refl
one_word words.Show words.Show e = refl
one_word words.Data words.Data e = refl
one_word words.Search words.Search e = refl
one_word words.Same words.Same e = refl
one_word words.Similar words.Similar e = refl
one_word words.Open words.Open e = refl
one_word words.Next words.Next e = refl
one_word words.Close words.Close e = refl
one_word words.Watch words.Watch e = refl
one_word words.Hits words.Hits e = refl
one_word words.Unwatch words.Unwatch e = refl
one_word w v e = absurd (let k = ap key e in omega arith)

-- the bytes of a text that is written out, none of which is a space
abbrev are_letters : List ℕ → Type 0
are_letters [] = Unit {0}
are_letters (b ∷ bs) = (b ≢ 32) × are_letters bs

spaceless : (bytes : List ℕ) → are_letters bytes → HasNoSpace bytes
spaceless [] s (k, l, e) = omega (arith, l)
spaceless (b ∷ bs) s (zero, l, e) = s.0 e
spaceless (b ∷ bs) s (suc k, l, e) = spaceless bs s.1 (k, omega (arith, l), e)

pub word_space : (w : Word) → HasNoSpace (word_text w)
word_space words.Register = spaceless (codes "register") (search arith)
word_space w = spaceless (word_text w) (search arith)

-- a line with such a rest is the command
pub follows : (w : Word) (rest : List ℕ) (c : Command) → Follows w rest c → Spells (word_text w ++ 32 ∷ rest) c
follows words.Register rest (Register id text) h = (h.0, ap (λ (r : List ℕ). codes "register" ++ 32 ∷ r) h.1)
follows words.RegisterNew rest (RegisterNew id text) h = (h.0, ap (λ (r : List ℕ). codes "register-new" ++ 32 ∷ r) h.1)
follows words.Revise rest (Revise id text) h = (h.0, ap (λ (r : List ℕ). codes "revise" ++ 32 ∷ r) h.1)
follows words.RegisterMol rest (RegisterMol id) h = (h.0, ap (λ (r : List ℕ). codes "register-mol" ++ 32 ∷ r) h.1)
follows words.ReviseMol rest (ReviseMol id) h = (h.0, ap (λ (r : List ℕ). codes "revise-mol" ++ 32 ∷ r) h.1)
follows words.RegisterSd rest (RegisterSd id count) h =
    (h.0, h.1, ap (λ (r : List ℕ). codes "register-sd" ++ 32 ∷ r) h.2)
follows words.Withdraw rest (Withdraw id) h = (h.0, ap (λ (r : List ℕ). codes "withdraw" ++ 32 ∷ r) h.1)
follows words.Show rest (Show id) h = (h.0, ap (λ (r : List ℕ). codes "show" ++ 32 ∷ r) h.1)
follows words.Data rest (Data id name) h = (h.0, ap (λ (r : List ℕ). codes "data" ++ 32 ∷ r) h.1)
follows words.Search rest (Search pattern) h = ap (λ (r : List ℕ). codes "search" ++ 32 ∷ r) h
follows words.Same rest (Same text) h = ap (λ (r : List ℕ). codes "same" ++ 32 ∷ r) h
follows words.Similar rest (Similar p q k text) h = (h.0, ap (λ (r : List ℕ). codes "similar" ++ 32 ∷ r) h.1)
follows words.Open rest (Start name pattern) h = (h.0, ap (λ (r : List ℕ). codes "open" ++ 32 ∷ r) h.1)
follows words.Next rest (Next name) h = (h.0, ap (λ (r : List ℕ). codes "next" ++ 32 ∷ r) h.1)
follows words.Close rest (Close name) h = (h.0, ap (λ (r : List ℕ). codes "close" ++ 32 ∷ r) h.1)
follows words.Watch rest (Watch name text) h = (h.0, ap (λ (r : List ℕ). codes "watch" ++ 32 ∷ r) h.1)
follows words.Hits rest (Hits name) h = (h.0, ap (λ (r : List ℕ). codes "hits" ++ 32 ∷ r) h.1)
follows words.Unwatch rest (Unwatch name) h = (h.0, ap (λ (r : List ℕ). codes "unwatch" ++ 32 ∷ r) h.1)
follows w rest c h = absurd h

pub part_follows : (w : Word) (rest part : List ℕ) → IdentifierPart w rest part →
    HasIdentifierPart (word_text w ++ 32 ∷ rest) part
part_follows words.Register rest part h = (h.0, inl (h.1, ap (λ (r : List ℕ). codes "register" ++ 32 ∷ r) h.2))
part_follows words.RegisterNew rest part h =
    (h.0, inr (inl (h.1, ap (λ (r : List ℕ). codes "register-new" ++ 32 ∷ r) h.2)))
part_follows words.Revise rest part h =
    (h.0, inr (inr (inl (h.1, ap (λ (r : List ℕ). codes "revise" ++ 32 ∷ r) h.2))))
part_follows words.Data rest part h =
    (h.0, inr (inr (inr (inl (h.1, ap (λ (r : List ℕ). codes "data" ++ 32 ∷ r) h.2)))))
part_follows words.RegisterMol rest part h =
    (h.0, inr (inr (inr (inr (inl (ap (λ (r : List ℕ). codes "register-mol" ++ 32 ∷ r) h.1))))))
part_follows words.ReviseMol rest part h =
    (h.0, inr (inr (inr (inr (inr (inl (ap (λ (r : List ℕ). codes "revise-mol" ++ 32 ∷ r) h.1)))))))
part_follows words.Withdraw rest part h =
    (h.0, inr (inr (inr (inr (inr (inr (inl (ap (λ (r : List ℕ). codes "withdraw" ++ 32 ∷ r) h.1))))))))
part_follows words.Show rest part h =
    (h.0, inr (inr (inr (inr (inr (inr (inr (ap (λ (r : List ℕ). codes "show" ++ 32 ∷ r) h.1))))))))
part_follows w rest part h = absurd h

pub first_follows : (w : Word) (rest part : List ℕ) (count : ℕ) → FirstPart w rest part count →
    TakesRecords (word_text w ++ 32 ∷ rest) part count
first_follows words.RegisterSd rest part count h = (h.0, h.1, ap (λ (r : List ℕ). codes "register-sd" ++ 32 ∷ r) h.2)
first_follows w rest part count h = absurd h

-- a line of a word and a rest that is this command
pub record IsCut (line : List ℕ) (c : Command) : Type 0 where
  pub word : Word
  pub rest : List ℕ
  pub is : line ≡ word_text word ++ 32 ∷ rest
  pub follows : Follows word rest c

-- a line without a space that is a command
pub data IsAlone (line : List ℕ) : Type 0 where
  IsEmpty : (is : line ≡ []) → IsAlone line
  IsPrune : (is : line ≡ codes "prune") → IsAlone line
  IsCompact : (is : line ≡ codes "compact") → IsAlone line
  IsStats : (is : line ≡ codes "stats") → IsAlone line

pub cut_of : (line : List ℕ) (c : Command) → Spells line c → IsAlone line ⊎ IsCut line c
cut_of line Empty h = inl (IsEmpty h)
cut_of line Prune h = inl (IsPrune h)
cut_of line Compact h = inl (IsCompact h)
cut_of line Stats h = inl (IsStats h)
cut_of line (Register id text) h =
    inr (record { word = words.Register; rest = decimal id ++ 32 ∷ text; is = h.1; follows = (h.0, refl) })
cut_of line (RegisterNew id text) h =
    inr (record { word = words.RegisterNew; rest = decimal id ++ 32 ∷ text; is = h.1; follows = (h.0, refl) })
cut_of line (Revise id text) h =
    inr (record { word = words.Revise; rest = decimal id ++ 32 ∷ text; is = h.1; follows = (h.0, refl) })
cut_of line (RegisterMol id) h =
    inr (record { word = words.RegisterMol; rest = decimal id; is = h.1; follows = (h.0, refl) })
cut_of line (ReviseMol id) h =
    inr (record { word = words.ReviseMol; rest = decimal id; is = h.1; follows = (h.0, refl) })
cut_of line (RegisterSd id count) h = inr (record {
  word = words.RegisterSd;
  rest = decimal id ++ 32 ∷ decimal count;
  is = h.2;
  follows = (h.0, h.1, refl);
})
cut_of line (Withdraw id) h = inr (record { word = words.Withdraw; rest = decimal id; is = h.1; follows = (h.0, refl) })
cut_of line (Show id) h = inr (record { word = words.Show; rest = decimal id; is = h.1; follows = (h.0, refl) })
cut_of line (Data id name) h =
    inr (record { word = words.Data; rest = decimal id ++ 32 ∷ name; is = h.1; follows = (h.0, refl) })
cut_of line (Search pattern) h = inr (record { word = words.Search; rest = pattern; is = h; follows = refl })
cut_of line (Same text) h = inr (record { word = words.Same; rest = text; is = h; follows = refl })
cut_of line (Similar p q k text) h = inr (record {
  word = words.Similar;
  rest = decimal p ++ 32 ∷ (decimal q ++ 32 ∷ (decimal k ++ 32 ∷ text));
  is = h.1;
  follows = (h.0, refl);
})
cut_of line (Start name pattern) h =
    inr (record { word = words.Open; rest = name ++ 32 ∷ pattern; is = h.1; follows = (h.0, refl) })
cut_of line (Next name) h = inr (record { word = words.Next; rest = name; is = h.1; follows = (h.0, refl) })
cut_of line (Close name) h = inr (record { word = words.Close; rest = name; is = h.1; follows = (h.0, refl) })
cut_of line (Watch name text) h =
    inr (record { word = words.Watch; rest = name ++ 32 ∷ text; is = h.1; follows = (h.0, refl) })
cut_of line (Hits name) h = inr (record { word = words.Hits; rest = name; is = h.1; follows = (h.0, refl) })
cut_of line (Unwatch name) h = inr (record { word = words.Unwatch; rest = name; is = h.1; follows = (h.0, refl) })

pub record IsPartCut (line part : List ℕ) : Type 0 where
  pub word : Word
  pub rest : List ℕ
  pub is : line ≡ word_text word ++ 32 ∷ rest
  pub follows : IdentifierPart word rest part

pub part_cut_of : (line part : List ℕ) → HasIdentifierPart line part → IsPartCut line part
part_cut_of line part (n, inl (text, e)) =
    record { word = words.Register; rest = part ++ 32 ∷ text; is = e; follows = (n, text, refl) }
part_cut_of line part (n, inr (inl (text, e))) =
    record { word = words.RegisterNew; rest = part ++ 32 ∷ text; is = e; follows = (n, text, refl) }
part_cut_of line part (n, inr (inr (inl (text, e)))) =
    record { word = words.Revise; rest = part ++ 32 ∷ text; is = e; follows = (n, text, refl) }
part_cut_of line part (n, inr (inr (inr (inl (name, e))))) =
    record { word = words.Data; rest = part ++ 32 ∷ name; is = e; follows = (n, name, refl) }
part_cut_of line part (n, inr (inr (inr (inr (inl e))))) =
    record { word = words.RegisterMol; rest = part; is = e; follows = (n, refl) }
part_cut_of line part (n, inr (inr (inr (inr (inr (inl e)))))) =
    record { word = words.ReviseMol; rest = part; is = e; follows = (n, refl) }
part_cut_of line part (n, inr (inr (inr (inr (inr (inr (inl e))))))) =
    record { word = words.Withdraw; rest = part; is = e; follows = (n, refl) }
part_cut_of line part (n, inr (inr (inr (inr (inr (inr (inr e))))))) =
    record { word = words.Show; rest = part; is = e; follows = (n, refl) }

-- a line is cut into one word and one rest
pub one_cut : (line rest more : List ℕ) (w v : Word) → line ≡ word_text w ++ 32 ∷ rest →
    line ≡ word_text v ++ 32 ∷ more → (w ≡ v) × (rest ≡ more)
one_cut line rest more w v e f =
    let same = one_split (word_text w) (word_text v) rest more (word_space w) (word_space v) (sym e ∙ f) in
    (one_word w v same.0, same.1)

-- a line with a space is none of the words alone
pub not_alone : (line : List ℕ) → Contains line 32 → IsAlone line → ⊥
not_alone line held (IsEmpty e) = spaceless [] tt (subst (λ (w : List ℕ). Contains w 32) e held)
not_alone line held (IsPrune e) =
    spaceless (codes "prune") (search arith) (subst (λ (w : List ℕ). Contains w 32) e held)
not_alone line held (IsCompact e) =
    spaceless (codes "compact") (search arith) (subst (λ (w : List ℕ). Contains w 32) e held)
not_alone line held (IsStats e) =
    spaceless (codes "stats") (search arith) (subst (λ (w : List ℕ). Contains w 32) e held)

-- what a line with a space spells follows its first word
pub spelled_after : (line first rest : List ℕ) (c : Command) → line ≡ first ++ 32 ∷ rest → HasNoSpace first →
    Spells line c → (w : Word) × (word_text w ≡ first) × Follows w rest c
spelled_after line first rest c e n h =
    elim (cut_of line c h) as (λ _. (w : Word) × (word_text w ≡ first) × Follows w rest c) [
      | inl a ↦ absurd (not_alone line (has_space line first rest e) a)
      | inr x ↦
          let same = one_split (word_text x.word) first x.rest rest (word_space x.word) n (sym x.is ∙ e) in
          (x.word, same.0, subst (λ (r : List ℕ). Follows x.word r c) same.1 x.follows)
    ]

pub part_after : (line first rest part : List ℕ) → line ≡ first ++ 32 ∷ rest → HasNoSpace first →
    HasIdentifierPart line part → (w : Word) × (word_text w ≡ first) × IdentifierPart w rest part
part_after line first rest part e n h =
    let x = part_cut_of line part h in
    let same = one_split (word_text x.word) first x.rest rest (word_space x.word) n (sym x.is ∙ e) in
    (x.word, same.0, subst (λ (r : List ℕ). IdentifierPart x.word r part) same.1 x.follows)

pub first_after : (line first rest part : List ℕ) (count : ℕ) → line ≡ first ++ 32 ∷ rest → HasNoSpace first →
    TakesRecords line part count → (w : Word) × (word_text w ≡ first) × FirstPart w rest part count
first_after line first rest part count e n (k, few, f) =
    let same =
    one_split (codes "register-sd") first (part ++ 32 ∷ decimal count) rest (word_space words.RegisterSd) n
    (sym f ∙ e) in
    (words.RegisterSd, same.0, (k, few, sym same.1))

-- a line whose first word is none
pub no_word : (line first rest : List ℕ) → line ≡ first ++ 32 ∷ rest → HasNoSpace first →
    ((w : Word) → word_text w ≢ first) → IsLine line (Err refusals.Syntax)
no_word line first rest e n none = (
  λ c h. let x = spelled_after line first rest c e n h in none x.0 x.1,
  λ part h. let x = part_after line first rest part e n h in none x.0 x.1,
  λ part count h. let x = first_after line first rest part count e n h in none x.0 x.1,
)

-- a line without a space that is no word alone
pub no_line : (line : List ℕ) → HasNoSpace line → line ≢ [] → line ≢ codes "prune" → line ≢ codes "compact" →
    line ≢ codes "stats" → IsLine line (Err refusals.Syntax)
no_line line n empty prune compact stats = (
  λ c h. elim (cut_of line c h) as (λ _. ⊥) [
    | inl (IsEmpty e) ↦ empty e
    | inl (IsPrune e) ↦ prune e
    | inl (IsCompact e) ↦ compact e
    | inl (IsStats e) ↦ stats e
    | inr x ↦ n (has_space line (word_text x.word) x.rest x.is)
  ],
  λ part h. let x = part_cut_of line part h in n (has_space line (word_text x.word) x.rest x.is),
  λ part count h. n (has_space line (codes "register-sd") (part ++ 32 ∷ decimal count) h.2),
)

-- a line is what its rest is read as
pub line_of_rest : (line first rest : List ℕ) (w : Word) (r : Result Command LineRefusal) → line ≡ first ++ 32 ∷ rest →
    HasNoSpace first → word_text w ≡ first → IsRest w rest r → IsLine line r
line_of_rest line first rest w (Ok c) e n is h =
    subst (λ (l : List ℕ). Spells l c) (sym (e ∙ ap (λ (f : List ℕ). f ++ 32 ∷ rest) (sym is))) (follows w rest c h)
line_of_rest line first rest w (Err refusals.Id) e n is (inl (part, h, none)) = inl (
  part,
  subst (λ (l : List ℕ). HasIdentifierPart l part) (sym (e ∙ ap (λ (f : List ℕ). f ++ 32 ∷ rest) (sym is)))
      (part_follows w rest part h),
  none,
)
line_of_rest line first rest w (Err refusals.Id) e n is (inr (part, count, h, none)) = inr (
  part,
  count,
  subst (λ (l : List ℕ). TakesRecords l part count) (sym (e ∙ ap (λ (f : List ℕ). f ++ 32 ∷ rest) (sym is)))
      (first_follows w rest part count h),
  none,
)
line_of_rest line first rest w (Err refusals.Syntax) e n is h = (
  λ c s. let x = spelled_after line first rest c e n s in
      h.0 c (subst (λ (v : Word). Follows v rest c) (one_word x.0 w (x.1 ∙ sym is)) x.2),
  λ part s. let x = part_after line first rest part e n s in
      h.1 part (subst (λ (v : Word). IdentifierPart v rest part) (one_word x.0 w (x.1 ∙ sym is)) x.2),
  λ part count s. let x = first_after line first rest part count e n s in
      h.2 part count (subst (λ (v : Word). FirstPart v rest part count) (one_word x.0 w (x.1 ∙ sym is)) x.2),
)

-- a name and a text behind it, where there is no space or the name is none
pub no_name : (rest : List ℕ) → HasNoSpace rest → (name text : List ℕ) → IsName name → rest ≢ name ++ 32 ∷ text
no_name rest n name text is e = n (has_space rest name text e)

pub other_name : (rest first text : List ℕ) → rest ≡ first ++ 32 ∷ text → HasNoSpace first → ¬ IsName first →
    (name more : List ℕ) → IsName name → rest ≢ name ++ 32 ∷ more
other_name rest first text cut n none name more is e =
    none (subst IsName (one_split name first more text (no_space_named name is) n (sym e ∙ cut)).0 is)

-- a number and what follows it, where there is no space, or what stands before it is no number
pub no_number : (bytes : List ℕ) → HasNoSpace bytes → (n : ℕ) (rest : List ℕ) → bytes ≢ decimal n ++ 32 ∷ rest
no_number bytes none n rest e = none (has_space bytes (decimal n) rest e)

pub other_number : (bytes first text : List ℕ) (most : ℕ) → bytes ≡ first ++ 32 ∷ text → HasNoSpace first →
    most < 2 ^ 64 → ((n : ℕ) → n ≤ most → first ≢ decimal n) →
    (n : ℕ) (rest : List ℕ) → n ≤ most → bytes ≢ decimal n ++ 32 ∷ rest
other_number bytes first text most cut none small other n rest within e =
    other n within
    (one_split first (decimal n) text rest none (no_space_in_number n (omega (arith, within, small))) (sym cut ∙ e)).0

-- a number and what follows it are read in one way
pub same_number : (m n : ℕ) (rest more : List ℕ) → m < 2 ^ 64 → n < 2 ^ 64 →
    decimal m ++ 32 ∷ rest ≡ decimal n ++ 32 ∷ more → (m ≡ n) × (rest ≡ more)
same_number m n rest more p q e =
    let same =
    one_split (decimal m) (decimal n) rest more (no_space_in_number m p) (no_space_in_number n q) e in
    (decimal_injective m n p q same.0, same.1)

-- what follows `similar`, where the second number is none
pub no_second : (bytes rest : List ℕ) (p : ℕ) → p ≤ LARGEST_DENOMINATOR → bytes ≡ decimal p ++ 32 ∷ rest →
    ((n : ℕ) (more : List ℕ) → n ≤ LARGEST_DENOMINATOR → rest ≢ decimal n ++ 32 ∷ more) →
    (c : Command) → ¬ Follows words.Similar bytes c
no_second bytes rest p small cut none (Similar a b d text) h =
    let first =
    same_number p a rest (decimal b ++ 32 ∷ (decimal d ++ 32 ∷ text)) (omega (arith, small))
    (omega (arith, h.0.part, h.0.whole.1)) (sym cut ∙ h.1) in
    none b (decimal d ++ 32 ∷ text) h.0.whole.1 first.1
no_second bytes rest p small cut none c h = h

-- or the third
pub no_third : (bytes rest more : List ℕ) (p q : ℕ) → p ≤ LARGEST_DENOMINATOR → q ≤ LARGEST_DENOMINATOR →
    bytes ≡ decimal p ++ 32 ∷ rest → rest ≡ decimal q ++ 32 ∷ more →
    ((n : ℕ) (text : List ℕ) → n ≤ MOST_SIMILAR → more ≢ decimal n ++ 32 ∷ text) →
    (c : Command) → ¬ Follows words.Similar bytes c
no_third bytes rest more p q small little cut again none (Similar a b d text) h =
    let first =
    same_number p a rest (decimal b ++ 32 ∷ (decimal d ++ 32 ∷ text)) (omega (arith, small))
    (omega (arith, h.0.part, h.0.whole.1)) (sym cut ∙ h.1) in
    let second =
    same_number q b more (decimal d ++ 32 ∷ text) (omega (arith, little)) (omega (arith, h.0.whole.1))
    (sym again ∙ first.1) in
    none d text h.0.few.1 second.1
no_third bytes rest more p q small little cut again none c h = h

-- the three numbers behind `similar` are those of the command
pub are_similar : (bytes rest more text : List ℕ) (p q k : ℕ) → p ≤ LARGEST_DENOMINATOR → q ≤ LARGEST_DENOMINATOR →
    k ≤ MOST_SIMILAR → bytes ≡ decimal p ++ 32 ∷ rest → rest ≡ decimal q ++ 32 ∷ more →
    more ≡ decimal k ++ 32 ∷ text → (c : Command) → Follows words.Similar bytes c → IsSimilarity p q k
are_similar bytes rest more text p q k small little few cut again last (Similar a b d other) h =
    let first =
    same_number p a rest (decimal b ++ 32 ∷ (decimal d ++ 32 ∷ other)) (omega (arith, small))
    (omega (arith, h.0.part, h.0.whole.1)) (sym cut ∙ h.1) in
    let second =
    same_number q b more (decimal d ++ 32 ∷ other) (omega (arith, little)) (omega (arith, h.0.whole.1))
    (sym again ∙ first.1) in
    let third = same_number k d text other (omega (arith, few)) (omega (arith, h.0.few.1)) (sym last ∙ second.1) in
    record {
      whole = (omega (arith, second.0, h.0.whole.0), little);
      part = omega (arith, first.0, second.0, h.0.part);
      few = (omega (arith, third.0, h.0.few.0), few);
    }
are_similar bytes rest more text p q k small little few cut again last c h = absurd h
