-- Which lines a line takes after it.
use Rattle.std.proofs.Common.{◌≡◌, ◌≢◌, inl, inr, ℕ, ◌+◌, ◌-◌, ◌<◌, ◌≤◌, List, ◌∷◌, ◌++◌, Option, Some, None, ok_or, sym, ◌∙◌, ap, arith, decimal, codes}
use Rattle.std.specs.Prelude.{IfSome, IfNone}
use Rattle.std.proofs.lemmas.Fmt.{decimal_injective}
use Rattle.store_machine.specs.declared.machine.TheConstants.{LAST_IDENTIFIER}
use Rattle.shell_lang.specs.declared.word.Word.TheVariants as words
use Rattle.shell_lang.specs.declared.command.LineRefusal.TheVariants as refusals
use Rattle.shell_lang.specs.declared.command.TakenLines.TheVariants as taken
use Rattle.shell_lang.specs.Command.{AreIds, IsCount, IsNoFirst, HasNoSpace, StartsWith, StartsMolfile, TakesLines}
use Rattle.shell_lang.specs.CommandView.{Takes}
use Rattle.shell_lang.specs.Cut.{FirstPart}
use Rattle.shell_lang.proofs.Cuts.{has_space, one_split, word_space}

-- a line that begins with another word
other_word : (word line : List ℕ) → word ≢ line → HasNoSpace line → ¬ StartsWith line word
other_word word line other n (inl e) = other (sym e)
other_word word line other n (inr h) = n (has_space line word h.0 h.1)

other_first : (word line first rest : List ℕ) → HasNoSpace word → line ≡ first ++ 32 ∷ rest → HasNoSpace first →
    word ≢ first → ¬ StartsWith line word
other_first word line first rest w cut n other (inl e) = w (has_space word first rest (sym e ∙ cut))
other_first word line first rest w cut n other (inr h) = other (one_split word first h.0 rest w n (sym h.1 ∙ cut)).0

-- a line whose first word is another
no_mol : (line first rest : List ℕ) → line ≡ first ++ 32 ∷ rest → HasNoSpace first → codes "register-mol" ≢ first →
    codes "revise-mol" ≢ first → ¬ StartsMolfile line
no_mol line first rest cut n a b (inl h) =
    other_first (codes "register-mol") line first rest (word_space words.RegisterMol) cut n a h
no_mol line first rest cut n a b (inr h) =
    other_first (codes "revise-mol") line first rest (word_space words.ReviseMol) cut n b h

-- a line without a space that is another word
pub no_lines_alone : (line : List ℕ) → codes "register-mol" ≢ line → codes "revise-mol" ≢ line → HasNoSpace line →
    ¬ TakesLines line
no_lines_alone line a b n (inl (inl h)) = other_word (codes "register-mol") line a n h
no_lines_alone line a b n (inl (inr h)) = other_word (codes "revise-mol") line b n h
no_lines_alone line a b n (inr (part, count, (k, few, e))) =
    n (has_space line (codes "register-sd") (part ++ 32 ∷ decimal count) e)

-- a line whose first word is none of the three
pub no_lines : (line first rest : List ℕ) → line ≡ first ++ 32 ∷ rest → HasNoSpace first →
    codes "register-mol" ≢ first → codes "revise-mol" ≢ first → codes "register-sd" ≢ first → ¬ TakesLines line
no_lines line first rest cut n a b c (inl h) = no_mol line first rest cut n a b h
no_lines line first rest cut n a b c (inr (part, count, (k, few, e))) =
    c (one_split (codes "register-sd") first (part ++ 32 ∷ decimal count) rest (word_space words.RegisterSd) n
    (sym e ∙ cut)).0

-- a line with this first word
pub starts : (word line first rest : List ℕ) → line ≡ first ++ 32 ∷ rest → word ≡ first → StartsWith line word
starts word line first rest cut is = inr (rest, cut ∙ ap (λ (f : List ℕ). f ++ 32 ∷ rest) (sym is))

-- no number of records, where there is no space, or what stands behind it is no such number
pub no_count : (rest : List ℕ) → HasNoSpace rest → (part : List ℕ) (count : ℕ) →
    ¬ FirstPart words.RegisterSd rest part count
no_count rest none part count h = none (has_space rest part (decimal count) h.2)

pub other_count : (rest first digits : List ℕ) → rest ≡ first ++ 32 ∷ digits → HasNoSpace first →
    ((n : ℕ) → IsCount n → digits ≢ decimal n) → (part : List ℕ) (count : ℕ) →
    ¬ FirstPart words.RegisterSd rest part count
other_count rest first digits cut n none part count h =
    none count h.1 (one_split first part digits (decimal count) n h.0 (sym cut ∙ h.2)).1

-- a number that is read is no other, and this one is 0
pub count_of_0 : (digits : List ℕ) (n : ℕ) → digits ≡ decimal n → n ≡ 0 → (count : ℕ) → IsCount count →
    digits ≢ decimal count
count_of_0 digits n is zero count few e =
    let same = decimal_injective n count (omega (arith, zero)) (omega (arith, few.1)) (sym is ∙ e) in
    omega (arith, same, zero, few.0)

-- a number is not the first of so many identifiers where the last one is out of range
pub no_last_identifier : (bytes : List ℕ) (count first : ℕ) → IsCount count → bytes ≡ decimal first →
    first ≤ LAST_IDENTIFIER → LAST_IDENTIFIER < first + (count - 1) → IsNoFirst bytes count
no_last_identifier bytes count first few is small over id are e =
    let same = decimal_injective first id (omega (arith, small)) (omega (arith, are.1)) (sym is ∙ e) in
    omega (arith, same, over, are.1, few.0)

-- what a line of records is read as, by the part where the first identifier is to stand
pub records_read : (rest part : List ℕ) (count : ℕ) (first : Option ℕ) → FirstPart words.RegisterSd rest part count →
    IfSome first (λ id. (part ≡ decimal id) × AreIds id count) → IfNone first (IsNoFirst part count) →
    Takes (taken.Records count (ok_or first refusals.Id)) (codes "register-sd" ++ 32 ∷ rest)
records_read rest part count (Some id) h some none =
    let line = ap (λ (r : List ℕ). codes "register-sd" ++ 32 ∷ r) h.2 in
    let spelled = ap (λ (p : List ℕ). codes "register-sd" ++ 32 ∷ (p ++ 32 ∷ decimal count)) some.0 in
    ((part, (h.0, h.1, line)), (h.1, some.1, line ∙ spelled))
records_read rest part count None h some none =
    let line = ap (λ (r : List ℕ). codes "register-sd" ++ 32 ∷ r) h.2 in
    ((part, (h.0, h.1, line)), inr (part, count, (h.0, h.1, line), none))
