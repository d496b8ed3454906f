-- The request under way, line by line.
use Rattle.std.proofs.Common.{◌≡◌, ◌≢◌, ◌⊎◌, ◌↔◌, ◌∙◌, ◌+◌, ◌-◌, ◌≤◌, ◌++◌, ap, append-nil, append_assoc, arith, Bool, codes, false, inl, inr, IsTrue, length, length-append, List, [], ◌∷◌, None, Option, refl, Result, Some, subst, suc, sym, true, zero, ℕ, if◌then◌else◌}
use Rattle.std.proofs.lemmas.Fmt.{decimal_injective}
use Rattle.std.proofs.lemmas.List.{append_cancel_left}
use Rattle.std.specs.Fmt.{decimal}
use Rattle.dialogue.specs.Dialogue.{IsAsked, IsTextOf}
use Rattle.io_edge.specs.Lines.{TextLine, TooLong, Whole}
use Rattle.shell_lang.specs.Command.{StartsMolfile, TakesLines, TakesRecords}
use Rattle.shell_lang.specs.declared.command.LineRefusal.{LineRefusal}
use Rattle.shell_lang.specs.declared.command.MolfileChange.{MolfileChange}
use Rattle.shell_lang.specs.declared.command.TheConstants.{MOST_SD_RECORDS}
use Rattle.shell_lang.proofs.Cuts.{one_split}
use Rattle.session_acts.specs.Records.{behind_record, first_record, records_in}
use Rattle.session_acts.specs.Requests.{HasLast, HaveEnds, IsLast, IsWhole, ends_record, request_of}
use Rattle.session_acts.specs.Talking.{sessions}
use Rattle.session_run.specs.Taken.{AreTaken, IsPart, IsRecordPart}
use Rattle.session_run.specs.Underway.{AreUnended, Begins, Holds, HoldsLines, HoldsRecords, IsNext, IsOpen, IsWholeBy}
use Rattle.session_run.specs.declared.records.Part.{Part}
use Rattle.session_run.specs.declared.records.SdTexts.{SdTexts}
use Rattle.session_run.specs.declared.request.Next.{Next}
use Rattle.session_run.specs.declared.request.Next.TheVariants as nexts
use Rattle.session_run.specs.declared.request.Taking.{Taking}
use Rattle.session_run.proofs.Requested.{records_apart}

-- ---- whole requests

pub long_whole : (size : ℕ) → IsWhole (TooLong size ∷ [])
long_whole size = inl (record { no_molfile = λ h. h; no_records = λ count h. h })

pub line_whole : (line : List ℕ) → ¬ TakesLines line → IsWhole (Whole line ∷ [])
line_whole line none = inl (record {
  no_molfile = λ h. none (inl h);
  no_records = λ count h. none (inr (h.0, count, h.1));
})

-- a line that takes a molfile whose last line is not there
molfile_open : (first : List ℕ) (more : List TextLine) → StartsMolfile first → ¬ HasLast more
    → ¬ IsWhole (Whole first ∷ more)
molfile_open first more starts none (inl alone) = alone.no_molfile starts
molfile_open first more starts none (inr (inl h)) = none h.1
molfile_open first more starts none (inr (inr h)) = records_apart first h.1.0 h.0 h.1.1 starts

last_behind : (more : List TextLine) (line : TextLine) → IsLast line → HasLast (more ++ line ∷ [])
last_behind [] line is = inl is
last_behind (x ∷ more) line is = inr (last_behind more line is)

none_behind : (more : List TextLine) (line : TextLine) → ¬ HasLast more → ¬ IsLast line → ¬ HasLast (more ++ line ∷ [])
none_behind [] line none other (inl h) = other h
none_behind [] line none other (inr h) = h
none_behind (x ∷ more) line none other (inl h) = none (inl h)
none_behind (x ∷ more) line none other (inr h) = none_behind more line (λ k. none (inr k)) other h

pub false_is_not_true : IsTrue false → ⊥
false_is_not_true h = cc

pub molfile_by : (whole : Bool) (first : List ℕ) (more : List TextLine) (line : TextLine) → StartsMolfile first
    → ¬ IsWhole (Whole first ∷ more) → (IsTrue whole ↔ IsLast line) → IsWholeBy whole (Whole first ∷ (more ++ line ∷ []))
molfile_by true first more line starts none is = inr (inl (starts, last_behind more line (is.0 refl)))
molfile_by false first more line starts none is =
    molfile_open first (more ++ line ∷ []) starts
    (none_behind more line (λ h. none (inr (inl (starts, h)))) (λ h. false_is_not_true (is.1 h)))

pub molfile_begun : (first : List ℕ) → StartsMolfile first → ¬ IsWhole (Whole first ∷ [])
molfile_begun first starts = molfile_open first [] starts (λ h. h)

-- one number of records
one_count : (line first word : List ℕ) (n count : ℕ) → TakesRecords line first n → TakesRecords line word count
    → n ≡ count
one_count line first word n count a b =
    let same : 32 ∷ (first ++ 32 ∷ decimal n) ≡ 32 ∷ (word ++ 32 ∷ decimal count) =
    append_cancel_left (codes "register-sd") (32 ∷ (first ++ 32 ∷ decimal n)) (32 ∷ (word ++ 32 ∷ decimal count))
    (sym a.2 ∙ b.2) in
    let rest : first ++ 32 ∷ decimal n ≡ word ++ 32 ∷ decimal count = cc in
    decimal_injective n count (omega (arith, a.1.1)) (omega (arith, b.1.1))
    (one_split first word (decimal n) (decimal count) a.0 b.0 rest).1

records_open : (first word : List ℕ) (count : ℕ) (more : List TextLine) → TakesRecords first word count
    → ¬ HaveEnds count more → ¬ IsWhole (Whole first ∷ more)
records_open first word count more takes none (inl alone) = alone.no_records count (word, takes)
records_open first word count more takes none (inr (inl h)) = records_apart first word count takes h.0
records_open first word count more takes none (inr (inr h)) =
    none (subst (λ (n : ℕ). HaveEnds n more) (one_count first h.1.0 word h.0 count h.1.1 takes) h.2)

none_end : (left : ℕ) → left ≢ 0 → ¬ HaveEnds left []
none_end zero some h = some refl
none_end (suc n) some h = h

all_end : (left : ℕ) → left ≡ 0 → HaveEnds left []
all_end left e = subst (λ (n : ℕ). HaveEnds n []) (sym e) tt

module _ {count : ℕ} {more : List TextLine} {left : ℕ} {part : Option Part} {text : List ℕ} {records : SdTexts}
    (h : HoldsRecords count more left part text records) where
  ends_here : HaveEnds count more ↔ HaveEnds left []
  ends_here = subst (λ (l : List TextLine). HaveEnds count l ↔ HaveEnds left []) (append-nil more) (h.ends [])

  pub records_by : (whole : Bool) (first word : List ℕ) → TakesRecords first word count → (IsTrue whole ↔ (left ≡ 0))
      → IsWholeBy whole (Whole first ∷ more)
  records_by true first word takes is = inr (inr (count, (word, takes), ends_here.1 (all_end left (is.0 refl))))
  records_by false first word takes is = records_open first word count more takes
      (λ e. none_end left (λ z. false_is_not_true (is.1 z)) (ends_here.0 e))

  pub left_some : (first word : List ℕ) → TakesRecords first word count → ¬ IsWhole (Whole first ∷ more) → left ≢ 0
  left_some first word takes none e = none (inr (inr (count, (word, takes), ends_here.1 (all_end left e))))

-- ---- records of a request

first_unended : (tail : List TextLine) → AreUnended tail → first_record tail ≡ tail
first_unended [] h = refl
first_unended (x ∷ tail) h =
    ap (λ (b : Bool). if b then [] else x ∷ first_record tail) h.0 ∙ ap (λ l. x ∷ l) (first_unended tail h.1)

behind_unended : (tail : List TextLine) → AreUnended tail → behind_record tail ≡ []
behind_unended [] h = refl
behind_unended (x ∷ tail) h =
    ap (λ (b : Bool). if b then tail else behind_record tail) h.0 ∙ behind_unended tail h.1

first_ended : (tail : List TextLine) (line : TextLine) (after : List TextLine) → AreUnended tail
    → ends_record line ≡ true → first_record (tail ++ line ∷ after) ≡ tail
first_ended [] line after h e = ap (λ (b : Bool). if b then [] else line ∷ first_record after) e
first_ended (x ∷ tail) line after h e =
    ap (λ (b : Bool). if b then [] else x ∷ first_record (tail ++ line ∷ after)) h.0
    ∙ ap (λ l. x ∷ l) (first_ended tail line after h.1 e)

behind_ended : (tail : List TextLine) (line : TextLine) (after : List TextLine) → AreUnended tail
    → ends_record line ≡ true → behind_record (tail ++ line ∷ after) ≡ after
behind_ended [] line after h e = ap (λ (b : Bool). if b then after else behind_record after) e
behind_ended (x ∷ tail) line after h e =
    ap (λ (b : Bool). if b then tail ++ line ∷ after else behind_record (tail ++ line ∷ after)) h.0
    ∙ behind_ended tail line after h.1 e

records_some : (n : ℕ) (lines : List TextLine) → lines ≢ []
    → records_in (suc n) lines ≡ Some (first_record lines) ∷ records_in n (behind_record lines)
records_some n [] some = absurd (some refl)
records_some n (x ∷ lines) some = refl

pub some_line : (tail : List TextLine) (line : TextLine) (after : List TextLine) → tail ++ line ∷ after ≢ []
some_line [] line after e = cc
some_line (x ∷ tail) line after e = cc

records_ended : (n : ℕ) (tail : List TextLine) (line : TextLine) (after : List TextLine) → AreUnended tail
    → ends_record line ≡ true → records_in (suc n) (tail ++ line ∷ after) ≡ Some tail ∷ records_in n after
records_ended n tail line after h e =
    records_some n (tail ++ line ∷ after) (some_line tail line after)
    ∙ (ap (λ l. Some l ∷ records_in n (behind_record (tail ++ line ∷ after))) (first_ended tail line after h e)
    ∙ ap (λ l. Some tail ∷ records_in n l) (behind_ended tail line after h e))

-- a record of which these lines are left
abbrev pub left_record : List TextLine → Option (List TextLine)
left_record [] = None
left_record (line ∷ lines) = Some (line ∷ lines)

pub records_left : (n : ℕ) (tail : List TextLine) → AreUnended tail
    → records_in (suc n) tail ≡ left_record tail ∷ records_in n []
records_left n [] h = refl
records_left n (x ∷ tail) h =
    ap (λ l. Some l ∷ records_in n (behind_record (x ∷ tail))) (first_unended (x ∷ tail) h)
    ∙ ap (λ l. Some (x ∷ tail) ∷ records_in n l) (behind_unended (x ∷ tail) h)

unended_more : (tail : List TextLine) (line : TextLine) → AreUnended tail → ends_record line ≡ false
    → AreUnended (tail ++ line ∷ [])
unended_more [] line h e = (e, tt)
unended_more (x ∷ tail) line h e = (h.0, unended_more tail line h.1 e)

ends_same : (left : ℕ) (line : TextLine) (after : List TextLine) → left ≢ 0 → ends_record line ≡ false
    → HaveEnds left (line ∷ after) ≡ HaveEnds left after
ends_same zero line after some e = absurd (some refl)
ends_same (suc n) line after some e = ap (λ (b : Bool). HaveEnds (if b then n else suc n) after) e

ends_fewer : (n : ℕ) (line : TextLine) (after : List TextLine) → ends_record line ≡ true
    → HaveEnds (suc n) (line ∷ after) ≡ HaveEnds n after
ends_fewer n line after e = ap (λ (b : Bool). HaveEnds (if b then n else suc n) after) e

-- a line was added
pub records_line : {count : ℕ} {more : List TextLine} {left : ℕ} {part : Option Part} {text : List ℕ}
    {records : SdTexts} (part' : Option Part) (text' : List ℕ) (line : TextLine)
    → (h : HoldsRecords count more left part text records) → left ≢ 0 → ends_record line ≡ false
    → ((tail : List TextLine) → IsOpen part tail text → IsOpen part' (tail ++ line ∷ []) text')
    → HoldsRecords count (more ++ line ∷ []) left part' text' records
records_line {count} {more} {left} part' text' line h some e gives = record {
  done = h.done;
  tail = h.tail ++ line ∷ [];
  taken = h.taken;
  number = h.number;
  few = h.few;
  opens = gives h.tail h.opens;
  unended = unended_more h.tail line h.unended e;
  all = λ after. ap (records_in count) (append_assoc more (line ∷ []) after)
      ∙ (h.all (line ∷ after)
      ∙ ap (λ l. h.done ++ records_in left l) (sym (append_assoc h.tail (line ∷ []) after)));
  ends = λ after. subst (λ (l : List TextLine). HaveEnds count l ↔ HaveEnds left after)
      (sym (append_assoc more (line ∷ []) after))
      (subst (λ (X : Type 0). HaveEnds count (more ++ line ∷ after) ↔ X) (ends_same left line after some e)
      (h.ends (line ∷ after)));
}

pub one_less : (left : ℕ) → left ≢ 0 → left ≡ suc (left - 1)
one_less zero some = absurd (some refl)
one_less (suc n) some = omega arith

-- a record was ended
pub records_end : {count : ℕ} {more : List TextLine} {left : ℕ} {part : Option Part} {text : List ℕ}
    {records : SdTexts} (records' : SdTexts) (text' : List ℕ) (line : TextLine)
    → (h : HoldsRecords count more left part text records) → left ≢ 0 → ends_record line ≡ true → text' ≡ []
    → AreTaken (h.done ++ Some h.tail ∷ []) records'
    → HoldsRecords count (more ++ line ∷ []) (left - 1) None text' records'
records_end {count} {more} {left} records' text' line h some e none taken =
    let n : ℕ = left - 1 in
    let left_is = one_less left some in record {
      done = h.done ++ Some h.tail ∷ [];
      tail = [];
      taken = taken;
      number = omega (arith, h.number, left_is, length-append h.done (Some h.tail ∷ []));
      few = h.few;
      opens = (refl, none);
      unended = tt;
      all = λ after. ap (records_in count) (append_assoc more (line ∷ []) after)
          ∙ (h.all (line ∷ after)
          ∙ (ap (λ m. h.done ++ records_in m (h.tail ++ line ∷ after)) left_is
          ∙ (ap (λ l. h.done ++ l) (records_ended n h.tail line after h.unended e)
          ∙ sym (append_assoc h.done (Some h.tail ∷ []) (records_in n after)))));
      ends = λ after. subst (λ (l : List TextLine). HaveEnds count l ↔ HaveEnds n after)
          (sym (append_assoc more (line ∷ []) after))
          (subst (λ (X : Type 0). HaveEnds count (more ++ line ∷ after) ↔ X) (ends_fewer n line after e)
          (subst (λ (m : ℕ). HaveEnds count (more ++ line ∷ after) ↔ HaveEnds m (line ∷ after)) left_is
          (h.ends (line ∷ after))));
    }

pub records_begun : (count : ℕ) (records : SdTexts) (text : List ℕ) → count ≤ MOST_SD_RECORDS → text ≡ []
    → AreTaken [] records → HoldsRecords count [] count None text records
records_begun count records text few none taken = record {
  done = [];
  tail = [];
  taken = taken;
  number = omega arith;
  few = few;
  opens = (refl, none);
  unended = tt;
  all = λ after. refl;
  ends = λ after. (λ x. x, λ x. x);
}

-- ---- the records that the input's end cuts off

-- these records are added, the first of them of these lines
pub record IsFilling (count : ℕ) (more : List TextLine) (left : ℕ) (part : Option Part) (text : List ℕ)
    (records : SdTexts) : Type 0 where
  pub done : List (Option (List TextLine))
  pub tail : List TextLine
  pub taken : AreTaken done records
  pub number : length done + left ≡ count
  pub few : count ≤ MOST_SD_RECORDS
  pub opens : IsOpen part tail text ⊎ ((part ≡ None) × (tail ≡ []))
  pub unended : AreUnended tail
  pub all : records_in count more ≡ done ++ records_in left tail

pub filling_none : {count : ℕ} {more : List TextLine} {left : ℕ} {part : Option Part} {text : List ℕ}
    {records : SdTexts} → HoldsRecords count more left part text records → IsFilling count more left part text records
filling_none {count} {more} {left} h = record {
  done = h.done;
  tail = h.tail;
  taken = h.taken;
  number = h.number;
  few = h.few;
  opens = inl h.opens;
  unended = h.unended;
  all = ap (records_in count) (sym (append-nil more))
      ∙ (h.all [] ∙ ap (λ l. h.done ++ records_in left l) (append-nil h.tail));
}

pub filling_part : (part : Option Part) (tail : List TextLine) (text : List ℕ)
    → IsOpen part tail text ⊎ ((part ≡ None) × (tail ≡ [])) → IsRecordPart part (left_record tail) text
filling_part None tail text (inl h) = ap left_record h.0
filling_part None tail text (inr h) = ap left_record h.1
filling_part (Some part) [] text (inl h) = absurd (h.0 refl)
filling_part (Some part) (x ∷ tail) text (inl h) = (x ∷ tail, refl, h.1)
filling_part (Some part) tail text (inr h) = cc

pub filling_more : {count : ℕ} {more : List TextLine} {left : ℕ} {part : Option Part} {text : List ℕ}
    {records : SdTexts} (records' : SdTexts) → (h : IsFilling count more left part text records) → left ≢ 0
    → AreTaken (h.done ++ left_record h.tail ∷ []) records' → IsFilling count more (left - 1) None text records'
filling_more {count} {more} {left} records' h some taken =
    let n : ℕ = left - 1 in
    let left_is = one_less left some in record {
      done = h.done ++ left_record h.tail ∷ [];
      tail = [];
      taken = taken;
      number = omega (arith, h.number, left_is, length-append h.done (left_record h.tail ∷ []));
      few = h.few;
      opens = inr (refl, refl);
      unended = tt;
      all = h.all ∙ (ap (λ m. h.done ++ records_in m h.tail) left_is
          ∙ (ap (λ l. h.done ++ l) (records_left n h.tail h.unended)
          ∙ sym (append_assoc h.done (left_record h.tail ∷ []) (records_in n []))));
    }

pub filling_all : {count : ℕ} {more : List TextLine} {left : ℕ} {part : Option Part} {text : List ℕ}
    {records : SdTexts} → (h : IsFilling count more left part text records) → left ≡ 0
    → AreTaken (records_in count more) records
filling_all {records = records} h e =
    let all = h.all ∙ (ap (λ n. h.done ++ records_in n h.tail) e ∙ append-nil h.done) in
    subst (λ (l : List (Option (List TextLine))). AreTaken l records) (sym all) h.taken

-- ---- the request that is asked

one_line : (front : List TextLine) (last line : TextLine) → line ∷ [] ≡ front ++ last ∷ [] → last ≡ line
one_line [] last line e = cc
one_line (x ∷ []) last line e = cc
one_line (x ∷ y ∷ front) last line e = cc

not_nothing : (front : List TextLine) (last : TextLine) → [] ≡ front ++ last ∷ [] → ⊥
not_nothing [] last e = cc
not_nothing (x ∷ front) last e = cc

asked_some : (line : List ℕ) → IsAsked sessions [] line → ⊥
asked_some line (inl a) = not_nothing a.1.0 a.1.1 a.1.2
asked_some line (inr a) = a.0 refl

asked_line : (text line : List ℕ) → ¬ TakesLines text → IsAsked sessions (Whole text ∷ []) line → line ≡ text
asked_line text line none (inl a) = subst (λ (l : TextLine). IsTextOf l line) (one_line a.1.0 a.1.1 (Whole text) a.1.2) a.1.3
asked_line text line none (inr a) = absurd (a.1.0 (line_whole text none))

pub next_by : (next : Next) (left : ℕ) (part : Option Part) (lines : List TextLine) (text : List ℕ)
    (records records' : SdTexts) (line : List ℕ) → Holds next left part lines text records → IsAsked sessions lines line
    → ((count : ℕ) (read : Result ℕ LineRefusal) (more : List TextLine) → next ≡ nexts.WithRecords count read
    → HoldsRecords count more left part text records → AreTaken (records_in count more) records')
    → IsNext next (request_of lines) line text records'
next_by nexts.End left part lines text records records' line h asked fills =
    absurd (asked_some line (subst (λ (l : List TextLine). IsAsked sessions l line) h asked))
next_by nexts.Long left part lines text records records' line h asked fills =
    inl (h.0, ap (λ l. (request_of l).line) h.1)
next_by nexts.Line left part lines text records records' line h asked fills =
    let same = asked_line h.0 line h.2 (subst (λ (l : List TextLine). IsAsked sessions l line) h.1 asked) in (
      ap request_of h.1 ∙ ap (λ t. record { line = Whole t; more = [] }) (sym same),
      subst (λ (t : List ℕ). ¬ TakesLines t) (sym same) h.2,
    )
next_by (nexts.WithMolfile read molfile) left part lines text records records' line h asked fills =
    subst (λ (l : List TextLine). IsNext (nexts.WithMolfile read molfile) (request_of l) line text records') (sym h.2)
    (h.0, refl, h.3, h.4, h.5)
next_by (nexts.WithRecords count read) left part lines text records records' line h asked fills =
    subst (λ (l : List TextLine). IsNext (nexts.WithRecords count read) (request_of l) line text records') (sym h.3)
    (h.0, h.1, refl, h.4, h.5, fills count read h.2 refl h.6)

-- a request begins
pub begins_line : (new : Taking) (text : List ℕ) (records : SdTexts) (line : List ℕ) (whole : Bool)
    (lines : List TextLine) → lines ≡ [] → Begins new text records line whole
    → HoldsLines new (lines ++ Whole line ∷ []) text records × IsWholeBy whole (lines ++ Whole line ∷ [])
begins_line new text records line whole lines e b =
    subst (λ (l : List TextLine). HoldsLines new (l ++ Whole line ∷ []) text records
    × IsWholeBy whole (l ++ Whole line ∷ [])) (sym e) b

-- a line more with a molfile
pub adds_molfile : (read : Result MolfileChange LineRefusal) (molfile molfile' : Part) (left : ℕ) (part : Option Part)
    (lines : List TextLine) (text text' : List ℕ) (records records' : SdTexts) (line : TextLine) (whole : Bool)
    → ¬ IsWhole lines → (IsTrue whole ↔ IsLast line)
    → ((more : List TextLine) → IsPart molfile more text → IsPart molfile' (more ++ line ∷ []) text')
    → Holds (nexts.WithMolfile read molfile) left part lines text records
    → Holds (nexts.WithMolfile read molfile') left part (lines ++ line ∷ []) text' records'
    × IsWholeBy whole (lines ++ line ∷ [])
adds_molfile read molfile molfile' left part lines text text' records records' line whole none is more h =
    let same = ap (λ (l : List TextLine). l ++ line ∷ []) h.2 in (
      (h.0, h.1 ++ line ∷ [], same, h.3, h.4, more h.1 h.5),
      subst (IsWholeBy whole) (sym same)
          (molfile_by whole h.0 h.1 line h.3 (subst (λ (l : List TextLine). ¬ IsWhole l) h.2 none) is),
    )

-- a line more with records
pub adds_records : (count : ℕ) (read : Result ℕ LineRefusal) (left left' : ℕ) (part part' : Option Part)
    (lines : List TextLine) (text text' : List ℕ) (records records' : SdTexts) (line : TextLine) (whole : Bool)
    → ¬ IsWhole lines → (IsTrue whole ↔ (left' ≡ 0))
    → ((more : List TextLine) → HoldsRecords count more left part text records → left ≢ 0
    → HoldsRecords count (more ++ line ∷ []) left' part' text' records')
    → Holds (nexts.WithRecords count read) left part lines text records
    → Holds (nexts.WithRecords count read) left' part' (lines ++ line ∷ []) text' records'
    × IsWholeBy whole (lines ++ line ∷ [])
adds_records count read left left' part part' lines text text' records records' line whole none is more h =
    let same = ap (λ (l : List TextLine). l ++ line ∷ []) h.3 in
    let some = left_some h.6 h.0 h.1 h.4 (subst (λ (l : List TextLine). ¬ IsWhole l) h.3 none) in
    let holds = more h.2 h.6 some in (
      (h.0, h.1, h.2 ++ line ∷ [], same, h.4, h.5, holds),
      subst (IsWholeBy whole) (sym same) (records_by holds whole h.0 h.1 h.4 is),
    )

pub still_left : (left : ℕ) → left ≢ 0 → IsTrue false ↔ (left ≡ 0)
still_left left some = (λ f. absurd (false_is_not_true f), λ e. absurd (some e))
