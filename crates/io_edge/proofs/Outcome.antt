-- What a call for the next line did, from its steps.
use Rattle.std.proofs.Common.{◌≡◌, ℕ, ◌<◌, ◌≤◌, ◌⊎◌, Bool, false, List, [], ◌++◌, Option, None, Some, Result, Ok, Err, refl, sym, ap, ◌∙◌, subst, inl, inr, arith, append_assoc, length-append}
use Rattle.std.specs.Prelude.{IsTrue, OnErr}
use Rattle.std.specs.Io.KnownBytes.{IsAtEnd}
use Rattle.std.proofs.lemmas.Option.{same_Some}
use Rattle.std.proofs.KnownBytes.{Consumes-nil, Consumes-trans}
use Rattle.io_edge.specs.declared.lines.Line.{Line}
use Rattle.io_edge.specs.declared.lines.Line.TheVariants.{Text, Long, End}
use Rattle.io_edge.specs.declared.lines.LineFault.{LineFault}
use Rattle.io_edge.specs.declared.lines.LineFault.TheVariants as fault
use Rattle.io_edge.specs.Faults.{Rose}
use Rattle.io_edge.specs.Source.{Leaves}
use Rattle.io_edge.specs.declared.lines.TheConstants.{LF}
use Rattle.io_edge.specs.Cut.{HasNoLf}
use Rattle.io_edge.specs.Lines.{Reading, lines_behind, lines_left, pieces, HasWholeLine, IsAtLimit, IsFinished, AwaitsBytes}
use Rattle.io_edge.specs.NextLine.{answered, Answers, Counts, Told, OnLine, CanAnswer}
use Rattle.io_edge.specs.Steps.{IsSound, AnswersHeld, NeedsMore, IsEndOf, Reads}

-- ---- bytes that were taken

pub reads_nil : (r : Reading) (left : Option (List ℕ)) → IsSound r → Reads r r left left
reads_nil r left sound = record {
  got = [];
  leaves = Consumes-nil left;
  counts = record { taken = omega arith; limit = refl; within = sound.within };
  lines = λ rest. refl;
  progress = omega arith;
}

pub reads_again : (a b c : Reading) (x y z : Option (List ℕ)) → Reads a b x y → Reads b c y z → Reads a c x z
reads_again a b c x y z p q = record {
  got = p.got ++ q.got;
  leaves = Consumes-trans x y z p.got q.got p.leaves q.leaves;
  counts = record {
    taken = omega (arith, p.counts.taken, q.counts.taken, length-append p.got q.got);
    limit = q.counts.limit ∙ p.counts.limit;
    within = q.counts.within;
  };
  lines = λ rest. q.lines rest ∙ p.lines (q.got ++ rest) ∙ ap (lines_left a) (sym (append_assoc p.got q.got rest));
  progress = omega (arith, p.progress, q.progress);
}

-- the text says nothing of what is left
pub reads_textless : (a b : Reading) (x y : Option (List ℕ)) → Reads a b x y → Reads a (record b { text = [] }) x y
reads_textless a b x y p = record {
  got = p.got;
  leaves = p.leaves;
  counts = record {
    taken = p.counts.taken;
    limit =
        p.counts.limit;
    within = p.counts.within;
  };
  lines = p.lines;
  progress = p.progress;
}

-- ---- the end

pub end_of : (x y z : Option (List ℕ)) (got : List ℕ) → Leaves x got y → IsEndOf y z → IsEndOf x z
end_of None y z got p e = tt
end_of (Some xs) None z got p e = absurd p
end_of (Some xs) (Some ys) z got p e = e

pub at_end_of : (l l' : List ℕ) (x y : Option (List ℕ)) → x ≡ Some l → y ≡ Some l' → IsEndOf x y → l' ≡ []
at_end_of l l' x y p q e = let h = subst (λ v. IsEndOf v y) p e in subst IsAtEnd q h

-- ---- what a call cannot answer

pub ended_not : (b : Bool) → b ≡ false → IsTrue b → ⊥
ended_not b p q = cc

pub no_answer : (r : Reading) → NeedsMore r → CanAnswer r → ⊥
no_answer r h (inl whole) = h.line whole
no_answer r h (inr (inl ended)) = ended_not r.ended h.not_ended ended
no_answer r h (inr (inr all)) = omega (arith, h.below)

pub no_whole_line : (r : Reading) → HasNoLf r.pending → r.ended ≡ false → HasWholeLine r → ⊥
no_whole_line r none unmet (inl has) = none has.0 LF has.1 has.2
no_whole_line r none unmet (inr has) = ended_not r.ended unmet has.0

pub can_at_limit : (r : Reading) → IsAtLimit r → CanAnswer r
can_at_limit r h = inr (inr h.all)

pub can_finished : (r : Reading) → IsFinished r → CanAnswer r
can_finished r h = inr (inl h.ended)

-- ---- told

finished_lines : (new : Reading) (l' : List ℕ) → IsFinished new → l' ≡ [] → lines_left new l' ≡ []
finished_lines new l' h e =
    ap (λ p. lines_behind new.dropped (pieces (p ++ l'))) h.none ∙ ap (λ p. lines_behind new.dropped (pieces p)) e

told_lines : (answer : Result Line LineFault) (old new : Reading) (l l' : List ℕ) → lines_left old l
    ≡ answered answer new.text ++ lines_left new l'
    → (answer ≡ Ok End → (l' ≡ []) × IsFinished new) → Told answer old new l l'
told_lines (Ok Text) old new l l' e end = e
told_lines (Ok (Long size)) old new l l' e end = e
told_lines (Ok End) old new l l' e end = let none = end refl in (e ∙ finished_lines new l' none.1 none.0, none.0)
told_lines (Err f) old new l l' e end = sym e

split_known : (l l' got : List ℕ) (x y : Option (List ℕ)) → x ≡ Some l → y ≡ Some l' → Leaves x got y → l ≡ got ++ l'
split_known l l' got x y p q h = let a = subst (λ v. Leaves v got y) p h in subst (λ v. Leaves (Some l) got v) q a

-- the answer in the words of a source that tells what is left
pub told_of : (answer : Result Line LineFault) (old new : Reading) (got l l' : List ℕ) (x y : Option (List ℕ))
    → x ≡ Some l → y ≡ Some l' → Leaves x got y
    → Answers answer old got new → (IsTrue new.ended → l' ≡ []) → (answer ≡ Ok End → IsFinished new)
    → Told answer old new l l'
told_of answer old new got l l' x y p q leaves answers met finished =
    told_lines answer old new l l' (ap (lines_left old) (split_known l l' got x y p q leaves) ∙ answers l' met)
    (λ e. (met (finished e).ended, finished e))

-- a call that answers from what was held behind what was read
pub answers_after : (answer : Result Line LineFault) (a b c : Reading) (x y : Option (List ℕ)) (p : Reads a b x y)
    → AnswersHeld answer b c → Answers answer a p.got c
answers_after answer a b c x y p held = λ rest met. sym (p.lines rest) ∙ held.lines rest met

pub answers_fault : (f : LineFault) (a b : Reading) (x y : Option (List ℕ)) (p : Reads a b x y)
    → Answers (Err f) a p.got b
answers_fault f a b x y p = λ rest met. sym (p.lines rest)

pub told_fault : (a b : Reading) (l l' : List ℕ) (x y : Option (List ℕ)) (p : Reads a b x y) → x ≡ Some l → y ≡ Some l'
    → lines_left b l' ≡ lines_left a l
told_fault a b l l' x y p hx hy = p.lines l' ∙ ap (lines_left a) (sym (split_known l l' p.got x y hx hy p.leaves))

pub counts_after : (answer : Result Line LineFault) (a b c : Reading) (got : List ℕ) → Counts a got b
    → AnswersHeld answer b c → Counts a got c
counts_after answer a b c got p held = record {
  taken = held.taken ∙ p.taken;
  limit = held.limit ∙ p.limit;
  within =
      omega (arith, held.taken, held.limit, p.within);
}

pub line_rises : (answer : Result Line LineFault) (a b c : ℕ) → a ≤ b → OnLine answer (b < c) → OnLine answer (a < c)
line_rises (Ok Text) a b c p q = omega arith
line_rises (Ok (Long size)) a b c p q = omega arith
line_rises (Ok End) a b c p q = tt
line_rises (Err f) a b c p q = tt

pub rose_after : (a b c : ℕ) → a ≤ b → Rose b c → Rose a c
rose_after a b c p (inl more) = inl (omega arith)
rose_after a b c p (inr full) = inr full

pub not_too_long : (f : LineFault) → f ≡ fault.Source → ◌≡◌ {A = Result Line LineFault} (Err f) (Err fault.TooLong) → ⊥
not_too_long f p q = cc

pub not_end : (f : LineFault) → ◌≡◌ {A = Result Line LineFault} (Err f) (Ok End) → ⊥
not_end f p = cc

-- a call that answers a fault from what was held left no whole line
pub awaits_held : (answer : Result Line LineFault) (a b : Reading) → AnswersHeld answer a b
    → OnErr answer (AwaitsBytes b)
awaits_held (Ok line) a b held = tt
awaits_held (Err fault.Source) a b held = absurd (held.source refl)
awaits_held (Err fault.TooLong) a b held = let at = held.too_long refl in record {
  not_ended = at.not_ended;
  none = at.none;
}

-- ---- a call under way

module _ {S : Type 0} (left : S → Option (List ℕ)) (faults : S → ℕ) where
  -- the call could not answer without more bytes, and some were taken or the end was met
  pub record UnderWay (r : Reading) (s : S) (r' : Reading) (s' : S) : Type 0 where
    pub reads : Reads r r' (left s) (left s')
    pub count : faults s ≤ faults s'
    pub none : CanAnswer r → ⊥
    pub end : IsTrue r'.ended → IsEndOf (left s) (left s')

  abbrev pub Started : Reading → S → Reading → S → Type 0
  Started r s r' s' = ((r' ≡ r) × (s' ≡ s)) ⊎ UnderWay r s r' s'

  pub reads_of : (r : Reading) (s : S) (r' : Reading) (s' : S) → Started r s r' s' → IsSound r'
      → Reads r r' (left s) (left s')
  reads_of r s r' s' (inl same) sound = rw (← same.0, ← same.1) (reads_nil r' (left s') sound)
  reads_of r s r' s' (inr under) sound = under.reads

  pub count_of : (r : Reading) (s : S) (r' : Reading) (s' : S) → Started r s r' s' → faults s ≤ faults s'
  count_of r s r' s' (inl same) = rw same.1 (omega arith)
  count_of r s r' s' (inr under) = under.count

  none_of : (r : Reading) (s : S) (r' : Reading) (s' : S) → Started r s r' s' → (CanAnswer r' → ⊥) → CanAnswer r → ⊥
  none_of r s r' s' (inl same) h can = h (subst CanAnswer (sym same.0) can)
  none_of r s r' s' (inr under) h can = under.none can

  pub goes_on : (r : Reading) (s : S) (r' : Reading) (s' : S) (mid new : Reading) (s'' : S) → Started r s r' s'
      → IsSound r' → NeedsMore r' → mid ≡ record r' { text = [] }
      → Reads mid new (left s') (left s'') → faults s' ≤ faults s'' → (IsTrue new.ended → IsEndOf (left s') (left s''))
      → UnderWay r s new s''
  goes_on r s r' s' mid new s'' started sound needs same reads count end =
      let before = reads_of r s r' s' started sound in
      let before' : Reads r mid (left s) (left s') = rw same (reads_textless r r' (left s) (left s') before) in
      record {
        reads = reads_again r mid new (left s) (left s') (left s'') before' reads;
        count = omega (arith, count_of r s r' s' started, count);
        none = none_of r s r' s' started (no_answer r' needs);
        end = λ e. end_of (left s) (left s') (left s'') before.got before.leaves (end e);
      }

  pub met_of : (r : Reading) (s : S) (r' : Reading) (s' : S) (l l' : List ℕ) → Started r s r' s' → left s ≡ Some l
      → left s' ≡ Some l' → (IsTrue r.ended → l ≡ []) → IsTrue r'.ended → l' ≡ []
  met_of r s r' s' l l' (inl same) p q h e = same_Some l' l (sym q ∙ ap left same.1 ∙ p)
      ∙ h (subst (λ (v : Reading). IsTrue v.ended) same.0 e)
  met_of r s r' s' l l' (inr under) p q h e = at_end_of l l' (left s) (left s') p q (under.end e)

  pub ended_of : (r : Reading) (s : S) (r' : Reading) (s' : S) → Started r s r' s' → IsTrue r.ended → IsTrue r'.ended
  ended_of r s r' s' (inl same) e = subst (λ (v : Reading). IsTrue v.ended) (sym same.0) e
  ended_of r s r' s' (inr under) e = absurd (under.none (inr (inl e)))

  pub untouched_of : (r : Reading) (s : S) (r' : Reading) (s' : S) → Started r s r' s' → CanAnswer r → s' ≡ s
  untouched_of r s r' s' (inl same) can = same.1
  untouched_of r s r' s' (inr under) can = absurd (under.none can)

  pub at_limit_of : (answer : Result Line LineFault) (r : Reading) (s : S) (r' : Reading) (s' : S) (new : Reading)
      → Started r s r' s' → AnswersHeld answer r' new → IsAtLimit r → answer ≡ Err fault.TooLong
  at_limit_of answer r s r' s' new (inl same) held h = held.at_limit (subst IsAtLimit (sym same.0) h)
  at_limit_of answer r s r' s' new (inr under) held h = absurd (under.none (can_at_limit r h))

  pub finished_of : (answer : Result Line LineFault) (r : Reading) (s : S) (r' : Reading) (s' : S) (new : Reading)
      → Started r s r' s' → AnswersHeld answer r' new → IsFinished r → answer ≡ Ok End
  finished_of answer r s r' s' new (inl same) held h = held.finished (subst IsFinished (sym same.0) h)
  finished_of answer r s r' s' new (inr under) held h = absurd (under.none (can_finished r h))
