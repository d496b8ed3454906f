-- The line that was taken, and asked.
use Rattle.std.proofs.Common.{◌≡◌, ◌++◌, ◌∙◌, ap, Bool, Err, false, inl, inr, List, [], ◌∷◌, None, Ok, Option, refl, Result, Some, subst, sym, true, ℕ}
use Rattle.std.specs.declared.alloc.AllocError.{AllocError}
use Rattle.dialogue.specs.Answers.{Adds, CutsShort, Replies}
use Rattle.dialogue.specs.Dialogue.{IsAsked, IsPart, IsTextOf}
use Rattle.io_edge.specs.Lines.{TextLine, TooLong, Whole}
use Rattle.drill_run.specs.Causes.{Tally}
use Rattle.drill_run.specs.Talking.{Kept, drills}
use Rattle.drill_run.specs.Talks.{Answers, AnswersLine, AreReady, IsTaken, WorldTerm, is_long, kept_of, talks}
use Rattle.drill_run.specs.declared.sessions.Sessions.{Sessions}

-- nothing was taken of a request that is not whole
none_taken : (lines : List TextLine) → IsPart drills lines → lines ≡ []
none_taken [] h = refl
none_taken (line ∷ lines) h = absurd (h.0 (line, refl))

-- other sessions with the same settings and responders
pub ready-as : (a b : Sessions) (slot : Option WorldTerm) (tally : Tally) (n : ℕ) → b.responders ≡ a.responders
    → b.settings ≡ a.settings → AreReady a slot tally n → AreReady b slot tally n
ready-as a b None tally n responders settings h = absurd h
ready-as a b (Some world) tally n responders settings h = record {
  state = h.state;
  stands = h.stands;
  number = rw responders h.number;
  fit = rw (responders, settings) h.fit;
  held = rw responders h.held;
  tallied = h.tallied;
  few = h.few;
}

-- a line was added
pub adds : (a : Sessions) (line : TextLine) (long : Bool) → is_long line ≡ long
    → Adds talks a (record a { too_long = long }) line true
adds a line long is = record {
  ready = λ slot kept lines n h part. record {
    kept_is = h.kept_is;
    ready = ready-as a (record a { too_long = long }) slot kept.tally n refl refl h.ready;
    taken = subst (λ (l : List TextLine). IsTaken long (l ++ line ∷ [])) (sym (none_taken lines part)) is;
  };
  is_whole = λ slot kept lines n h part e.
      subst (λ (l : List TextLine). drills.IsWhole (l ++ line ∷ [])) (sym (none_taken lines part)) (line, refl);
  is_part = λ slot kept lines n h part e. absurd (cc e);
}

-- the only line
only : (x y : TextLine) (front : List TextLine) → x ∷ [] ≡ front ++ y ∷ [] → x ≡ y
only x y [] e = cc e
only x y (z ∷ []) e = absurd (cc e)
only x y (z ∷ w ∷ front) e = absurd (cc e)

-- what is asked is one line
pub asked-line : (lines : List TextLine) (text : List ℕ) → IsAsked drills lines text
    → (line : TextLine) × (lines ≡ line ∷ []) × IsTextOf line text
asked-line lines text (inl (request, (front, last, split, is))) =
    let whole = request.4 in (
      whole.0,
      whole.1,
      subst (λ (l : TextLine). IsTextOf l text) (sym (only whole.0 last front (sym whole.1 ∙ split))) is,
    )
asked-line lines text (inr (some, part)) = absurd (some (none_taken lines part))

-- the answer to it
pub as-asked : (a b : Sessions) (slot slot' : Option WorldTerm) (kept : Kept) (lines : List TextLine) (line : TextLine)
    (n : ℕ) → kept ≡ kept_of a kept.tally → lines ≡ line ∷ []
    → AnswersLine (Ok tt) b slot slot' (kept_of a kept.tally) line n → Replies talks b slot slot' kept lines n
as-asked a b slot slot' kept lines line n same is r =
    subst (λ (l : List TextLine). Replies talks b slot slot' kept l n) (sym is)
    (subst (λ (k : Kept). Replies talks b slot slot' k (line ∷ []) n) (sym same) r)

pub as-cut : (a b : Sessions) (slot slot' : Option WorldTerm) (kept : Kept) (lines : List TextLine) (line : TextLine)
    (n : ℕ) (fault : AllocError) → kept ≡ kept_of a kept.tally → lines ≡ line ∷ []
    → AnswersLine (Err fault) b slot slot' (kept_of a kept.tally) line n → CutsShort talks b slot slot' kept lines
as-cut a b slot slot' kept lines line n fault same is r =
    subst (λ (l : List TextLine). CutsShort talks b slot slot' kept l) (sym is)
    (subst (λ (k : Kept). CutsShort talks b slot slot' k (line ∷ [])) (sym same) r)

-- what was taken is that line
pub taken-is : (long : Bool) (lines : List TextLine) (line : TextLine) → lines ≡ line ∷ [] → IsTaken long lines
    → is_long line ≡ long
taken-is long lines line is h = subst (IsTaken long) is h

-- by its length
pub long-line : (line : TextLine) → is_long line ≡ true → (size : ℕ) × (line ≡ TooLong size)
long-line (Whole text) e = absurd (cc e)
long-line (TooLong size) e = (size, refl)

pub whole-line : (line : TextLine) (text : List ℕ) → is_long line ≡ false → IsTextOf line text → line ≡ Whole text
whole-line (Whole own) text e is = ap (λ (t : List ℕ). Whole t) (sym is)
whole-line (TooLong size) text e is = absurd (cc e)

-- where the world is there
pub at-world : (result : Result (Unit {0}) AllocError) (a b : Sessions) (slot slot' : Option WorldTerm)
    (world : WorldTerm) (line : TextLine) → slot ≡ Some world → Answers result a b (Some world) slot' line
    → Answers result a b slot slot' line
at-world result a b slot slot' world line e h =
    subst (λ (s : Option WorldTerm). Answers result a b s slot' line) (sym e) h
