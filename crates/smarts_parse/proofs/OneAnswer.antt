-- A text has one answer: the fault of the first test that it fails, or its pattern.
use Rattle.std.proofs.Common.{◌≡◌, ◌≢◌, ◌⊎◌, inl, inr, ℕ, ◌≤◌, List, length, Contains, Result, Ok, Err, refl, sym, ◌∙◌, ap, subst, arith}
use Rattle.smarts_parse.specs.declared.fault.SmartsFault.{SmartsFault}
use Rattle.smarts_parse.specs.declared.fault.SmartsFault.TheVariants.{Reaction, Syntax, Stereo, RingSet, Ring, Limit, NoMemory}
use Rattle.smarts_parse.specs.Pattern.{PatternTerm}
use Rattle.smarts_parse.specs.Whole.{Whole, IsWholeOf}
use Rattle.smarts_parse.specs.Meaning.{IsPatternOf}
use Rattle.smarts_parse.specs.Reading.{most_bytes, HasStereo, HasRingSet, DoRingsPair, IsWithinLimits, IsRead, NoStereo, NoRingSet, NoRing, NoLimit, IsReading}
use Rattle.smarts_parse.proofs.OneWhole.{one_whole}
use Rattle.smarts_parse.proofs.OnePattern.{one_pattern}

abbrev Answer : Type 0
Answer = Result PatternTerm SmartsFault

abbrev AreOne : (Answer → Type 0) → Type 0
AreOne A = (r s : Answer) → A r → A s → r ≡ s

-- one answer where a test fails, another where it does not
abbrev Choice : Type 0 → SmartsFault → (Answer → Type 0) → Answer → Type 0
Choice T fault B r = ((¬ T) × (r ≡ Err fault)) ⊎ (T × B r)

one_choice : (T : Type 0) (fault : SmartsFault) (B : Answer → Type 0) → AreOne B → AreOne (Choice T fault B)
one_choice T fault B one r s (inl h) (inl k) = h.1 ∙ sym k.1
one_choice T fault B one r s (inl h) (inr k) = absurd (h.0 k.0)
one_choice T fault B one r s (inr h) (inl k) = absurd (k.0 h.0)
one_choice T fault B one r s (inr h) (inr k) = one r s h.1 k.1

module _ (text : List ℕ) where
  -- what is so of the tree, where the text has one
  abbrev OfWhole : (Whole → Type 0) → Type 0
  OfWhole P = (whole : Whole) → IsWholeOf text whole → P whole

  of_whole : (P : Whole → Type 0) (v : Whole) → IsWholeOf text v → P v → OfWhole P
  of_whole P v is h w it = subst P (one_whole text v w is it) h

  record IsPattern (r : Answer) : Type 0 where
    whole : Whole
    is : IsWholeOf text whole
    pattern : PatternTerm
    means : IsPatternOf whole pattern
    answer : r ≡ Ok pattern

  one_meaning : AreOne IsPattern
  one_meaning r s h k =
      let P : Whole → Type 0 = λ w. IsPatternOf w k.pattern in
      let e = one_pattern h.whole h.pattern k.pattern h.means
      (subst P (one_whole text k.whole h.whole k.is h.is) k.means) in
      let F : PatternTerm → Answer = λ p. Ok p in
      h.answer ∙ ap F e ∙ sym k.answer

  -- the tests that are left, from the last to the first
  abbrev FromLimit : Answer → Type 0
  FromLimit = Choice (OfWhole IsWithinLimits) Limit IsPattern

  abbrev FromRing : Answer → Type 0
  FromRing = Choice (OfWhole DoRingsPair) Ring FromLimit

  abbrev FromRingSet : Answer → Type 0
  FromRingSet = Choice (OfWhole (λ w. ¬ HasRingSet w)) RingSet FromRing

  abbrev FromStereo : Answer → Type 0
  FromStereo = Choice (OfWhole (λ w. ¬ HasStereo text w)) Stereo FromRingSet

  abbrev FromSyntax : Answer → Type 0
  FromSyntax = Choice ((whole : Whole) × IsWholeOf text whole) Syntax FromStereo

  abbrev FromReaction : Answer → Type 0
  FromReaction = Choice (¬ Contains text 62) Reaction FromSyntax

  abbrev FromLength : Answer → Type 0
  FromLength = Choice (length text ≤ most_bytes) Limit FromReaction

  one_stereo : AreOne FromStereo
  one_stereo = one_choice _ Stereo FromRingSet
      (one_choice _ RingSet FromRing (one_choice _ Ring FromLimit
      (one_choice _ Limit IsPattern one_meaning)))

  one_length : AreOne FromLength
  one_length = one_choice _ Limit FromReaction (one_choice _ Reaction FromSyntax
      (one_choice _ Syntax FromStereo one_stereo))

  -- a text that passes the tests
  is_read : (r : Answer) (w : Whole) → IsRead text w → FromStereo r → FromLength r
  is_read r w h rest = inr (h.short, inr (h.reaction, inr ((w, h.is), rest)))

  no_stereo : (r : Answer) (w : Whole) → NoStereo text w → FromRingSet r → FromLength r
  no_stereo r w h rest = is_read r w h.0 (inr (of_whole (λ v. ¬ HasStereo text v) w h.0.is h.1, rest))

  no_ring_set : (r : Answer) (w : Whole) → NoRingSet text w → FromRing r → FromLength r
  no_ring_set r w h rest = no_stereo r w h.0 (inr (of_whole (λ v. ¬ HasRingSet v) w h.0.0.is h.1, rest))

  no_ring : (r : Answer) (w : Whole) → NoRing text w → FromLimit r → FromLength r
  no_ring r w h rest = no_ring_set r w h.0 (inr (of_whole DoRingsPair w h.0.0.0.is h.1, rest))

  no_limit : (r : Answer) (w : Whole) → NoLimit text w → IsPattern r → FromLength r
  no_limit r w h rest = no_ring r w h.0 (inr (of_whole IsWithinLimits w h.0.0.0.0.is h.1, rest))

  by_tests : (r : Answer) → IsReading text r → r ≢ Err NoMemory → FromLength r
  by_tests (Ok p) h n =
      let w = h.0 in
      no_limit (Ok p) w h.1
      (record { whole = w; is = h.1.0.0.0.0.is; pattern = p; means = h.2; answer = refl })
  by_tests (Err Reaction) h n = inr (h.0, inl (λ k. k h.1, refl))
  by_tests (Err Syntax) h n = inr (h.0, inr (h.1, inl (λ k. h.2 k.0 k.1, refl)))
  by_tests (Err Stereo) h n = is_read (Err Stereo) h.0 h.1 (inl (λ k. k h.0 h.1.is h.2, refl))
  by_tests (Err RingSet) h n = no_stereo (Err RingSet) h.0 h.1 (inl (λ k. k h.0 h.1.0.is h.2, refl))
  by_tests (Err Ring) h n = no_ring_set (Err Ring) h.0 h.1 (inl (λ k. h.2 (k h.0 h.1.0.0.is), refl))
  by_tests (Err Limit) (inl l) n = inl (λ k. absurd (omega arith), refl)
  by_tests (Err Limit) (inr h) n = no_ring (Err Limit) h.0 h.1 (inl (λ k. h.2 (k h.0 h.1.0.0.0.is), refl))
  by_tests (Err NoMemory) h n = absurd (n refl)

pub one_answer : (text : List ℕ) (r s : Answer) → IsReading text r → IsReading text s → r ≢ Err NoMemory
    → s ≢ Err NoMemory → r ≡ s
one_answer text r s h k n m = one_length text r s (by_tests text r h n) (by_tests text s k m)
