-- What a draft says of the answer to a text.
use Rattle.std.proofs.Common.{◌≡◌, ◌⊎◌, ◌↔◌, inl, inr, ℕ, ◌≤◌, Bool, true, false, ◌||◌, List, length, Contains, IsTrue, Err, refl, sym, ◌∙◌, ap, arith}
use Rattle.std.proofs.lemmas.List.Folds.{list_any-append}
use Rattle.std.specs.List.{list_any}
use Rattle.smarts_words.specs.Bracket.{AtomValue}
use Rattle.smarts_parse.specs.declared.fault.SmartsFault.{SmartsFault}
use Rattle.smarts_parse.specs.declared.fault.SmartsFault.TheVariants.{Reaction, Syntax, Stereo, RingSet, Ring, Limit, NoMemory}
use Rattle.smarts_parse.specs.declared.draft.Draft.{Draft}
use Rattle.smarts_parse.specs.declared.draft.Sizes.{Sizes}
use Rattle.smarts_parse.specs.declared.close.Closed.{Closed}
use Rattle.smarts_parse.specs.Pattern.{PatternTerm}
use Rattle.smarts_parse.specs.Sound.{IsSoundPattern}
use Rattle.smarts_parse.specs.Whole.{Whole, IsWholeOf, top_atoms, parts_atoms, all_atoms}
use Rattle.smarts_parse.specs.Meaning.{IsPatternOf}
use Rattle.smarts_parse.specs.Reading.{is_stereo, is_ring_set, HasStereo, HasRingSet, IsWithinLimits, IsRead, NoStereo, NoRingSet, NoRing, NoLimit, IsReading}
use Rattle.smarts_parse.specs.Draft.{IsDraftOf, AreClosed, IsOpenBy, any_atom}
use Rattle.smarts_parse.specs.Build.{IsBuildable}
use Rattle.smarts_parse.proofs.Closing.{any_read}
use Rattle.smarts_parse.proofs.Closed.{closed_pairs}
use Rattle.smarts_parse.proofs.Soundness.{sound_pattern}

-- the text was read
pub record Looked (text : List ℕ) (d : Draft) : Type 0 where
  pub whole : Whole
  pub read : IsRead text whole
  pub draft : IsDraftOf whole d

pub looked : (text : List ℕ) (d : Draft) → length text ≤ 4096 → ¬ Contains text 62
    → (whole : Whole) × IsWholeOf text whole × IsDraftOf whole d → Looked text d
looked text d short reaction f = record {
  whole = f.0;
  read = record
      { short = short; reaction = reaction; is = f.1 };
  draft = f.2;
}

abbrev pub Configured : AtomValue → Bool
Configured a = list_any is_stereo a.steps

abbrev pub Counted : AtomValue → Bool
Counted a = list_any is_ring_set a.steps

-- a mark of a configuration
abbrev pub HasMark : List ℕ → Draft → Type 0
HasMark text d = (any_atom Configured d ≡ true) ⊎ Contains text 47 ⊎ Contains text 92

-- what is within limits
abbrev pub AreWithin : Sizes → Type 0
AreWithin s = (s.atoms ≤ 256) × (s.parts ≤ 64) × (s.nesting ≤ 8) × (s.depth ≤ 256)

not_true : (b : Bool) → ¬ (b ≡ true) → b ≡ false
not_true true n = absurd (n refl)
not_true false n = refl

-- what a test that failed says
pub not_by : (r : Bool) (P : Type 0) → r ≡ false → (IsTrue r ↔ P) → ¬ P
not_by r P e h p = let k = h.1 p in absurd (cc)

module _ (text : List ℕ) (d : Draft) (l : Looked text d) where
  any_is : (P : AtomValue → Bool) → list_any P (all_atoms l.whole) ≡ any_atom P d
  any_is P =
      list_any-append P (top_atoms l.whole) (parts_atoms l.whole.parts)
      ∙ ap (λ v. list_any P v || list_any P (parts_atoms l.whole.parts)) (sym l.draft.top.atoms)
      ∙ ap (λ v. list_any P d.top.atoms.items || v)
      (any_read P l.draft.trees l.whole.parts d.parts.items l.draft.closing l.draft.parts)

  pub has_stereo : HasMark text d → HasStereo text l.whole
  has_stereo (inl e) = inl (any_is Configured ∙ e)
  has_stereo (inr h) = inr h

  pub no_stereo : ¬ HasMark text d → NoStereo text l.whole
  no_stereo n = (l.read, λ h. elim h [ inl e ↦ n (inl (sym (any_is Configured) ∙ e)) | inr k ↦ n (inr k) ])

  pub has_ring_set : any_atom Counted d ≡ true → HasRingSet l.whole
  has_ring_set e = any_is Counted ∙ e

  pub no_ring_set : ¬ HasMark text d → any_atom Counted d ≡ false → NoRingSet text l.whole
  no_ring_set n e = (no_stereo n, λ h. let k = any_is Counted in absurd (cc))

  -- the draft is not closed
  pub open_reading : ¬ HasMark text d → any_atom Counted d ≡ false → (e : SmartsFault) → IsOpenBy l.whole e
      → IsReading text (Err e)
  open_reading n f Ring h = (l.whole, no_ring_set n f, h)
  open_reading n f NoMemory h = tt
  open_reading n f Reaction h = absurd h
  open_reading n f Syntax h = absurd h
  open_reading n f Stereo h = absurd h
  open_reading n f RingSet h = absurd h
  open_reading n f Limit h = absurd h

  pub within : AreWithin d.sizes → IsWithinLimits l.whole
  within h = let a = l.draft.atoms in let p = l.draft.count in let n = l.draft.nesting in let k = l.draft.depth
      in record { atoms = omega arith; parts = omega arith; nesting = omega arith; depth = omega arith }

  pub within_only : IsWithinLimits l.whole → AreWithin d.sizes
  within_only h =
      let a = l.draft.atoms in
      let p = l.draft.count in
      let n = l.draft.nesting in
      let k = l.draft.depth in
      let i = h.atoms in
      let j = h.parts in
      let m = h.nesting in
      let o = h.depth in
      (omega arith, omega arith, omega arith, omega arith)

  -- the draft is closed
  module _ (closed : Closed) (c : (whole : Whole) → IsDraftOf whole d → AreClosed whole closed)
      (marks : ¬ HasMark text d) (ring_set : any_atom Counted d ≡ false) where
    pub no_ring : NoRing text l.whole
    no_ring = (no_ring_set marks ring_set, closed_pairs l.whole closed (c l.whole l.draft))

    pub no_limit : AreWithin d.sizes → NoLimit text l.whole
    no_limit h = (no_ring, within h)

    pub buildable : AreWithin d.sizes → IsBuildable l.whole closed
    buildable h =
        let w = within h in
        record {
          are = c l.whole l.draft;
          parts = l.read.is.parts;
          fit = record {
            plain = any_is Configured ∙ not_true (any_atom Configured d) (λ e. marks (inl e));
            few = w.atoms;
          };
          few = w.parts;
        }

  pub sound : AreWithin d.sizes → (p : PatternTerm) → IsPatternOf l.whole p → IsSoundPattern p
  sound h p is = sound_pattern text l.whole p l.read.is (within h) is
