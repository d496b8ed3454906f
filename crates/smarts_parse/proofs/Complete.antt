-- A text that passes every test has a pattern, but for want of memory.
use Rattle.std.proofs.Common.{◌≡◌, ◌⊎◌, inl, inr, ℕ, List, Result, Ok, Err, refl, subst, arith}
use Rattle.smarts_parse.specs.declared.fault.SmartsFault.{SmartsFault}
use Rattle.smarts_parse.specs.declared.fault.SmartsFault.TheVariants.{Reaction, Syntax, Stereo, RingSet, Ring, Limit, NoMemory}
use Rattle.smarts_parse.specs.Pattern.{PatternTerm}
use Rattle.smarts_parse.specs.Whole.{Whole}
use Rattle.smarts_parse.specs.Reading.{HasStereo, HasRingSet, DoRingsPair, IsWithinLimits, NoLimit, IsReading}
use Rattle.smarts_parse.proofs.OneWhole.{one_whole}

pub complete : (text : List ℕ) (whole : Whole) (r : Result PatternTerm SmartsFault) → NoLimit text whole
    → IsReading text r → (r ≡ Err NoMemory) ⊎ ((p : PatternTerm) × (r ≡ Ok p))
complete text whole (Ok p) h k = inr (p, refl)
complete text whole (Err Reaction) h k = absurd (h.0.0.0.0.reaction k.1)
complete text whole (Err Syntax) h k = absurd (k.2 whole h.0.0.0.0.is)
complete text whole (Err Stereo) h k =
    let P : Whole → Type 0 = λ w. HasStereo text w in
    absurd (h.0.0.0.1 (subst P (one_whole text k.0 whole k.1.is h.0.0.0.0.is) k.2))
complete text whole (Err RingSet) h k =
    let P : Whole → Type 0 = λ w. HasRingSet w in
    absurd (h.0.0.1 (subst P (one_whole text k.0 whole k.1.0.is h.0.0.0.0.is) k.2))
complete text whole (Err Ring) h k =
    let P : Whole → Type 0 = λ w. DoRingsPair w in
    absurd (k.2 (subst P (one_whole text whole k.0 h.0.0.0.0.is k.1.0.0.is) h.0.1))
complete text whole (Err Limit) h (inl l) = let s = h.0.0.0.0.short in absurd (omega arith)
complete text whole (Err Limit) h (inr k) =
    let P : Whole → Type 0 = λ w. IsWithinLimits w in
    absurd (k.2 (subst P (one_whole text whole k.0 h.0.0.0.0.is k.1.0.0.0.is) h.1))
complete text whole (Err NoMemory) h k = inl refl
