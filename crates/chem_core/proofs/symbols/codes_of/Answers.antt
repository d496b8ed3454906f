use Rattle.std.proofs.Common.{◌<◌, ◌≤◌, ◌∙◌, ℕ, inl, inr, length, sym, ap, arith}
use Rattle.std.proofs.lemmas.Bool.{cases_eq, cases_lt}
use Rattle.std.proofs.lemmas.List.{get_or-replicate, get_or-set_other, get_or-set_same, length-replicate, length-set}
use Rattle.std.proofs.lemmas.Option.{slice_get_past}
use Rattle.chem_core.specs.Inside.{code_in}
use Rattle.chem_core.proofs.Codes.{code-there}
use Rattle.chem_core.proofs.symbols.codes_of.Goals as goal

pub loop-place-init : goal.loop-place-init
loop-place-init c = record {
  long = length-replicate {A = ℕ} 64 255;
  before = λ k h. absurd (omega arith);
  behind = λ k _ low. get_or-replicate 64 k 255 0 low;
}

pub loop-place-preserved : goal.loop-place-preserved
loop-place-preserved c =
    let i = c.loop-place.place in
    let codes = c.loop-place.codes in
    let known = c.loop-place.invariant in
    let within : i < length c.args.atoms.now = omega arith in
    let room : i < length codes = omega arith in
    record {
      long = rw length-set known.long;
      before = λ k h. elim (cases_eq k i) [
        | inl here ↦ rw (here, get_or-set_same codes i _ 0 room)
            (c.code.ensures ∙ sym (code-there c.args.atoms.now i _ within))
        | inr other ↦ get_or-set_other codes i k _ 0 other ∙ known.before k (omega arith)
      ];
      behind = λ k h low. get_or-set_other codes i k _ 0 (λ here. omega arith) ∙ known.behind k (omega arith) low;
    }

pub returns : goal.returns
returns c i low =
    elim (cases_lt i c.loop-place.place) [
      | inl before ↦ c.loop-place.invariant.before i before
      | inr behind ↦
          let past : length c.args.atoms.now ≤ i = omega arith in
          c.loop-place.invariant.behind i behind low ∙ sym (ap code_in (slice_get_past c.args.atoms.now i past))
    ]
