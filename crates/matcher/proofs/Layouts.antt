-- The steps of a pattern's graphs, one behind the other.
use Rattle.std.proofs.Common.{◌≡◌, ℕ, ◌+◌, ◌<◌, ◌≤◌, List, length, map, drop, take, get_or, set, slice_get, slice_index, Some, sum_by, sym, ap, ◌∙◌, subst, arith, inl, inr}
use Rattle.std.proofs.lemmas.Bool.{cases_eq}
use Rattle.std.proofs.lemmas.List.{drop-take, get_or-set_other, get_or-set_same, length-map, take-take}
use Rattle.std.proofs.lemmas.List.Sums.{sum_by_more, sum_by_more_le}
use Rattle.std.proofs.lemmas.Option.{get_or_from_slice_get, same_Some, slice_get_within}
use Rattle.smarts_parse.specs.declared.pattern.Graph.{Graph}
use Rattle.smarts_parse.specs.Pattern.{GraphTerm, PatternTerm, graph_of}
use Rattle.smarts_parse.specs.Sound.{IsSoundPattern}
use Rattle.matcher.specs.declared.plan.EarlierBonds.{EarlierBonds}
use Rattle.matcher.specs.Plan.{ArePartsPlanned, IsReady, StandsAt}
use Rattle.matcher.proofs.Places.{get_map}

-- how many atoms a graph has
abbrev pub size : GraphTerm → ℕ
size g = length g.atoms

-- the steps of the top graph and of the first n parts stand in turn, up to an end
pub record AreLaid (p : PatternTerm) (n end : ℕ) (steps : List EarlierBonds) (begins : List ℕ) : Type 0 where
  pub sum : end ≡ size p.top + sum_by size (take n p.recs)
  pub top : StandsAt p.top steps 0
  pub parts : (k : ℕ) (g : GraphTerm) → k < n → slice_get p.recs k ≡ Some g
      → (slice_index begins k + size g ≤ end) × StandsAt g steps (slice_index begins k)

-- they stand there where what is written begins behind them
pub stands_kept : (g : GraphTerm) (old new : List EarlierBonds) (begin end : ℕ) → length new ≡ length old
    → take end new ≡ take end old → begin + size g ≤ end → StandsAt g old begin → StandsAt g new begin
stands_kept g old new begin end long same behind stands =
    let front : take (begin + size g) new ≡ take (begin + size g) old = sym (take-take (begin + size g) end new behind)
    ∙ ap (take (begin + size g)) same ∙ take-take (begin + size g) end old behind in
    let here : take (size g) (drop begin new) ≡ take (size g) (drop begin old) = sym (drop-take begin (size g) new)
    ∙ ap (drop begin) front ∙ drop-take begin (size g) old in
    let fits = stands.fits in
    record { fits = omega arith; ready = subst (IsReady g) (sym here) stands.ready }

-- there is room for one part more
pub room_more : (p : PatternTerm) (n end : ℕ) (g : GraphTerm) (steps : List EarlierBonds) (begins : List ℕ) → IsSoundPattern p
    → slice_get p.recs n ≡ Some g → AreLaid p n end steps begins → end + size g ≤ 256
room_more p n end g steps begins sound get laid =
    let less = sum_by_more_le size p.recs n g (slice_get_within p.recs n g get) in
    let is : size (get_or p.recs n g) ≡ size g = ap size (get_or_from_slice_get p.recs n g g get) in
    let sum = laid.sum in
    let few = sound.few_atoms in
    omega arith

-- one part more
pub laid_more : (p : PatternTerm) (n end : ℕ) (g : GraphTerm) (old new : List EarlierBonds) (begins : List ℕ)
    → slice_get p.recs n ≡ Some g → n < length begins → AreLaid p n end old begins → length new ≡ length old
    → take end new ≡ take end old → StandsAt g new end → AreLaid p (n + 1) (end + size g) new (set begins n end)
laid_more p n end g old new begins get room laid long same stands = record {
  sum =
      let more = sum_by_more size p.recs n g (slice_get_within p.recs n g get) in
      let is : size (get_or p.recs n g) ≡ size g = ap size (get_or_from_slice_get p.recs n g g get) in
      let sum = laid.sum in
      omega arith;
  top = let sum = laid.sum in stands_kept p.top old new 0 end long same (omega arith) laid.top;
  parts = λ k h l at. elim (cases_eq k n) [
    | inl e ↦
        let is : g ≡ h = same_Some g h (sym get ∙ ap (slice_get p.recs) (sym e) ∙ at) in
        let begin : slice_index (set begins n end) k ≡ end = ap (slice_index (set begins n end)) e
        ∙ get_or-set_same begins n end 0 room in
        let size' : size g ≡ size h = ap size is in
        (omega arith, subst (StandsAt h new) (sym begin) (subst (λ x. StandsAt x new end) is stands))
    | inr apart ↦
        let begin : slice_index (set begins n end) k ≡ slice_index begins k = get_or-set_other begins n k end 0 apart in
        let before = laid.parts k h (omega arith) at in
        let fits = before.0 in (
          omega arith,
          subst (StandsAt h new) (sym begin) (stands_kept h old new (slice_index begins k) end long same fits before.1),
        )
  ];
}

-- the steps of a part stand where it begins
pub part_stands : (items : List Graph) (steps : List EarlierBonds) (begins : List ℕ) (k begin : ℕ) (graph : Graph)
    → ArePartsPlanned (map graph_of items) (length (map graph_of items)) steps begins → k < length items
    → graph ≡ get_or items k graph → begin ≡ slice_index begins k → StandsAt (graph_of graph) steps begin
part_stands items steps begins k begin graph planned within is at = subst (StandsAt (graph_of graph) steps) (sym at)
    (planned k (graph_of graph) (omega (arith, length-map items graph_of)) (get_map graph_of items k graph within is))

-- they stand in lists that are the same
pub planned_alike : (recs : List GraphTerm) (n : ℕ) (steps steps' : List EarlierBonds) (begins begins' : List ℕ)
    → steps' ≡ steps → begins' ≡ begins → ArePartsPlanned recs n steps begins → ArePartsPlanned recs n steps' begins'
planned_alike recs n steps steps' begins begins' e f h k g l at = subst (λ s. StandsAt g s (slice_index begins' k))
    (sym e) (subst (λ b. StandsAt g steps (slice_index b k)) (sym f) (h k g l at))
