-- The neighbours of the atoms of a pattern, as they are gathered and written into rows.
use Rattle.std.proofs.Common.{ℕ, ◌+◌, ◌*◌, ◌<◌, ◌≤◌, ◌≡◌, ◌≢◌, ◌⊎◌, inl, inr, List, length, get_or, set, take, sym, ap, ◌∙◌, subst, arith}
use Rattle.std.specs.Prelude.{Some, All, IsPermutation}
use Rattle.std.specs.List.{slice_get}
use Rattle.std.proofs.lemmas.Bool.{cases_eq}
use Rattle.std.proofs.lemmas.List.{get_or-set_same, get_or-set_other, get_or-take, length-take-le, get_or_default}
use Rattle.std.proofs.lemmas.List.Sorted.{All-permutation, Contains-permutation}
use Rattle.std.proofs.lemmas.Option.{slice_get-get_or}
use Rattle.path_print.specs.Squares.{AreEnds, IsRow}

-- the neighbours of the atom x among the atoms below a place
pub record AreGathered (atoms : ℕ) (square : List ℕ) (x : ℕ) (ends : List (ℕ × ℕ)) (count to : ℕ) : Type 0 where
  pub few : count ≤ to
  pub within : (k : ℕ) → k < count → (get_or ends k (0, 0)).1 < atoms
  pub each : (y : ℕ) → y < to → get_or square (256 * x + y) 0 ≢ 0
      → (k : ℕ) × (k < count) × ((get_or ends k (0, 0)).1 ≡ y)

pub gathered_none : (atoms : ℕ) (square : List ℕ) (x : ℕ) (ends : List (ℕ × ℕ)) (count to : ℕ)
    → get_or square (256 * x + to) 0 ≡ 0 → AreGathered atoms square x ends count to
    → AreGathered atoms square x ends count (to + 1)
gathered_none atoms square x ends count to none g = record {
  few = let few = g.few in omega (arith, few);
  within = g.within;
  each = λ y lt above. elim (cases_eq y to) [
    | inl same ↦ absurd (above (ap (λ z. get_or square (256 * x + z) 0) same ∙ none))
    | inr other ↦ g.each y (omega (arith, lt, other)) above
  ];
}

pub gathered_more : (atoms : ℕ) (square : List ℕ) (x : ℕ) (ends : List (ℕ × ℕ)) (count to rank : ℕ)
    → count < length ends → to < atoms → AreGathered atoms square x ends count to
    → AreGathered atoms square x (set ends count (rank, to)) (count + 1) (to + 1)
gathered_more atoms square x ends count to rank room lt g =
    let end : ℕ × ℕ = (rank, to) in
    let none : ℕ × ℕ = (0, 0) in
    let here : get_or (set ends count end) count none ≡ end = get_or-set_same ends count end none room in
    record {
      few = let few = g.few in omega (arith, few);
      within = λ k below. elim (cases_eq k count) [
        | inl same ↦ subst (λ (e : ℕ × ℕ). e.1 < atoms)
            (sym (ap (λ j. get_or (set ends count end) j none) same ∙ here)) lt
        | inr other ↦ subst (λ (e : ℕ × ℕ). e.1 < atoms) (sym (get_or-set_other ends count k end none other))
            (g.within k (omega (arith, below, other)))
      ];
      each = λ y below above. elim (cases_eq y to) [
        | inl same ↦ (count, omega arith, ap (λ (e : ℕ × ℕ). e.1) here ∙ sym same)
        | inr other ↦
            let q = g.each y (omega (arith, below, other)) above in
            let apart : q.0 ≢ count = λ e. omega (arith, q.1, e) in (
              q.0,
              omega (arith, q.1),
              ap (λ (e : ℕ × ℕ). e.1) (get_or-set_other ends count q.0 end none apart) ∙ q.2,
            )
      ];
    }

pub gathered_ends : (atoms : ℕ) (square : List ℕ) (x : ℕ) (ends : List (ℕ × ℕ)) (count : ℕ) → count ≤ length ends
    → AreGathered atoms square x ends count atoms → AreEnds atoms square x (take count ends)
gathered_ends atoms square x ends count room g =
    let long : length (take count ends) ≡ count = length-take-le count ends room in
    record {
      within = λ k d lt.
          let below : k < count = omega (arith, long, lt) in
          let at : get_or (take count ends) k d ≡ get_or ends k (0, 0) = get_or-take count ends k d below
          ∙ get_or_default ends k d (0, 0) (omega arith) in
          subst (λ (e : ℕ × ℕ). e.1 < atoms) (sym at) (g.within k below);
      each = λ y lt above.
          let q = g.each y lt above in
          let rank : ℕ = (get_or ends q.0 (0, 0)).0 in
          let end : get_or ends q.0 (0, 0) ≡ (rank, y) = ap (λ z. (rank, z)) q.2 in
          let at : get_or (take count ends) q.0 (rank, y) ≡ (rank, y) = get_or-take count ends q.0 (rank, y) q.1
          ∙ get_or_default ends q.0 (rank, y) (0, 0) (omega (arith, q.1, room)) ∙ end in
          (rank, (q.0, omega (arith, long, q.1), at));
    }

-- a row is written from its neighbours, in any order
pub row_written : (atoms : ℕ) (square : List ℕ) (x : ℕ) (ends sorted : List (ℕ × ℕ)) (count : ℕ) (rows : List ℕ)
    → count ≤ 256 → count ≤ length ends → count ≤ length sorted → AreEnds atoms square x (take count ends)
    → IsPermutation (take count ends) (take count sorted)
    → ((k : ℕ) (end : ℕ × ℕ) → k < count → slice_get sorted k ≡ Some end → get_or rows (256 * x + k) 0 ≡ end.1)
    → IsRow atoms square rows x count
row_written atoms square x ends sorted count rows short room room' ok same written =
    let long : length (take count sorted) ≡ count = length-take-le count sorted room' in
    record {
      short = short;
      within = λ k lt.
          let end : ℕ × ℕ = get_or sorted k (0, 0) in
          let at = written k end lt (slice_get-get_or sorted k (0, 0) (omega arith)) in
          let read : get_or (take count sorted) k (0, 0) ≡ end = get_or-take count sorted k (0, 0) lt in
          let all : All (λ (e : ℕ × ℕ). e.1 < atoms) (take count sorted) = All-permutation (λ (e : ℕ × ℕ). e.1 < atoms)
          (take count ends) (take count sorted) same ok.within in
          subst (λ z. z < atoms) (sym at) (subst (λ (e : ℕ × ℕ). e.1 < atoms) read
          (all k (0, 0) (omega (arith, long, lt))));
      each = λ y lt above.
          let q = ok.each y lt above in
          let end : ℕ × ℕ = (q.0, y) in
          let c = Contains-permutation (take count ends) (take count sorted) end same q.1 in
          let below : c.0 < count = omega (arith, long, c.1) in
          let read : get_or sorted c.0 end ≡ end = sym (get_or-take count sorted c.0 end below) ∙ c.2 in (
            c.0,
            below,
            written c.0 end below (slice_get-get_or sorted c.0 end (omega (arith, below, room'))
                ∙ ap Some read),
          );
    }

-- one more row
pub rows_more : (atoms : ℕ) (square rows rows' counts : List ℕ) (atom count : ℕ)
    → ((x : ℕ) → x < atom → IsRow atoms square rows x (get_or counts x 0))
    → ((i : ℕ) → (i < 256 * atom) ⊎ (256 * atom + 256 ≤ i) → get_or rows' i 0 ≡ get_or rows i 0)
    → atom < length counts → IsRow atoms square rows' atom count
    → (x : ℕ) → x < atom + 1 → IsRow atoms square rows' x (get_or (set counts atom count) x 0)
rows_more atoms square rows rows' counts atom count before others room row x lt =
    elim (cases_eq x atom) [
      | inl same ↦
          let here : get_or (set counts atom count) x 0 ≡ count = ap (λ z. get_or (set counts atom count) z 0) same
          ∙ get_or-set_same counts atom count 0 room in
          subst (λ n. IsRow atoms square rows' x n) (sym here)
          (subst (λ z. IsRow atoms square rows' z count) (sym same) row)
      | inr other ↦
          let old = before x (omega (arith, lt, other)) in
          let n : ℕ = get_or counts x 0 in
          let kept : (k : ℕ) → k < n → get_or rows' (256 * x + k) 0 ≡ get_or rows (256 * x + k) 0 = λ k below.
          others (256 * x + k) (inl (let short = old.short in omega (arith, lt, other, short, below))) in
          subst (λ n. IsRow atoms square rows' x n) (sym (get_or-set_other counts atom x count 0 other)) (record {
            short = old.short;
            within = λ k below. subst (λ z. z < atoms) (sym (kept k below)) (old.within k below);
            each = λ y in_range above.
                let q = old.each y in_range above in
                (q.0, q.1, kept q.0 q.1 ∙ q.2);
          })
    ]

-- what is written so far of a row
pub written_more : (ends : List (ℕ × ℕ)) (rows : List ℕ) (start place value : ℕ) → start + place < length rows
    → ((k : ℕ) (end : ℕ × ℕ) → k < place → slice_get ends k ≡ Some end → get_or rows (start + k) 0 ≡ end.1)
    → ((end : ℕ × ℕ) → slice_get ends place ≡ Some end → value ≡ end.1)
    → (k : ℕ) (end : ℕ × ℕ) → k < place + 1 → slice_get ends k ≡ Some end
    → get_or (set rows (start + place) value) (start + k) 0 ≡ end.1
written_more ends rows start place value room before is k end lt at =
    elim (cases_eq k place) [
      | inl same ↦ ap (λ z. get_or (set rows (start + place) value) (start + z) 0) same
          ∙ get_or-set_same rows (start + place) value 0 room
          ∙ is end (ap (slice_get ends) (sym same) ∙ at)
      | inr other ↦
          let apart : start + k ≢ start + place = λ e. omega (arith, other, e) in
          get_or-set_other rows (start + place) (start + k) value 0 apart
          ∙ before k end (omega (arith, lt, other)) at
    ]
