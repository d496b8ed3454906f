-- Lists one after another: one more, and one of them read back.
use Rattle.std.proofs.Common.{ℕ, suc, zero, ◌+◌, ◌-◌, ◌++◌, ◌<◌, ◌≤◌, ◌≡◌, List, [], ◌∷◌, drop, get_or, inl, inr, length, refl, slice_range, subst, sym, take, ap, ◌∙◌, arith}
use Rattle.std.proofs.lemmas.Bool.{cases_lt}
use Rattle.std.proofs.lemmas.List.{drop-append-le, get_or_default, get_or_past, length-append, length-drop, take-append-le, take_all}
use Rattle.std.proofs.Math.Seq.{drop-append_seam}
use Rattle.chem_core.specs.Graph.{AreNeighbours, Ends, degree}
use Rattle.chem_core.specs.Inside.{AreInTurn, AreNeighboursInTurn, end_of}

-- what stands behind the last is the new one, up to then the default
get_or-more : {Y : Type 0} (xs : List Y) (x d : Y) (k : ℕ) → k ≤ length xs → get_or (xs ++ x ∷ []) k d ≡ get_or xs k x
get_or-more [] x d zero h = refl
get_or-more [] x d (suc k) h = absurd (omega arith)
get_or-more (y ∷ xs) x d zero h = refl
get_or-more (y ∷ xs) x d (suc k) h = get_or-more xs x d k (omega arith)

module _ {X : Type 0} where
  -- what stands before an end is not touched by what comes behind it
  range-before : (items more : List X) (i j : ℕ) → i ≤ j → j ≤ length items
      → slice_range (items ++ more) i j ≡ slice_range items i j
  range-before items more i j order within =
      let start : i ≤ length items = omega (arith, order, within) in
      let few : j - i ≤ length (drop i items) = rw length-drop (omega (arith, order, within)) in
      ap (take (j - i)) (drop-append-le i items more start) ∙ take-append-le (j - i) (drop i items) more few

  range-behind : (items more : List X) → slice_range (items ++ more) (length items) (length items + length more) ≡ more
  range-behind items more =
      let count : length items + length more - length items ≡ length more = omega arith in
      ap (λ l. take (length items + length more - length items) l) (drop-append_seam items more)
      ∙ (ap (λ n. take n more) count ∙ take_all (length more) more (omega arith))

  -- one list more
  pub turn-more : (lists : List (List X)) (more : List X) (items : List X) (starts : List ℕ)
      → AreInTurn lists items starts
      → AreInTurn (lists ++ more ∷ []) (items ++ more) (starts ++ length items ∷ [])
  turn-more lists more items starts turn =
      let n : ℕ = length lists in
      let long : length starts ≡ n = turn.count in
      let size = length-append items more in
      let end : ℕ = length (items ++ more) in
      record {
        count = omega (arith, long, length-append starts (length items ∷ []), length-append lists (more ∷ []));
        each = λ k within. elim (cases_lt k n) [
          | inl less ↦
              let here = turn.each k less in
              let from : get_or (starts ++ length items ∷ []) k 0 ≡ get_or starts k 0 =
              get_or-more starts (length items) 0 k (omega (arith, less, long))
              ∙ get_or_default starts k (length items) 0 (omega (arith, less, long)) in
              let to : get_or (starts ++ length items ∷ []) (k + 1) end ≡ end_of items starts k =
              get_or-more starts (length items) end (k + 1) (omega (arith, less, long)) in
              let same : get_or (lists ++ more ∷ []) k [] ≡ get_or lists k [] =
              get_or-more lists more [] k (omega (arith, less)) ∙ get_or_default lists k more [] less in
              rw (from, to, same) (
                here.0,
                omega (arith, here.1, size),
                range-before items more (get_or starts k 0) (end_of items starts k) here.0 here.1 ∙ here.2,
              )
          | inr past ↦
              let is_last : k ≡ n = omega (arith, past, within, length-append lists (more ∷ [])) in
              let from : get_or (starts ++ length items ∷ []) n 0 ≡ length items =
              get_or-more starts (length items) 0 n (omega (arith, long))
              ∙ get_or_past starts n (length items) (omega (arith, long)) in
              let to : get_or (starts ++ length items ∷ []) (n + 1) end ≡ length items + length more =
              get_or_past (starts ++ length items ∷ []) (n + 1) end
              (omega (arith, long, length-append starts (length items ∷ []))) ∙ size in
              let there : get_or (lists ++ more ∷ []) n [] ≡ more =
              get_or-more lists more [] n (omega arith) ∙ get_or_past lists n more (omega arith) in
              rw (is_last, from, to, there) (
                omega arith,
                omega (arith, size),
                range-behind items more,
              )
        ];
      }

-- one atom more, with its neighbours
pub turn-neighbours : (ends : Ends) (a : ℕ) (items items' added : List (ℕ × ℕ)) (starts starts' : List ℕ)
    → AreNeighboursInTurn ends a items starts → AreNeighbours ends a added → length added ≡ degree ends a
    → items' ≡ items ++ added → starts' ≡ starts ++ length items ∷ []
    → AreNeighboursInTurn ends (a + 1) items' starts'
turn-neighbours ends a items items' added starts starts' before are count grown said =
    let many : length before.lists ≡ a = before.neighbours.count in
    rw (grown, said) (record {
      lists = before.lists ++ added ∷ [];
      neighbours = record {
        count = omega (arith, many, length-append before.lists (added ∷ []));
        each = λ k within. (each k within).0;
      };
      counts = λ k within. (each k within).1;
      turn = turn-more before.lists added items starts before.turn;
    })
  where
    each : (k : ℕ) → k < a + 1 → AreNeighbours ends k (get_or (before.lists ++ added ∷ []) k [])
        × (length (get_or (before.lists ++ added ∷ []) k []) ≡ degree ends k)
    each k within =
        let many : length before.lists ≡ a = before.neighbours.count in
        elim (cases_lt k a) [
          | inl less ↦
              let inside : k < length before.lists = omega arith in
              let same : get_or (before.lists ++ added ∷ []) k [] ≡ get_or before.lists k [] =
              get_or-more before.lists added [] k (omega arith) ∙ get_or_default before.lists k added [] inside in
              rw same (before.neighbours.each k less, before.counts k less)
          | inr past ↦
              let is : k ≡ a = omega arith in
              let there : get_or (before.lists ++ added ∷ []) k [] ≡ added =
              get_or-more before.lists added [] k (omega arith) ∙ get_or_past before.lists k added (omega arith) in
              rw there (subst (λ x. AreNeighbours ends x added × (length added ≡ degree ends x)) (sym is) (are, count))
        ]

-- the neighbours of an atom, between its start and its end
pub list-at : (ends : Ends) (n : ℕ) (items : List (ℕ × ℕ)) (starts : List ℕ) → AreNeighboursInTurn ends n items starts
    → (a from to : ℕ) → a < n → from ≡ get_or starts a 0 → to ≡ end_of items starts a
    → AreNeighbours ends a (slice_range items from to) × (length (slice_range items from to) ≡ degree ends a)
list-at ends n items starts h a from to within start end =
    let there : a < length h.lists = omega (arith, within, h.neighbours.count) in
    rw (start, end, (h.turn.each a there).2) (h.neighbours.each a within, h.counts a within)
