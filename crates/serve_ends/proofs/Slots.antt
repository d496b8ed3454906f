-- Slots of a list, one more at a time.
use Rattle.std.proofs.Common.{◌≡◌, ◌+◌, ◌<◌, ◌++◌, ◌∙◌, ap, append_assoc, arith, get_or, inl, inr, length, length-append, List, [], ◌∷◌, map, refl, Some, subst, sym, ℕ}
use Rattle.std.proofs.Math.ListN.{get_or-append}
use Rattle.std.proofs.lemmas.Bool.{cases_lt}
use Rattle.std.proofs.lemmas.List.{get_or_push, map-append}
use Rattle.turn_gate.specs.Steps.{given_to, giving}
use Rattle.hall.specs.Passes.{IsOf, Merged, known}
use Rattle.hall.specs.declared.hall.Hall.{Hall}
use Rattle.hall.specs.declared.hall.HallPass.{HallPass}
use Rattle.serve_ends.specs.Slots.{IsCut, Joins, Sight, splits}
use Rattle.serve_ends.specs.declared.end.End.{End}
use Rattle.serve_ends.specs.declared.slot.Slot.{Slot}

-- an item taken from what was to come
pub rest-next : {X : Type 0} (done : List X) (x : X) (more rest all : List X) → done ++ rest ≡ all → rest ≡ x ∷ more
    → (done ++ x ∷ []) ++ more ≡ all
rest-next done x more rest all e f = append_assoc done (x ∷ []) more ∙ (ap (λ l. done ++ l) (sym f) ∙ e)

module _ {D : Type 0} where
  -- one number more was given
  splits-next : (n m : ℕ) (v : Sight D) → m ≡ n + 1 → giving (splits n v) ≡ splits m v
  splits-next n m v e = ap (λ (k : ℕ). record v { given = k }) (let h = e in omega (arith, h))

  pub gave-next : (n m : ℕ) (v a b : Sight D) → a ≡ splits n v → b ≡ giving a → m ≡ n + 1 → b ≡ splits m v
  gave-next n m v a b e f len = f ∙ (ap (λ (k : Sight D). giving k) e ∙ splits-next n m v len)

module _ {D S K : Type 0} where
  pub served-next : (slots : List (Slot D S K)) (slot : Slot D S K)
      → map (λ (s : Slot D S K). s.served) (slots ++ slot ∷ [])
      ≡ map (λ (s : Slot D S K). s.served) slots ++ slot.served ∷ []
  served-next slots slot = map-append (λ (s : Slot D S K). s.served) slots (slot ∷ [])

  pub ends-next : (slots items : List (Slot D S K)) (slot : Slot D S K) (done : List (End S K))
      → items ≡ slots ++ slot ∷ [] → map (λ (s : Slot D S K). s.served) slots ≡ done
      → map (λ (s : Slot D S K). s.served) items ≡ done ++ slot.served ∷ []
  ends-next slots items slot done e f =
      ap (map (λ (s : Slot D S K). s.served)) e
      ∙ (served-next slots slot ∙ ap (λ (l : List (End S K)). l ++ slot.served ∷ []) f)

  -- a slot more is cut
  cut-next : (hall : Hall D) (v : Sight D) (slots : List (Slot D S K)) (slot : Slot D S K)
      → ((i : ℕ) (d : Slot D S K) → i < length slots → IsCut hall v i (get_or slots i d))
      → IsCut hall v (length slots) slot
      → (i : ℕ) (d : Slot D S K) → i < length (slots ++ slot ∷ []) → IsCut hall v i (get_or (slots ++ slot ∷ []) i d)
  cut-next hall v slots slot old new i d less = elim (cases_lt i (length slots)) [
    | inl l ↦ subst (λ (s : Slot D S K). IsCut hall v i s) (sym (get_or-append slots (slot ∷ []) d i l)) (old i d l)
    | inr m ↦
        let is : length slots ≡ i = omega (arith, m, less, length-append slots (slot ∷ [])) in
        subst (λ (s : Slot D S K). IsCut hall v i s) (sym (get_or_push slots slot d i is))
        (subst (λ (k : ℕ). IsCut hall v k slot) is new)
  ]

  -- a slot with the pass that was split off last
  pub cut-more : (hall : Hall D) (v : Sight D) (slots items : List (Slot D S K)) (slot : Slot D S K) (q : HallPass D)
      (a : Sight D) → items ≡ slots ++ slot ∷ [] → slot.pass ≡ Some q → IsOf hall q → a ≡ splits (length slots) v
      → known q ≡ given_to a → ((i : ℕ) (d : Slot D S K) → i < length slots → IsCut hall v i (get_or slots i d))
      → (i : ℕ) (d : Slot D S K) → i < length items → IsCut hall v i (get_or items i d)
  cut-more hall v slots items slot q a e is of gave given old =
      let new : IsCut hall v (length slots) slot = record {
        pass = q;
        is = is;
        of = of;
        knows = given ∙ ap (λ (k : Sight D). given_to k) gave;
      } in
      subst (λ (l : List (Slot D S K)). (i : ℕ) (d : Slot D S K) → i < length l → IsCut hall v i (get_or l i d)) (sym e)
      (cut-next hall v slots slot old new)

  -- a pass more is joined
  pub joins-next : (hall : Hall D) (slots : List (Slot D S K)) (slot : Slot D S K) (p r o q : HallPass D)
      → Joins hall slots p r → slot.pass ≡ Some o → IsOf hall r → IsOf hall q → Merged r o q
      → Joins hall (slots ++ slot ∷ []) p q
  joins-next hall [] slot p r o q all is of-r of-q m = (
    o,
    q,
    is,
    subst (IsOf hall) all of-r,
    of-q,
    subst (λ (k : HallPass D). Merged k o q) all m,
    refl,
  )
  joins-next hall (s ∷ ss) slot p r o q all is of-r of-q m = (
    all.0,
    all.1,
    all.2,
    all.3,
    all.4,
    all.5,
    joins-next hall ss slot all.1 r o q all.6 is of-r of-q m,
  )
