-- Simple graphs bond after bond, for the examples that are tested.
use Rattle.std.proofs.Common.{ℕ, suc, zero, ◌+◌, ◌<◌, ◌≡◌, ◌≢◌, ◌⊎◌, ◌==◌, ◌||◌, inl, inr, Some, List, [], ◌∷◌, ◌++◌, length, get_or, refl, sym, ap, ◌∙◌, arith}
use Rattle.std.specs.List.{slice_get}
use Rattle.std.proofs.lemmas.Option.{none-some, same_Some, slice_get_within, get_or_from_slice_get}
use Rattle.std.proofs.lemmas.List.{length_push, get_or-map, length-map, map_push}
use Rattle.std.proofs.lemmas.List.Elements.{All-push}
use Rattle.std.proofs.lemmas.List.Sums.{count_by-le-length}
use Rattle.chem_core.specs.declared.sketch.SketchBond.{SketchBond}
use Rattle.chem_core.specs.declared.sketch.SketchKind.TheVariants.{Unwritten}
use Rattle.chem_core.specs.Graph.{Ends, JoinsAt, IsSimpleGraph}
use Rattle.chem_core.specs.Sound.{ends_among}

slice_get-push_cases : {X : Type 0} (xs : List X) (y : X) (i : ℕ) (v : X) → slice_get (xs ++ y ∷ []) i ≡ Some v
    → (slice_get xs i ≡ Some v) ⊎ ((i ≡ length xs) × (y ≡ v))
slice_get-push_cases [] y zero v h = inr (refl, same_Some y v h)
slice_get-push_cases [] y (suc i) v h = absurd (none-some v h)
slice_get-push_cases (x ∷ xs) y zero v h = inl h
slice_get-push_cases (x ∷ xs) y (suc i) v h =
    elim (slice_get-push_cases xs y i v h) [ inl q ↦ inl q | inr q ↦ inr (ap suc q.0, q.1) ]

JoinsAt-push_cases : (ends : Ends) (e : ℕ × ℕ) (b x y : ℕ) → JoinsAt (ends ++ e ∷ []) b x y → JoinsAt ends b x y
    ⊎ ((b ≡ length ends) × ((e ≡ (x, y)) ⊎ (e ≡ (y, x))))
JoinsAt-push_cases ends e b x y h =
    elim h [
      | inl q ↦ elim (slice_get-push_cases ends e b _ q) [ inl r ↦ inl (inl r) | inr r ↦ inr (r.0, inl r.1) ]
      | inr q ↦ elim (slice_get-push_cases ends e b _ q) [ inl r ↦ inl (inr r) | inr r ↦ inr (r.0, inr r.1) ]
    ]

-- the bond that came joins no atoms that were joined before
new_bond : (ends : Ends) (e : ℕ × ℕ) (b x y : ℕ) → ((c : ℕ) → JoinsAt ends c e.0 e.1 → ⊥) → JoinsAt ends b x y
    → ((e ≡ (x, y)) ⊎ (e ≡ (y, x))) → ⊥
new_bond ends e b x y fresh j is =
    elim is [
      | inl q ↦ fresh b (rw q j)
      | inr q ↦ fresh b (rw q (elim j [ inl r ↦ inr r | inr r ↦ inl r ]))
    ]

simple_more : (n : ℕ) (ends : Ends) (e : ℕ × ℕ) → IsSimpleGraph n ends → length ends < 12 → e.0 < n → e.1 < n
    → e.0 ≢ e.1 → ((c : ℕ) → JoinsAt ends c e.0 e.1 → ⊥) → IsSimpleGraph n (ends ++ e ∷ [])
simple_more n ends e h few in0 in1 apart fresh =
    let long : length (ends ++ e ∷ []) ≡ length ends + 1 = length_push ends e in
    record {
      few_atoms = h.few_atoms;
      few_bonds = omega arith;
      few_neighbours = λ a. let most = count_by-le-length (λ (p : ℕ × ℕ). (p.0 == a) || (p.1 == a)) (ends ++ e ∷ []) in
          omega arith;
      in_range = All-push (λ p. (p.0 < n) × (p.1 < n)) ends e h.in_range (in0, in1);
      distinct = All-push (λ p. p.0 ≢ p.1) ends e h.distinct apart;
      once = λ b c x y f g. elim (JoinsAt-push_cases ends e b x y f) [
        | inl p ↦ elim (JoinsAt-push_cases ends e c x y g) [
          | inl q ↦ h.once b c x y p q
          | inr q ↦ absurd (new_bond ends e b x y fresh p q.1)
        ]
        | inr p ↦ elim (JoinsAt-push_cases ends e c x y g) [
          | inl q ↦ absurd (new_bond ends e c x y fresh q p.1)
          | inr q ↦ p.0 ∙ sym q.0
        ]
      ];
    }

pub drawn_more : (n : ℕ) (bonds : List SketchBond) (bond : SketchBond) → IsSimpleGraph n (ends_among bonds)
    → length bonds < 12 → bond.a < n → bond.b < n → bond.a ≢ bond.b
    → ((c : ℕ) → JoinsAt (ends_among bonds) c bond.a bond.b → ⊥) → IsSimpleGraph n (ends_among (bonds ++ bond ∷ []))
drawn_more n bonds bond h few in0 in1 apart fresh =
    let f : SketchBond → ℕ × ℕ = λ b. (b.a, b.b) in
    let long = length-map bonds f in
    rw (map_push f bonds bond) (simple_more n (ends_among bonds) (bond.a, bond.b) h (omega arith) in0 in1 apart fresh)

-- no bond joins the atoms, if none of those that were looked at does
pub none_joins : (bonds : List SketchBond) (a b : ℕ) → ((k : ℕ) (d : SketchBond) → k < length bonds
    → ((get_or bonds k d).a ≡ a → (get_or bonds k d).b ≡ b → ⊥) × ((get_or bonds k d).a ≡ b → (get_or bonds k d).b ≡ a
    → ⊥)) → (c : ℕ) → JoinsAt (ends_among bonds) c a b → ⊥
none_joins bonds a b none c j =
    let f : SketchBond → ℕ × ℕ = λ b. (b.a, b.b) in
    let d : SketchBond = record { a = 0; b = 0; kind = Unwritten } in
    let within : c < length (ends_among bonds) = elim j [
      | inl q ↦ slice_get_within (ends_among bonds) c _ q
      | inr q ↦
          slice_get_within (ends_among bonds) c _ q
    ] in
    let within' : c < length bonds = omega (arith, length-map bonds f) in
    let read : get_or (ends_among bonds) c (0, 0) ≡ f (get_or bonds c d) = get_or-map f bonds c d (0, 0) within' in
    elim j [
      | inl q ↦
          let e = sym read ∙ get_or_from_slice_get (ends_among bonds) c (a, b) (0, 0) q in
          (none c d within').0 (ap (λ p. p.0) e) (ap (λ p. p.1) e)
      | inr q ↦
          let e = sym read ∙ get_or_from_slice_get (ends_among bonds) c (b, a) (0, 0) q in
          (none c d within').1 (ap (λ p. p.0) e) (ap (λ p. p.1) e)
    ]
