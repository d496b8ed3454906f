-- Marks of bonds and of their ends, one bond after another.
use Rattle.std.proofs.Common.{ℕ, ◌+◌, ◌<◌, ◌≡◌, ◌⊎◌, ◌↔◌, inl, inr, Bool, true, false, List, length, map, get_or, set, Some, slice_get, option_map, sym, ap, ◌∙◌, arith}
use Rattle.std.proofs.lemmas.List.{get_or-set_same, get_or-set_other, length-set, get_or-map}
use Rattle.std.proofs.lemmas.Option.{same_Some, slice_get-map, slice_get-get_or}
use Rattle.std.proofs.lemmas.Bool.{cases_lt, cases_eq, false≢true}
use Rattle.chem_core.specs.declared.sketch.SketchBond.{SketchBond}
use Rattle.chem_core.specs.Graph.{Ends}
use Rattle.aromatic.specs.declared.links.Link.{Link}
use Rattle.chem_core.specs.Sound.{ends_among}
use Rattle.aromatic.specs.Route.{IsMarkedEnd}

pub ends_at_place : (bonds : List SketchBond) (k : ℕ) (d : SketchBond) → k < length bonds
    → slice_get (ends_among bonds) k ≡ Some ((get_or bonds k d).a, (get_or bonds k d).b)
ends_at_place bonds k d within = slice_get-map (λ b. (b.a, b.b)) bonds k ∙ ap (λ o. option_map (λ b. (b.a, b.b)) o)
    (slice_get-get_or bonds k d within)

-- a bond that is not marked ends at no atom more
pub ends-same : (ends : Ends) (marks : List Bool) (flags : List Bool) (k : ℕ) → get_or marks k false ≡ false
    → ((a : ℕ) → (get_or flags a false ≡ true) ↔ IsMarkedEnd ends marks k a) → (a : ℕ) → (get_or flags a false ≡ true)
    ↔ IsMarkedEnd ends marks (k + 1) a
ends-same ends marks flags k unmarked old a = (
  λ h. let q = (old a).0 h in let lt : q.0 < k = q.2 in (q.0, q.1, omega arith, q.3, q.4),
  λ q. (old a).1 (elim (cases_lt q.0 k) [
    | inl l ↦ (q.0, q.1, l, q.3, q.4)
    | inr l ↦
        let lt : q.0 < k + 1 = q.2 in
        let e : q.0 ≡ k = omega arith in
        absurd (false≢true (sym unmarked ∙ ap (λ m. get_or marks m false) (sym e) ∙ q.4))
  ]),
)

two_set : (flags : List Bool) (x y a : ℕ) → x < length flags → y < length flags
    → (get_or (set (set flags x true) y true) a false ≡ true) ↔ ((get_or flags a false ≡ true) ⊎ ((a ≡ x) ⊎ (a ≡ y)))
two_set flags x y a hx hy = elim (cases_eq a y) [
  | inl e ↦
      let there : y < length (set flags x true) = omega (arith, length-set flags x true) in
      (λ _. inr (inr e), λ _. rw e (get_or-set_same (set flags x true) y true false there))
  | inr ny ↦ rw (get_or-set_other (set flags x true) y a true false ny) (elim (cases_eq a x) [
    | inl e ↦ (λ _. inr (inl e), λ _. rw e (get_or-set_same flags x true false hx))
    | inr nx ↦ rw (get_or-set_other flags x a true false nx) (
      λ h. inl h,
      λ h. elim h [
        | inl q ↦ q
        | inr q ↦ elim q [ inl e ↦ absurd (nx e) | inr e ↦ absurd (ny e) ]
      ],
    )
  ])
]

-- a marked bond ends at its two ends
pub ends-more : (ends : Ends) (marks : List Bool) (flags : List Bool) (k x y : ℕ) → slice_get ends k ≡ Some (x, y)
    → get_or marks k false ≡ true → x < length flags → y < length flags
    → ((a : ℕ) → (get_or flags a false ≡ true) ↔ IsMarkedEnd ends marks k a) → (a : ℕ)
    → (get_or (set (set flags x true) y true) a false ≡ true) ↔ IsMarkedEnd ends marks (k + 1) a
ends-more ends marks flags k x y here marked hx hy old a =
    let two = two_set flags x y a hx hy in (
      λ h. elim (two.0 h) [
        | inl q ↦ let p = (old a).0 q in let lt : p.0 < k = p.2 in (p.0, p.1, omega arith, p.3, p.4)
        | inr q ↦ elim q [
          | inl e ↦ (k, y, omega arith, inl (rw e here), marked)
          | inr e ↦ (k, x, omega arith, inr (rw e here), marked)
        ]
      ],
      λ q. two.1 (elim (cases_lt q.0 k) [
        | inl l ↦ inl ((old a).1 (q.0, q.1, l, q.3, q.4))
        | inr l ↦
            let lt : q.0 < k + 1 = q.2 in
            let e : q.0 ≡ k = omega arith in
            inr (elim (q.3) [
              | inl j ↦
                  let p : ◌≡◌ {A = ℕ × ℕ} (a, q.1) (x, y) = same_Some _ _ (sym j ∙ ap (λ m. slice_get ends m) e
                  ∙ here) in
                  inl (ap (λ u. u.0) p)
              | inr j ↦
                  let p : ◌≡◌ {A = ℕ × ℕ} (q.1, a) (x, y) = same_Some _ _ (sym j ∙ ap (λ m. slice_get ends m) e
                  ∙ here) in
                  inr (ap (λ u. u.1) p)
            ])
      ]),
    )

-- ---- marks of the bonds of a path, one link after another

-- a link of the path below place k follows the bond
abbrev pub Follows : List Link → ℕ → ℕ → Type 0
Follows path k b = (j : ℕ) × (j < k) × (get_or (map (λ l. l.bond) path) j b ≡ b)

pub follow-more : (path : List Link) (before now : List Bool) (k : ℕ) (d : Link) → k < length path
    → (get_or path k d).bond < length now
    → ((b : ℕ) → (get_or now b false ≡ true) ↔ ((get_or before b false ≡ true) ⊎ Follows path k b)) → (b : ℕ)
    → (get_or (set now (get_or path k d).bond true) b false ≡ true)
    ↔ ((get_or before b false ≡ true) ⊎ Follows path (k + 1) b)
follow-more path before now k d within range h b =
    let c : ℕ = (get_or path k d).bond in
    let bond_at : get_or (map (λ l. l.bond) path) k b ≡ c = get_or-map (λ l. l.bond) path k d b within in
    let on : Follows path k b → Follows path (k + 1) b = λ q. let lt : q.0 < k = q.1 in (q.0, omega arith, q.2) in
    elim (cases_eq b c) [
      | inl e ↦ (
        λ _. inr (k, omega arith, bond_at ∙ sym e),
        λ _. rw e (get_or-set_same now c true false range),
      )
      | inr ne ↦
          let same : get_or (set now c true) b false ≡ get_or now b false = get_or-set_other now c b true false ne in (
            λ marked. elim ((h b).0 (sym same ∙ marked)) [ inl old ↦ inl old | inr q ↦ inr (on q) ],
            λ q. same ∙ (h b).1 (elim q [
              | inl old ↦ inl old
              | inr f ↦ elim (cases_lt f.0 k) [
                | inl lt ↦ inr (f.0, lt, f.2)
                | inr ge ↦
                    let lt : f.0 < k + 1 = f.1 in
                    let at : f.0 ≡ k = omega arith in
                    absurd (ne (sym f.2 ∙ ap (λ j. get_or (map (λ l. l.bond) path) j b) at ∙ bond_at))
              ]
            ]),
          )
    ]
