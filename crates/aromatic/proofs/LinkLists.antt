-- Lists of links as the bonds come in, one after another.
use Rattle.std.proofs.Common.{ℕ, ◌+◌, ◌<◌, ◌≡◌, ◌⊎◌, ◌↔◌, inl, inr, Bool, true, false, List, [], ◌∷◌, ◌++◌, length, get_or, set, Contains, Option, Some, slice_get, option_map, sym, ap, subst, ◌∙◌, arith}
use Rattle.std.proofs.lemmas.List.{get_or-set_same, get_or-set_other, length-map, map-set}
use Rattle.std.proofs.lemmas.List.Elements.{Contains-append_left, Contains-push, Contains-push_cases}
use Rattle.std.proofs.lemmas.Option.{same_Some, slice_get-map, slice_get-get_or}
use Rattle.std.proofs.lemmas.Bool.{cases_lt, cases_eq}
use Rattle.smallvec.specs.SmallVec.{SmallVec}
use Rattle.chem_core.specs.Graph.{Ends}
use Rattle.chem_core.specs.declared.sketch.SketchBond.{SketchBond}
use Rattle.aromatic.specs.declared.links.Link.{Link}
use Rattle.aromatic.specs.Links.{AreLinks, IsCandidateAt, IsLinkBelow, IsNewLink, links_at, links_in}
use Rattle.chem_core.specs.Sound.{ends_among}

-- one more link of an atom
pub link-push : (links : List (SmallVec Link)) (from : ℕ) (link : Link) (old : List Link) (w : SmallVec Link)
    → from < length links → links_at (links_in links) from ≡ old → w.items ≡ old ++ link ∷ [] → (a n b : ℕ)
    → Contains (links_at (links_in (set links from w)) a) (record { to = n; bond = b })
    ↔ (Contains (links_at (links_in links) a) (record { to = n; bond = b })
    ⊎ ((a ≡ from) × (n ≡ link.to) × (b ≡ link.bond)))
link-push links from link old_links w within read new a n b =
    let lists : List (List Link) = links_in links in
    let l : Link = record { to = n; bond = b } in
    let there : from < length lists = omega (arith, length-map {B = List Link} links (λ u. u.items)) in
    let moved : links_in (set links from w) ≡ set lists from w.items = map-set (λ u. u.items) links from w in
    elim (cases_eq a from) [
      | inl e ↦
          let now : links_at (links_in (set links from w)) a ≡ links_at lists a ++ link ∷ [] =
          rw (moved, e) (get_or-set_same lists from w.items [] there ∙ new
          ∙ ap (λ xs. xs ++ link ∷ []) (sym read)) in (
            λ q. elim (Contains-push_cases (links_at lists a) link l (subst (λ xs. Contains xs l) now q)) [
              | inl old ↦
                  inl old
              | inr is ↦ inr (e, sym (ap (λ m. m.to) is), sym (ap (λ m. m.bond) is))
            ],
            λ q. subst (λ xs. Contains xs l) (sym now) (elim q [
              | inl old ↦ Contains-append_left (links_at lists a) (link ∷ []) l old
              | inr is ↦
                  let same : ◌≡◌ {A = Link} (record { to = link.to; bond = link.bond }) l =
                  λ i. record { to = sym is.1 i; bond = sym is.2 i } in
                  subst (λ m. Contains (links_at lists a ++ link ∷ []) m) same (Contains-push (links_at lists a) link)
            ]),
          )
      | inr other ↦
          let now : links_at (links_in (set links from w)) a ≡ links_at lists a =
          rw moved (get_or-set_other lists from a w.items [] other) in (
            λ q. inl (subst (λ xs. Contains xs l) now q),
            λ q. elim q [ inl old ↦ subst (λ xs. Contains xs l) (sym now) old | inr is ↦ absurd (other is.0) ],
          )
    ]

-- two links, there and back
pub link-both : (before between after : List (List Link)) (gives : List (Option ℕ)) (c x y : ℕ) (ring : Bool)
    → ring ≡ true → IsCandidateAt gives x → IsCandidateAt gives y
    → ((a n b : ℕ) → Contains (links_at between a) (record { to = n; bond = b })
    ↔ (Contains (links_at before a) (record { to = n; bond = b }) ⊎ ((a ≡ x) × (n ≡ y) × (b ≡ c)))) → ((a n b : ℕ)
    → Contains (links_at after a) (record { to = n; bond = b })
    ↔ (Contains (links_at between a) (record { to = n; bond = b }) ⊎ ((a ≡ y) × (n ≡ x) × (b ≡ c)))) → (a n b : ℕ)
    → Contains (links_at after a) (record { to = n; bond = b })
    ↔ (Contains (links_at before a) (record { to = n; bond = b }) ⊎ IsNewLink gives c x y ring a n b)
link-both before between after gives c x y ring is_ring cx cy first second a n b = (
  λ q. elim ((second a n b).0 q) [
    | inl p ↦ elim ((first a n b).0 p) [ inl old ↦ inl old | inr is ↦ inr (is_ring, cx, cy, is.2, inl (is.0, is.1)) ]
    | inr is ↦ inr (is_ring, cx, cy, is.2, inr (is.0, is.1))
  ],
  λ q. elim q [
    | inl old ↦ (second a n b).1 (inl ((first a n b).1 (inl old)))
    | inr new ↦ elim (new.4) [
      | inl is ↦ (second a n b).1 (inl ((first a n b).1 (inr (is.0, is.1, new.3))))
      | inr is ↦
          (second a n b).1 (inr (is.0, is.1, new.3))
    ]
  ],
)

-- one more bond
pub link-more : (ends : Ends) (rings : List Bool) (gives : List (Option ℕ)) (k x y : ℕ) → slice_get ends k ≡ Some (x, y)
    → (a n b : ℕ) → IsLinkBelow ends rings gives (k + 1) a n b
    ↔ (IsLinkBelow ends rings gives k a n b ⊎ IsNewLink gives k x y (get_or rings k false) a n b)
link-more ends rings gives k x y here a n b = (
  λ q. elim (cases_lt b k) [
    | inl l ↦ inl (l, q.1, q.2, q.3, q.4)
    | inr l ↦
        let lt : b < k + 1 = q.0 in
        let e : b ≡ k = omega arith in
        let ring : get_or rings k false ≡ true = subst (λ m. get_or rings m false ≡ true) e q.2 in
        elim (q.1) [
          | inl j ↦
              let p : ◌≡◌ {A = ℕ × ℕ} (a, n) (x, y) = same_Some _ _ (sym j ∙ ap (λ m. slice_get ends m) e ∙ here) in
              inr (
                ring,
                subst (λ m. IsCandidateAt gives m) (ap (λ u. u.0) p) q.3,
                subst (λ m. IsCandidateAt gives m) (ap (λ u. u.1) p) q.4,
                e,
                inl (ap (λ u. u.0) p, ap (λ u. u.1) p),
              )
          | inr j ↦
              let p : ◌≡◌ {A = ℕ × ℕ} (n, a) (x, y) = same_Some _ _ (sym j ∙ ap (λ m. slice_get ends m) e ∙ here) in
              inr (
                ring,
                subst (λ m. IsCandidateAt gives m) (ap (λ u. u.0) p) q.4,
                subst (λ m. IsCandidateAt gives m) (ap (λ u. u.1) p) q.3,
                e,
                inr (ap (λ u. u.1) p, ap (λ u. u.0) p),
              )
        ]
  ],
  λ q. elim q [
    | inl old ↦
        let lt : b < k = old.0 in
        (omega arith, old.1, old.2, old.3, old.4)
    | inr new ↦
        let e : b ≡ k = new.3 in
        let ring : get_or rings b false ≡ true = rw e new.0 in
        elim (new.4) [
          | inl is ↦ (
            omega arith,
            inl (rw e here
                ∙ ap Some (ap (λ m. (m, y)) (sym is.0) ∙ ap (λ m. (a, m)) (sym is.1))),
            ring,
            rw is.0 new.1,
            rw is.1 new.2,
          )
          | inr is ↦ (
            omega arith,
            inr (rw e here
                ∙ ap Some (ap (λ m. (m, y)) (sym is.1) ∙ ap (λ m. (n, m)) (sym is.0))),
            ring,
            rw is.0 new.2,
            rw is.1 new.1,
          )
        ]
  ],
)

pub links-more : (bonds : List SketchBond) (rings : List Bool) (gives : List (Option ℕ)) (k : ℕ) (d : SketchBond)
    (before after : List (SmallVec Link)) → k < length bonds
    → AreLinks (ends_among bonds) rings gives k (links_in before) → length after ≡ length before
    → ((a n b : ℕ) → Contains (links_at (links_in after) a) (record { to = n; bond = b })
    ↔ (Contains (links_at (links_in before) a) (record { to = n; bond = b }) ⊎ IsNewLink gives k (get_or bonds k d).a
    (get_or bonds k d).b (get_or rings k false) a n b)) → AreLinks (ends_among bonds) rings gives (k
    + 1) (links_in after)
links-more bonds rings gives k d before after within h same step =
    let here : slice_get (ends_among bonds) k ≡ Some ((get_or bonds k d).a, (get_or bonds k d).b) =
    slice_get-map (λ b. (b.a, b.b)) bonds k ∙ ap (λ o. option_map (λ b. (b.a, b.b)) o)
    (slice_get-get_or bonds k d within) in
    record {
      count = length-map after (λ v. v.items) ∙ same ∙ sym (length-map before (λ v. v.items)) ∙ h.count;
      each = λ a n b.
          let more = link-more (ends_among bonds) rings gives k (get_or bonds k d).a (get_or bonds k d).b here a n b
          in (
            λ q. more.1 (elim ((step a n b).0 q) [ inl old ↦ inl ((h.each a n b).0 old) | inr new ↦ inr new ]),
            λ q. (step a n b).1 (elim (more.0 q) [ inl old ↦ inl ((h.each a n b).1 old) | inr new ↦ inr new ]),
          );
    }
