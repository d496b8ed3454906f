-- Links taken from atoms, and a bond that is ruled out.
use Rattle.std.proofs.Common.{zero, suc, ℕ, ◌<◌, ◌≡◌, ◌≢◌, ◌⊎◌, ◌↔◌, inl, inr, Bool, true, false, cond, eqb, not, List, [], ◌∷◌, length, get_or, set, filter, Contains, Option, Some, slice_get, sym, ap, subst, ◌∙◌, arith}
use Rattle.std.specs.List.Retain.{RetainsInTurn}
use Rattle.std.proofs.lemmas.Bool.{cases_eq, cond-true, cond_both, false≢true, eq-eqb, ne_eqb}
use Rattle.std.proofs.lemmas.List.{get_or-set_same, get_or-set_other, length-map, length-set, map-set}
use Rattle.std.proofs.lemmas.List.Elements.{All-contains, All-contains_itself, All-filter, filter_passes}
use Rattle.std.proofs.lemmas.Option.{same_Some}
use Rattle.smallvec.specs.SmallVec.{SmallVec}
use Rattle.chem_core.specs.Graph.{Ends, JoinsAt}
use Rattle.aromatic.specs.declared.links.Link.{Link}
use Rattle.aromatic.specs.Links.{links_at, links_in}
use Rattle.aromatic.specs.Route.{IsAromaticBy, IsNet}

-- where no call changes the closure or the element, `retain` leaves what passes the test
pub filter-from_retain : {X F : Type 0} (R : F → X → Bool → F → X → Type 0) (test : X → Bool) (f : F)
    → ((x : X) (b : Bool) (f' : F) (y : X) → R f x b f' y → (b ≡ test x) × (f' ≡ f) × (y ≡ x))
    → (xs ys : List X) → RetainsInTurn R f xs ys → ys ≡ filter test xs
filter-from_retain R test f says [] ys h = h
filter-from_retain R test f says (x ∷ xs) ys h =
    let said = says x h.0 h.1 h.2 h.3 in
    let later = subst (λ g. RetainsInTurn R g xs h.4) said.1 h.5 in
    let rest = filter-from_retain R test f says xs h.4 later in
    h.6 ∙ (λ i. cond (said.0 i) (said.2 i ∷ rest i) (rest i))

-- what passes the test stays
passes-stays : (test : Link → Bool) (xs : List Link) (l : Link) → Contains xs l → test l ≡ true
    → Contains (filter test xs) l
passes-stays test [] l (k, lt, is) pass = absurd (omega arith)
passes-stays test (x ∷ xs) l (zero, lt, is) pass =
    let now : filter test (x ∷ xs) ≡ x ∷ filter test xs = cond-true (test x) (x ∷ filter test xs) (filter test xs)
    (ap test is ∙ pass) in
    subst (λ ys. Contains ys l) (sym now) (zero, omega arith, is)
passes-stays test (x ∷ xs) l (suc k, lt, is) pass =
    let rest = passes-stays test xs l (k, omega arith, is) pass in
    let within = rest.1 in
    cond_both (test x) (x ∷ filter test xs) (filter test xs) (λ ys. Contains ys l)
    (λ _. (suc rest.0, omega arith, rest.2)) (λ _. rest)

passes-not : (b place : ℕ) → not (eqb b place) ≡ true → b ≢ place
passes-not b place pass is = false≢true (sym (ap not (eq-eqb b place is)) ∙ pass)

-- the links by a bond, taken from an atom
pub link-take : (links : List (SmallVec Link)) (from place : ℕ) (old : List Link) (w : SmallVec Link)
    → from < length links → links_at (links_in links) from ≡ old → w.items ≡ filter (λ l. not (eqb l.bond place)) old
    → (a n b : ℕ) → Contains (links_at (links_in (set links from w)) a) (record { to = n; bond = b })
    ↔ (Contains (links_at (links_in links) a) (record { to = n; bond = b }) × (b ≡ place → a ≡ from → ⊥))
link-take links from place old w within read new a n b =
    let lists : List (List Link) = links_in links in
    let l : Link = record { to = n; bond = b } in
    let test : Link → Bool = λ m. not (eqb m.bond place) in
    let there : from < length lists = omega (arith, length-map {B = List Link} links (λ u. u.items)) in
    let moved : links_in (set links from w) ≡ set lists from w.items = map-set (λ u. u.items) links from w in
    elim (cases_eq a from) [
      | inl e ↦
          let now : links_at (links_in (set links from w)) a ≡ filter test (links_at lists a) =
          rw (moved, e) (get_or-set_same lists from w.items [] there ∙ new
          ∙ ap (λ xs. filter test xs) (sym read)) in (
            λ q.
                let q' = subst (λ xs. Contains xs l) now q in
                let pass : not (eqb b place) ≡ true = All-contains (λ m. test m ≡ true) (filter test (links_at lists a))
                l (filter_passes test (links_at lists a)) q' in (
                  All-contains (Contains (links_at lists a)) (filter test (links_at lists a)) l
                      (All-filter test (Contains (links_at lists a)) (links_at lists a)
                      (All-contains_itself (links_at lists a))) q',
                  λ is _. passes-not b place pass is,
                ),
            λ q. subst (λ xs. Contains xs l) (sym now) (passes-stays test (links_at lists a) l q.0
                (ap not (ne_eqb b place (λ is. q.1 is e)))),
          )
      | inr other ↦
          let now : links_at (links_in (set links from w)) a ≡ links_at lists a =
          rw moved (get_or-set_other lists from a w.items [] other) in (
            λ q. (subst (λ xs. Contains xs l) now q, λ _ is. other is),
            λ q. subst (λ xs. Contains xs l) (sym now) q.0,
          )
    ]

-- a bond joins no atoms but its ends
end_of : (ends : Ends) (b k a n x y : ℕ) → slice_get ends k ≡ Some (x, y) → b ≡ k → JoinsAt ends b a n
    → (a ≡ x) ⊎ (a ≡ y)
end_of ends b k a n x y here e (inl j) =
    let p : ◌≡◌ {A = ℕ × ℕ} (a, n) (x, y) = same_Some _ _ (sym j ∙ ap (λ m. slice_get ends m) e ∙ here) in
    inl (ap (λ u. u.0) p)
end_of ends b k a n x y here e (inr j) =
    let p : ◌≡◌ {A = ℕ × ℕ} (n, a) (x, y) = same_Some _ _ (sym j ∙ ap (λ m. slice_get ends m) e ∙ here) in
    inr (ap (λ u. u.1) p)

-- a bond on no Hückel cycle is ruled out
pub net-less : (ends : Ends) (possible after : List Bool) (gives : List (Option ℕ)) (links less : List (List Link))
    (k x y : ℕ)
    → slice_get ends k ≡ Some (x, y) → k < length possible → after ≡ set possible k false → length less ≡ length links
    → ((a n b : ℕ) → Contains (links_at less a) (record { to = n; bond = b })
    ↔ (Contains (links_at links a) (record { to = n; bond = b }) × (b ≡ k → (a ≡ x) ⊎ (a ≡ y) → ⊥)))
    → IsNet ends possible gives links → (IsAromaticBy ends gives k → ⊥) → IsNet ends after gives less
net-less ends possible after gives links less k x y here within is len step net none =
    let same : get_or after k false ≡ false = ap (λ xs. get_or xs k false) is ∙ get_or-set_same possible k false false
    within in
    let other : (b : ℕ) → b ≢ k → get_or after b false ≡ get_or possible b false = λ b ne.
    ap (λ xs. get_or xs b false) is ∙ get_or-set_other possible k b false false ne in
    record {
      graph = net.graph;
      count = ap length is ∙ length-set possible k false ∙ net.count;
      whole = λ b on. elim (cases_eq b k) [
        | inl e ↦ absurd (none (subst (λ m. IsAromaticBy ends gives m) e on))
        | inr ne ↦ other b ne ∙ net.whole b on
      ];
      linked = record {
        count = len ∙ net.linked.count;
        each = λ a n b. (
          λ q.
              let down = (step a n b).0 q in
              let old = (net.linked.each a n b).0 down.0 in
              let ne : b ≢ k = λ e. down.1 e (end_of ends b k a n x y here e old.1) in
              (old.0, old.1, other b ne ∙ old.2, old.3, old.4),
          λ q.
              let ne : b ≢ k = λ e. false≢true (sym same ∙ ap (λ m. get_or after m false) (sym e) ∙ q.2) in
              (step a n b).1 ((net.linked.each a n b).1 (q.0, q.1, sym (other b ne) ∙ q.2, q.3, q.4), λ e _. ne e),
        );
      };
    }
