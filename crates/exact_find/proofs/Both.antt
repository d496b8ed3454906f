-- The colours of both sides are kept by each map that goes on from the pairs.
use Rattle.std.proofs.Common.{◌≡◌, ◌≢◌, ℕ, ◌+◌, ◌-◌, ◌*◌, ◌%◌, ◌^◌, ◌<◌, ◌≤◌, inl, inr, List, [], ◌∷◌, ◌++◌, length, take, set, get_or, map, sum, slice_get, Some, pos, false, refl, sym, ap, ◌∙◌, arith}
use Rattle.std.proofs.lemmas.Bool.{cases_eq}
use Rattle.std.proofs.lemmas.List.{get_or-set_same, get_or-set_other, get_or-take, length-take-le}
use Rattle.std.proofs.lemmas.Option.{slice_get-get_or, slice_get_within}
use Rattle.chem_core.specs.declared.mol.Atom.{Atom}
use Rattle.chem_core.specs.Graph.{degree}
use Rattle.chem_core.specs.Molecule.{Molecule, IsMolecule, ends_of}
use Rattle.exact_find.specs.declared.levels.TheConstants.{FAR, IN_PAIR}
use Rattle.exact_find.specs.Key.{atom_code, code}
use Rattle.exact_find.specs.Pairs.{Extends, Has, IsMap, IsPartial}
use Rattle.exact_find.specs.Colours.{AreInRange, AreKept, AreMatched, AreRough, IsBegun, IsRough, IsRound, KeepAlong, taken}
use Rattle.exact_find.specs.Levels.{AreFree, IsReached}
use Rattle.exact_find.proofs.Flips.{has-last}
use Rattle.exact_find.proofs.Keys.{degree-le, same_code}
use Rattle.exact_find.proofs.Maps.{map-back, some_one}
use Rattle.exact_find.proofs.Reach.{level-kept, reached-matched}
use Rattle.exact_find.proofs.Rounds.{begun-kept, round-kept, total-kept}

-- both atoms of a pair get the same number
pub set-kept : (m : Molecule) (f g : ℕ → ℕ) (c d : List ℕ) (a b v : ℕ) → ((x : ℕ) → g (f x) ≡ x) → f a ≡ b
    → a < length c → b < length d → AreKept m f c d → AreKept m f (set c a v) (set d b v)
set-kept m f g c d a b v back goes room room_right kept = λ x inside.
    elim (cases_eq x a) [
      | inl e ↦
          let there : f x ≡ b = ap f e ∙ goes in
          ap (λ z. get_or (set c a v) z 0) e ∙ get_or-set_same c a v 0 room ∙ sym (get_or-set_same d b v 0 room_right)
          ∙ ap (λ z. get_or (set d b v) z 0) (sym there)
      | inr ne ↦
          let off : f x ≢ b = λ e. ne (sym (back x) ∙ ap g (e ∙ sym goes) ∙ back a) in
          get_or-set_other c a x v 0 ne ∙ kept x inside ∙ sym (get_or-set_other d b (f x) v 0 off)
    ]

pub along-more : (ps : List (ℕ × ℕ)) (c0 d0 c d : List ℕ) (a b v : ℕ) → Has ps a b → a < length c → b < length d
    → KeepAlong ps c0 d0 c d → KeepAlong ps c0 d0 (set c a v) (set d b v)
along-more ps c0 d0 c d a b v has room room_right before = λ m f g back goes kept.
    set-kept m f g c d a b v back (goes a b has) room room_right (before m f g back goes kept)

pub free-more : (n : ℕ) (L : List ℕ) (a : ℕ) → a < length L → AreFree n L → AreFree n (set L a IN_PAIR)
free-more n L a room free = λ x inside.
    elim (cases_eq x a) [
      | inl e ↦ inr (ap (λ z. get_or (set L a IN_PAIR) z 0) e ∙ get_or-set_same L a IN_PAIR 0 room)
      | inr ne ↦
          let same = get_or-set_other L a x IN_PAIR 0 ne in
          elim (free x inside) [ inl far ↦ inl (same ∙ far) | inr paired ↦ inr (same ∙ paired) ]
    ]

pub kept-back : (m n : Molecule) (f g : ℕ → ℕ) (c d : List ℕ) → IsMap m n f g → AreKept m f c d → AreKept n g d c
kept-back m n f g c d all kept = λ y inside.
    ap (λ z. get_or d z 0) (sym (all.forth y)) ∙ sym (kept (g y) (all.within_back y inside))

-- a round on both sides
pub round-both : (m n : Molecule) (f g : ℕ → ℕ) (p q c d v w : List ℕ) (s t : ℕ) → IsMolecule m → IsMap m n f g
    → AreInRange (length m.atoms) p → AreInRange (length n.atoms) q → AreMatched f g p q → IsRound m p c v
    → IsRound n q d w → s ≡ sum (map (taken v) p) % 2 ^ 64 → t ≡ sum (map (taken w) q) % 2 ^ 64 → AreKept m f c d
    → AreKept m f v w × (s ≡ t)
round-both m n f g p q c d v w s t is all in_left in_right matched left right one two kept =
    let new : AreKept m f v w = round-kept m n f g p q c d v w is all (map-back m n f g is all) matched left right kept in (
      new,
      one ∙ ap (λ k. k % 2 ^ 64)
          (total-kept m f g p q v w (length n.atoms) all.back all.forth in_left in_right matched new) ∙ sym two,
    )

atom_at : (m : Molecule) (x : ℕ) → x < length m.atoms → (atom : Atom) × (slice_get m.atoms x ≡ Some atom)
atom_at m x inside =
    let none : Atom = record { number = 0; isotope = 0; charge = pos 0; hydrogens = 0; aromatic = false; valence = 0 } in
    (get_or m.atoms x none, slice_get-get_or m.atoms x none inside)

-- all colours of atoms in no pair come from what the atoms are
pub codes-kept : (m n : Molecule) (f g : ℕ → ℕ) (c d : List ℕ) → IsMolecule m → IsMolecule n → IsMap m n f g
    → ((x : ℕ) (atom : Atom) → slice_get m.atoms x ≡ Some atom → get_or c x 0 ≡ code m (x, atom))
    → ((x : ℕ) (atom : Atom) → slice_get n.atoms x ≡ Some atom → get_or d x 0 ≡ code n (x, atom)) → AreKept m f c d
codes-kept m n f g c d is too all left right = λ x inside.
    let atom = atom_at m x inside in
    let to = all.alike x atom.0 atom.1 in
    let one : degree (ends_of m) x ≤ degree (ends_of n) (f x) = degree-le m n f g is all x in
    let two : degree (ends_of n) (f x) ≤ degree (ends_of m) (g (f x)) =
    degree-le n m g f too (map-back m n f g is all) (f x) in
    let same : degree (ends_of m) x ≡ degree (ends_of n) (f x) =
    omega (arith, ap (degree (ends_of m)) (all.back x)) in
    left x atom.0 atom.1 ∙ ap (λ k. k * 13 + degree (ends_of m) x) (same_code atom.0 to.0 to.2)
    ∙ ap (λ k. atom_code to.0 * 13 + k) same ∙ sym (right (f x) to.0 to.1)

pub all-matched : (m n : Molecule) (f g : ℕ → ℕ) (list other : List ℕ) → length m.atoms ≤ length list
    → length n.atoms ≤ length other → ((x : ℕ) → x < length m.atoms → get_or list x 0 ≡ x)
    → ((x : ℕ) → x < length n.atoms → get_or other x 0 ≡ x) → IsMap m n f g
    → AreMatched f g (take (length m.atoms) list) (take (length n.atoms) other)
all-matched m n f g list other room room_right is too all =
    let long : length (take (length m.atoms) list) ≡ length m.atoms = length-take-le (length m.atoms) list room in
    let wide : length (take (length n.atoms) other) ≡ length n.atoms =
    length-take-le (length n.atoms) other room_right in
    let read : (i : ℕ) → i < length m.atoms → get_or (take (length m.atoms) list) i 0 ≡ i = λ i h.
    get_or-take (length m.atoms) list i 0 h ∙ is i h in
    let see : (i : ℕ) → i < length n.atoms → get_or (take (length n.atoms) other) i 0 ≡ i = λ i h.
    get_or-take (length n.atoms) other i 0 h ∙ too i h in
    record {
      there = λ i h.
          let less : i < length m.atoms = omega arith in
          let to = all.within i less in
          (f i, omega (arith, to), see (f i) to ∙ ap f (sym (read i less)));
      back = λ j h.
          let less : j < length n.atoms = omega arith in
          let to = all.within_back j less in
          (g j, omega (arith, to), read (g j) to ∙ ap g (sym (see j less)));
    }

-- where a map goes on from the pairs, it takes what hangs on the last pair to what hangs on it there, with its colours
pub begun-both : (m n : Molecule) (ps : List (ℕ × ℕ)) (a b : ℕ) (rl rr l0 r0 l1 r1 L R p q c0 d0 c1 d1 v w : List ℕ)
    → IsMolecule m → IsMolecule n → Has ps a b → AreRough m n rl rr
    → ((x : ℕ) → x < length m.atoms → get_or l0 x 0 ≡ FAR) → ((x : ℕ) → x < length n.atoms → get_or r0 x 0 ≡ FAR)
    → ((x : ℕ) → x < length m.atoms → get_or c0 x 0 ≡ get_or rl x 0)
    → ((x : ℕ) → x < length n.atoms → get_or d0 x 0 ≡ get_or rr x 0)
    → KeepAlong ps l0 r0 l1 r1 → KeepAlong ps c0 d0 c1 d1 → IsReached m a l1 L p → IsReached n b r1 R q
    → IsBegun p L c1 v → IsBegun q R d1 w → (ext : Extends m n ps)
    → AreMatched ext.f ext.g p q × AreKept m ext.f v w
begun-both m n ps a b rl rr l0 r0 l1 r1 L R p q c0 d0 c1 d1 v w is too has rough far far_right own own_right levels colours
    left right begun begun_right ext =
    let f : ℕ → ℕ = ext.f in
    let g : ℕ → ℕ = ext.g in
    let all : IsMap m n f g = ext.is in
    let inverse : IsMap n m g f = map-back m n f g is all in
    let even : AreKept m f l1 r1 = levels m f g all.back ext.goes (λ x inside.
    far x inside ∙ sym (far_right (f x) (all.within x inside))) in
    let even_back : AreKept n g r1 l1 = kept-back m n f g l1 r1 all even in
    let start : f a ≡ b = ext.goes a b has in
    let matched : AreMatched f g p q =
    reached-matched m n f g a b l1 r1 L R p q is too all inverse even even_back start left right in
    let before : AreKept m f c1 d1 = colours m f g all.back ext.goes (λ x inside.
    own x inside ∙ rough f g all x inside ∙ sym (own_right (f x) (all.within x inside))) in (
      matched,
      begun-kept m f g p q L R c1 d1 v w all.back matched (λ i h.
          level-kept m n f g a b l1 r1 L R p q (get_or p i 0) is too all inverse even even_back start left right
          (left.listed.within i h) (left.low i h)) begun begun_right before,
    )

-- the atoms of a pair are atoms of the molecules
pub pair-within : (m n : Molecule) (ps : List (ℕ × ℕ)) (a b : ℕ) → IsPartial m n ps → Has ps a b
    → (a < length m.atoms) × (b < length n.atoms)
pair-within m n ps a b partial has =
    let to = partial.there.alike a b has in
    (slice_get_within m.atoms a to.0 to.1, slice_get_within n.atoms b to.2 to.3)

pub last-pair : (ps : List (ℕ × ℕ)) → 0 < length ps
    → Has ps (get_or ps (length ps - 1) (0, 0)).0 (get_or ps (length ps - 1) (0, 0)).1
last-pair ps some = (length ps - 1, omega arith, refl)

-- where the colours of two atoms differ, no map takes one to the other
pub rough-refused : (m n : Molecule) (ps : List (ℕ × ℕ)) (a b : ℕ) (rl rr : List ℕ) (i j v w : ℕ)
    → IsRough m n rl rr → i ≡ a → j ≡ b → a < length m.atoms → b < length n.atoms → length m.atoms ≤ length rl
    → length n.atoms ≤ length rr → v ≡ get_or rl i v → w ≡ get_or rr j w → (v ≡ w → ⊥)
    → Extends m n (ps ++ (a, b) ∷ []) → ⊥
rough-refused m n ps a b rl rr i j v w rough at at_right inside inside_right room room_right left right differ ext =
    let read : (xs : List ℕ) (k d : ℕ) → k < length xs → get_or xs k d ≡ get_or xs k 0 = λ xs k d h.
    some_one (get_or xs k d) (get_or xs k 0) (sym (slice_get-get_or xs k d h) ∙ slice_get-get_or xs k 0 h) in
    differ (left ∙ read rl i v (omega arith) ∙ ap (λ z. get_or rl z 0) at ∙ rough.kept ext.f ext.g ext.is a inside
    ∙ ap (λ z. get_or rr z 0) (ext.goes a b (has-last ps a b) ∙ sym at_right) ∙ sym (read rr j w (omega arith))
    ∙ sym right)
