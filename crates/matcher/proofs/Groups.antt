-- Groups: what an embedding keeps of them, and groups that are more than their components.
use Rattle.std.proofs.Common.{◌≡◌, ◌≢◌, ◌↔◌, ◌++◌, ◌∙◌, ◌<◌, ◌≤◌, ℕ, zero, suc, ◌+◌, Bool, true, false, List, length, map, take, set, slice_index, get_or, count_by, [], ◌∷◌, below_more, inl, inr, refl, sym, ap, subst, arith}
use Rattle.std.proofs.Math.Seq.{take-length}
use Rattle.std.proofs.lemmas.Bool.{cases_Bool, eqb-true}
use Rattle.std.proofs.Math.ListN.{get_or-append}
use Rattle.std.proofs.lemmas.List.{get_or_default, get_or_push, get_or-map, get_or-set_other, get_or-take, length-append, length-map, length-take}
use Rattle.std.proofs.lemmas.List.Sums.{count_by_more_no, count_by_more_yes}
use Rattle.chem_core.specs.Graph.{Ends}
use Rattle.chem_core.specs.Component.{IsComponent, Reaches}
use Rattle.chem_core.specs.Molecule.{ends_of}
use Rattle.chem_core.proofs.Components.{component_same}
use Rattle.smarts_parse.specs.Pattern.{graph_of, term_of}
use Rattle.matcher.specs.declared.task.Task.{Task}
use Rattle.matcher.specs.Candidates.{AreCandidates, IsCandidate}
use Rattle.matcher.specs.Group.{group_at, KeepsGroups, BeginsGroup, IsNowhere, HasFew, is_of_group, IsInMarked}
use Rattle.matcher.specs.Hunt.{Continues}
use Rattle.matcher.specs.Task.{Completes, Embeds, IsPlaced, IsReadyTask}
use Rattle.matcher.proofs.Partials.{index_front, KeepsNext}
use Rattle.matcher.proofs.Standing.{cannot_stand}
use Rattle.matcher.proofs.Pigeons.{marks, marks_map, marks_set, pigeons}

-- each place has a group, or 0
pub groups_room : (task : Task) (place : ℕ) → IsReadyTask task → place < length task.graph.now.atoms.items
    → place < length task.graph.now.groups.items
groups_room task place ready l = omega
    (arith, l, ready.searchable.groups, length-map task.graph.now.atoms.items term_of)

-- the group that is read at a place
pub group_read : (task : Task) (place group : ℕ) → place < length task.graph.now.groups.items
    → group ≡ get_or task.graph.now.groups.items place group → group ≡ group_at task place
group_read task place group l e = e ∙ get_or_default task.graph.now.groups.items place group 0 l

-- what the names of components say, walks say
pub walks_named : (ends : Ends) (a b c d : ℕ) (P : Type 0) → IsComponent ends a c → IsComponent ends b d → P ↔ (c ≡ d)
    → P ↔ Reaches ends a b
walks_named ends a b c d P h k same =
    let names = component_same ends a b c d h k in (λ p. names.0 (same.0 p), λ r. same.1 (names.1 r))

pub named_walks : (ends : Ends) (a b c d : ℕ) (P : Type 0) → IsComponent ends a c → IsComponent ends b d
    → P ↔ Reaches ends a b → P ↔ (c ≡ d)
named_walks ends a b c d P h k same =
    let names = component_same ends a b c d h k in (λ p. names.1 (same.0 p), λ e. same.1 (names.0 e))

-- marks for the atoms so far, and one atom more
pub marked_more : (P : ℕ → Type 0) (seats : List Bool) (mark : Bool) (n : ℕ) → length seats ≡ n
    → ((a : ℕ) → a < n → P a → get_or seats a false ≡ true) → (P n → mark ≡ true)
    → (a : ℕ) → a < n + 1 → P a → get_or (seats ++ mark ∷ []) a false ≡ true
marked_more P seats mark n size old here = below_more (λ a. P a → get_or (seats ++ mark ∷ []) a false ≡ true) n
    (λ a l p. get_or-append seats (mark ∷ []) false a (omega arith) ∙ old a l p)
    (λ p. get_or_push seats mark false n size ∙ here p)

-- two questions that are one
pub keeps_next : (task : Task) (front : List ℕ) (atom : ℕ) → IsPlaced task front
    → KeepsGroups task front (length front) atom
    → KeepsNext (graph_of task.graph.now).groups task.mol.now front atom
keeps_next task front atom placed h q l nq np = h np q l (placed.in_range q 0 l) nq

pub next_keeps : (task : Task) (front : List ℕ) (atom : ℕ)
    → KeepsNext (graph_of task.graph.now).groups task.mol.now front atom
    → KeepsGroups task front (length front) atom
next_keeps task front atom h np q l lt nq = h q l nq np

-- A place of an embedding keeps to groups beside places that stand as in the embedding.
pub keeps_whole : (task : Task) (taken whole : List ℕ) (place atom : ℕ) → Embeds task whole → place < length whole
    → ((q : ℕ) → q < length taken → slice_index taken q < length task.mol.now.atoms → (q < length whole)
    × (slice_index whole q ≡ slice_index taken q))
    → slice_index whole place ≡ atom → KeepsGroups task taken place atom
keeps_whole task taken whole place atom e l stand is np q lq lt nq =
    let there = stand q lq lt in
    let P : Type 0 = group_at task q ≡ group_at task place in
    subst (λ x. P ↔ Reaches (ends_of task.mol.now) (slice_index taken q) x) is
    (subst (λ x. P ↔ Reaches (ends_of task.mol.now) x (slice_index whole place)) there.1
    (e.groups q place there.0 l nq np))

-- beside the places in front
pub keeps_front : (task : Task) (front rest : List ℕ) (place atom : ℕ) → Embeds task (front ++ rest)
    → place < length task.graph.now.atoms.items → slice_index (front ++ rest) place ≡ atom
    → KeepsGroups task front place atom
keeps_front task front rest place atom e l is = keeps_whole task front (front ++ rest) place atom e
    (omega (arith, e.one_each, length-map task.graph.now.atoms.items term_of))
    (λ q lq lt. (omega (arith, length-append front rest), index_front front rest q lq)) is

-- beside the places that are taken
pub keeps_taken : (task : Task) (taken whole : List ℕ) (n place atom : ℕ) → n ≡ length task.graph.now.atoms.items
    → Continues task taken whole → place < n → slice_index whole place ≡ atom
    → KeepsGroups task (take n taken) place atom
keeps_taken task taken whole n place atom size h l is = keeps_whole task (take n taken) whole place atom h.embeds
    (omega (arith, h.embeds.one_each, length-map task.graph.now.atoms.items term_of))
    (λ q lq lt.
    let all = h.embeds.one_each in
    let before : q < n = omega (arith, length-take n taken) in
    let inside : q < length whole = omega (arith, length-map task.graph.now.atoms.items term_of) in
    let read : slice_index (take n taken) q ≡ slice_index taken q = get_or-take n taken q 0 before in
    (inside, h.agrees q inside (subst (λ x. x < length task.mol.now.atoms) read lt) ∙ sym read)) is

-- different places at different marks, each at one that a relation gives it: as many are marked
pub pigeons_by : (R : ℕ → ℕ → Type 0) (places : List Bool) (k : ℕ) (seats : List Bool) → k ≤ length places
    → ((i : ℕ) → i < k → get_or places i false ≡ true → (s : ℕ) × R i s × (get_or seats s false ≡ true))
    → ((i j s : ℕ) → i < j → j < k → get_or places i false ≡ true → get_or places j false ≡ true → R i s → R j s → ⊥)
    → marks (take k places) ≤ marks seats
pigeons_by R places zero seats l within apart = omega arith
pigeons_by R places (suc k) seats l within apart =
    let next : k + 1 ≡ suc k = omega arith in
    elim (cases_Bool (get_or places k false)) [
      | inl yes' ↦
          let last = within k (omega arith) yes' in
          let s : ℕ = last.0 in
          let rest : marks (take k places) ≤ marks (set seats s false) = pigeons_by R places k (set seats s false)
          (omega arith)
          (λ i m h.
          let w = within i (omega arith) h in
          let differs : w.0 ≢ s = λ e. apart i k s m (omega arith) h yes' (subst (R i) e w.1) last.1 in
          (w.0, w.1, get_or-set_other seats s w.0 false false differs ∙ w.2))
          (λ i j t m n. apart i j t m (omega arith)) in
          let more : marks (take (k + 1) places) ≡ marks (take k places) + 1 = count_by_more_yes
          (λ (x : Bool). x) places k false (omega arith) yes' in
          let less = marks_set seats s last.2 in
          subst (λ n. marks (take n places) ≤ marks seats) next (omega arith)
      | inr no' ↦
          let rest : marks (take k places) ≤ marks seats = pigeons_by R places k seats (omega arith)
          (λ i m. within i (omega arith)) (λ i j t m n. apart i j t m (omega arith)) in
          let same : marks (take (k + 1) places) ≡ marks (take k places) = count_by_more_no
          (λ (x : Bool). x) places k false (omega arith) no' in
          subst (λ n. marks (take n places) ≤ marks seats) next (omega arith)
    ]

-- more groups than components
pub excluded_groups : (task : Task) (front : List ℕ) (places components : List Bool)
    → length places ≤ length task.graph.now.atoms.items → marks components < marks places
    → ((k : ℕ) → k < length places → get_or places k false ≡ true → BeginsGroup task k × ((rest : List ℕ)
    → Embeds task (front ++ rest) → IsInMarked task.mol.now components (slice_index (front ++ rest) k)))
    → Completes task front → ⊥
excluded_groups task front places components few fewer within w =
    let whole = front ++ w.0 in
    let e = w.1 in
    let ends = ends_of task.mol.now in
    let size : length whole ≡ length task.graph.now.atoms.items = e.one_each
    ∙ length-map task.graph.now.atoms.items term_of in
    let R : ℕ → ℕ → Type 0 = λ i s. IsComponent ends (slice_index whole i) s in
    let all : marks (take (length places) places) ≤ marks components = pigeons_by R places (length places) components
    (omega arith) (λ i l h. (within i l h).1 w.0 e)
    (λ i j s l k hi hj ri rj.
    let one = (within i (omega arith) hi).0 in
    let two = (within j k hj).0 in
    let walk = (component_same ends (slice_index whole i) (slice_index whole j) s s ri rj).0 refl in
    two.first i l ((e.groups i j (omega arith) (omega arith) one.some two.some).1 walk)) in
    let counted : marks (take (length places) places) ≡ marks places = ap marks (take-length places) in
    omega arith

-- a group with more places than its component has atoms
pub no_room : (task : Task) (place atom group count : ℕ) → place < length task.graph.now.atoms.items
    → group ≡ group_at task place → group ≢ 0 → length task.graph.now.groups.items ≡ length task.graph.now.atoms.items
    → count ≡ count_by (is_of_group group) task.graph.now.groups.items → HasFew task.mol.now atom count
    → IsNowhere task place atom
no_room task place atom group count l is some each counted few image e at =
    let groups = task.graph.now.groups.items in
    let places = map (is_of_group group) groups in
    let size : length image ≡ length task.graph.now.atoms.items = e.one_each
    ∙ length-map task.graph.now.atoms.items term_of in
    let long : length places ≡ length groups = length-map groups (is_of_group group) in
    let all : marks (take (length places) places) ≤ marks few.marks =
    pigeons (λ i. slice_index image i) places (length places) few.marks (omega arith)
    (λ i m h.
    let short : i < length groups = omega arith in
    let mine : get_or groups i 0 ≡ group = eqb-true (get_or groups i 0) group
    (sym (get_or-map (is_of_group group) groups i 0 false short) ∙ h) in
    let walk : Reaches (ends_of task.mol.now) (slice_index image place) (slice_index image i) =
    (e.groups place i (omega arith) (omega arith) (λ z. some (is ∙ z)) (λ z. some (sym mine ∙ z))).0 (sym is ∙ sym mine)
    in
    few.all (slice_index image i) (e.in_range i 0 (omega arith))
    (subst (λ x. Reaches (ends_of task.mol.now) x (slice_index image i)) at walk))
    (λ i j m n same. e.distinct i j 0 m (omega arith) same) in
    let whole : marks (take (length places) places) ≡ marks places = ap marks (take-length places) in
    let one = marks_map (is_of_group group) groups in
    let f = few.few in
    omega arith

-- candidates of which one is taken away that no embedding needs
pub candidates_less : (task : Task) (old new : List ℕ) (place atom : ℕ) → IsReadyTask task → AreCandidates task old
    → ((p a : ℕ) → p < 256 → (p ≡ place → a ≡ atom → ⊥) → IsCandidate old p a → IsCandidate new p a)
    → ((p a : ℕ) → IsCandidate new p a → IsCandidate old p a) → IsNowhere task place atom → AreCandidates task new
candidates_less task old new place atom ready are others fewer nowhere = record {
  held = λ p a l m h. are.held p a l m (fewer p a h);
  whole = λ image e p l. others p (slice_index image p) (omega (arith, l, e.one_each, ready.searchable.few))
      (λ same at. nowhere image e (ap (λ q. slice_index image q) (sym same) ∙ at)) (are.whole image e p l);
}

-- a place that is nowhere
pub nowhere_all : (task : Task) (place : ℕ) → place < length task.graph.now.atoms.items
    → ((a : ℕ) → a < length task.mol.now.atoms → IsNowhere task place a) → Completes task [] → ⊥
nowhere_all task place l none w =
    let e = w.1 in
    let size : length w.0 ≡ length task.graph.now.atoms.items = e.one_each
    ∙ length-map task.graph.now.atoms.items term_of in
    none (slice_index w.0 place) (e.in_range place 0 (omega arith)) w.0 e refl

-- an atom that is no candidate
pub nowhere_candidate : (task : Task) (words : List ℕ) (place atom : ℕ) → AreCandidates task words
    → place < length task.graph.now.atoms.items → (IsCandidate words place atom → ⊥) → IsNowhere task place atom
nowhere_candidate task words place atom are l none image e at =
    cannot_stand task words image place atom are e l none at
