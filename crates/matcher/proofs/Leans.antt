-- Words with the atoms that are taken, and with those that are free.
use Rattle.std.proofs.Common.{◌≡◌, ◌≢◌, ◌↔◌, ◌∙◌, ◌*◌, ◌%◌, ◌^◌, ◌-◌, ◌<◌, ◌≤◌, ◌++◌, ◌∷◌, [], ℕ, List, All, Contains, arith, bit_and, bit_or, get_or, inl, inr, length, max, refl, slice_index, subst, sym, w64}
use Rattle.std.specs.Int.{bit_at, bit_not, trailing_zeros}
use Rattle.std.proofs.lemmas.Bool.{cases_eq}
use Rattle.std.proofs.lemmas.List.{get_or_default, get_or_push, length-map, length_push}
use Rattle.std.proofs.lemmas.List.Elements.{Contains-append_left, Contains-push, Contains-push_cases}
use Rattle.std.proofs.lemmas.Nat.Bits.{bit_at-lt, bit_at-trailing_zeros, bit_at-zero, bit_at_and, bit_at_clear_same, bit_at_not, bit_at_set_other, bit_at_set_same}
use Rattle.std.proofs.lemmas.Nat.{and_le_l}
use Rattle.smarts_mean.specs.Table.{HoldsIn}
use Rattle.smarts_parse.specs.Embedding.{BondEmbeds}
use Rattle.smarts_parse.specs.Pattern.{graph_of, term_of}
use Rattle.matcher.specs.Candidates.{AreCandidates, IsCandidate, IsTrueAt}
use Rattle.matcher.specs.declared.task.Task.{Task}
use Rattle.matcher.specs.Group.{group_at}
use Rattle.matcher.specs.Lean.{HasJust}
use Rattle.matcher.specs.Task.{Completes, IsPlaced, IsReadyTask}
use Rattle.matcher.proofs.Groups.{group_read, groups_room}
use Rattle.matcher.proofs.Partials.{IsPartial-from_completion, IsPartial-last, IsPartial-push}
use Rattle.matcher.proofs.Standing.{cannot_begin}

-- no atom is taken
pub none_used : HasJust 0 []
none_used a l = (λ t. absurd (omega (arith, bit_at-zero a, t)), λ w. absurd (omega (arith, w.1)))

-- one atom more
pub one_more : (used : ℕ) (front : List ℕ) (atom : ℕ) → atom < 64 → HasJust used front
    → HasJust (bit_or used (1 * 2 ^ atom % 2 ^ 64)) (front ++ atom ∷ [])
one_more used front atom l h a la = elim (cases_eq a atom) [
  | inl same ↦ (
    λ _. subst (Contains (front ++ atom ∷ [])) (sym same) (Contains-push front atom),
    λ _. subst (λ k. bit_at (bit_or used (1 * 2 ^ atom % 2 ^ 64)) k ≡ 1) (sym same)
        (bit_at_set_same w64 used atom l),
  )
  | inr apart ↦
      let kept = bit_at_set_other w64 used atom l a apart in (
        λ t. Contains-append_left front (atom ∷ []) a ((h a la).0 (sym kept ∙ t)),
        λ w. kept ∙ elim (Contains-push_cases front atom a w) [
          | inl old ↦ (h a la).1 old
          | inr new ↦ absurd (apart (sym new))
        ],
      )
]

-- a bit that the second word lacks
pub free_bit : (word used a : ℕ) → used < 2 ^ 64 → a < 64
    → bit_at (bit_and word (bit_not w64 used)) a ≡ 1 ↔ ((bit_at word a ≡ 1) × (bit_at used a ≢ 1))
free_bit word used a few l =
    let both = bit_at_and word (bit_not w64 used) a in
    let turned : bit_at (bit_not w64 used) a ≡ 1 - bit_at used a = bit_at_not w64 used a few l in
    let one = bit_at-lt word a in
    let two = bit_at-lt used a in
    (λ t. (omega arith, λ u. omega arith), λ w. let here = w.0 in let new = w.1 in omega arith)

-- an atom that is no candidate, or taken, cannot be the next
pub cannot_take : (task : Task) (words front : List ℕ) (used place atom : ℕ) → AreCandidates task words
    → HasJust used front → length front ≡ place → place < length task.graph.now.atoms.items → atom < 64
    → (IsCandidate words place atom → bit_at used atom ≢ 1 → ⊥) → Completes task (front ++ atom ∷ []) → ⊥
cannot_take task words front used place atom candidates just size few l none w =
    elim (cases_eq (bit_at used atom) 1) [
      | inl taken ↦ (IsPartial-last (HoldsIn task.table.now) (graph_of task.graph.now) task.mol.now front atom
          (IsPartial-from_completion (HoldsIn task.table.now) (graph_of task.graph.now) task.mol.now
          (front ++ atom ∷ []) w)).0 ((just atom l).0 taken)
      | inr new ↦ cannot_begin task words front place atom candidates size few (λ c. none c new) w
    ]

-- a word without its lowest bit is less
pub less_left : (left : ℕ) → left < 2 ^ 64 → left ≢ 0
    → bit_and left (bit_not w64 (1 * 2 ^ trailing_zeros w64 left % 2 ^ 64)) < left
less_left left few some =
    let bit = trailing_zeros w64 left in
    let lowest = bit_at-trailing_zeros w64 left (omega arith) few in
    let rest = bit_and left (bit_not w64 (1 * 2 ^ bit % 2 ^ 64)) in
    let le = and_le_l left (bit_not w64 (1 * 2 ^ bit % 2 ^ 64)) in
    let gone : bit_at rest bit ≡ 0 = bit_at_clear_same w64 left bit lowest.0 in
    elim (cases_eq rest left) [
      | inl same ↦ absurd (omega (arith, lowest.1, gone, subst (λ n. bit_at n bit ≡ 0) same gone))
      | inr apart ↦ omega arith
    ]

-- the next atom of no group
pub placed_more : (task : Task) (front : List ℕ) (place atom : ℕ) → length front ≡ place
    → place < length task.graph.now.atoms.items → IsPlaced task front → atom < length task.mol.now.atoms
    → (Contains front atom → ⊥) → IsTrueAt task place atom
    → All (λ bond. max bond.a bond.b ≡ length front → BondEmbeds task.mol.now (front ++ atom ∷ []) bond)
    (graph_of task.graph.now).bonds → group_at task place ≡ 0 → IsPlaced task (front ++ atom ∷ [])
placed_more task front place atom size few h l new true' bonds single =
    IsPartial-push (HoldsIn task.table.now) (graph_of task.graph.now) task.mol.now front atom h
    (omega (arith, length-map task.graph.now.atoms.items term_of)) l new
    (subst (λ k. IsTrueAt task k atom) (sym size) true') bonds
    (λ q lq nq nl. absurd (nl (subst (λ k. group_at task k ≡ 0) (sym size) single)))

-- the word of a place, as it is read
pub word_read : (task : Task) (words : List ℕ) (place word : ℕ) → IsReadyTask task
    → place < length task.graph.now.atoms.items → 256 ≤ length words → word ≡ get_or words place word
    → word ≡ slice_index words place
word_read task words place word ready l room is =
    let few = ready.searchable.few in
    let size = length-map task.graph.now.atoms.items term_of in
    is ∙ get_or_default words place word 0 (omega arith)

-- the next atom is one of the molecule's
pub next_in_range : (task : Task) (front : List ℕ) (atom : ℕ) → Completes task (front ++ atom ∷ [])
    → atom < length task.mol.now.atoms
next_in_range task front atom w = subst (λ a. a < length task.mol.now.atoms) (get_or_push front atom 0 (length front) refl)
    ((IsPartial-from_completion (HoldsIn task.table.now) (graph_of task.graph.now) task.mol.now (front ++ atom ∷ [])
    w).in_range (length front) 0 (omega (arith, length_push front atom)))

-- a place is of no group, as it is read
pub single_read : (task : Task) (place group : ℕ) → IsReadyTask task → place < length task.graph.now.atoms.items
    → group ≡ get_or task.graph.now.groups.items place group → group ≡ 0 → group_at task place ≡ 0
single_read task place group ready l is none = sym (group_read task place group (groups_room task place ready l) is) ∙ none
