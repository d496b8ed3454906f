-- Candidates of a place: what an embedding keeps of them.
use Rattle.std.proofs.Common.{◌≡◌, ◌↔◌, ◌++◌, ◌∷◌, [], ◌∙◌, ◌+◌, ◌*◌, ◌/◌, ◌%◌, ◌<◌, ℕ, List, ap, arith, get_or, length, refl, slice_index, subst, sym}
use Rattle.std.specs.Int.{bit_at}
use Rattle.std.proofs.lemmas.List.{get_or_default, get_or_push, length-map, length_push}
use Rattle.smarts_parse.specs.Pattern.{graph_of, term_of}
use Rattle.chem_core.specs.Molecule.{Molecule}
use Rattle.smarts_parse.specs.Pattern.{GraphTerm}
use Rattle.smarts_parse.specs.Truth.{AtomTrue}
use Rattle.matcher.specs.Partial.{CanComplete, Parts}
use Rattle.matcher.specs.Candidates.{AreCandidates, AreTruths, AreTruthsIn, IsCandidate}
use Rattle.matcher.specs.declared.task.Task.{Task}
use Rattle.matcher.specs.Task.{Completes, Embeds}
use Rattle.matcher.proofs.Partials.{index_front}

-- a word of a place, as it is read
pub block_read : (words : List ℕ) (block place word : ℕ) → place < 256 → 256 * block + place < length words
    → word ≡ get_or words (256 * block + place) word
    → (i : ℕ) → i < 64 → bit_at word i ≡ 1 ↔ IsCandidate words place (64 * block + i)
block_read words block place word few room is i l =
    let read : word ≡ slice_index words (256 * block + place) = is
    ∙ get_or_default words (256 * block + place) word 0 room in
    let at : 256 * ((64 * block + i) / 64) + place ≡ 256 * block + place = omega arith in
    let bit : (64 * block + i) % 64 ≡ i = omega arith in
    let same : bit_at (slice_index words (256 * ((64 * block + i) / 64) + place)) ((64 * block + i) % 64)
    ≡ bit_at word i =
    ap (λ k. bit_at (slice_index words k) ((64 * block + i) % 64)) at
    ∙ ap (bit_at (slice_index words (256 * block + place))) bit ∙ ap (λ w. bit_at w i) (sym read) in
    (λ t. same ∙ t, λ t. sym same ∙ t)

-- a place stands at none but its candidates
pub cannot_stand : (task : Task) (words image : List ℕ) (place atom : ℕ) → AreCandidates task words → Embeds task image
    → place < length task.graph.now.atoms.items → (IsCandidate words place atom → ⊥) → slice_index image place ≡ atom → ⊥
cannot_stand task words image place atom candidates e l none is =
    let size : length image ≡ length task.graph.now.atoms.items = e.one_each
    ∙ length-map task.graph.now.atoms.items term_of in
    none (subst (IsCandidate words place) is (candidates.whole image e place (omega arith)))

-- and the next place at none but its candidates
pub cannot_begin : (task : Task) (words front : List ℕ) (place atom : ℕ) → AreCandidates task words
    → length front ≡ place → place < length task.graph.now.atoms.items → (IsCandidate words place atom → ⊥)
    → Completes task (front ++ atom ∷ []) → ⊥
cannot_begin task words front place atom candidates size l none w =
    let there : slice_index ((front ++ atom ∷ []) ++ w.0) (length front) ≡ atom =
    index_front (front ++ atom ∷ []) w.0 (length front) (omega (arith, length_push front atom))
    ∙ get_or_push front atom 0 (length front) refl in
    cannot_stand task words ((front ++ atom ∷ []) ++ w.0) place atom candidates w.1 l none
    (ap (λ k. slice_index ((front ++ atom ∷ []) ++ w.0) k) (sym size) ∙ there)

-- the same where the candidates are the atoms at which the expressions are true
pub no_begin : (parts : Parts) (g : GraphTerm) (m : Molecule) (words front : List ℕ) (place atom : ℕ)
    → AreTruthsIn parts g m words → length front ≡ place → place < length g.atoms → atom < length m.atoms
    → (IsCandidate words place atom → ⊥) → CanComplete parts g m (front ++ atom ∷ []) → ⊥
no_begin parts g m words front place atom truths size l r none w =
    let there : slice_index ((front ++ atom ∷ []) ++ w.0) place ≡ atom =
    ap (λ k. slice_index ((front ++ atom ∷ []) ++ w.0) k) (sym size)
    ∙ index_front (front ++ atom ∷ []) w.0 (length front) (omega (arith, length_push front atom))
    ∙ get_or_push front atom 0 (length front) refl in
    none ((truths place atom l r).1 (λ e get. subst (AtomTrue parts e m) there (w.1.atoms place e get)))

-- the atoms at which the expressions are true are candidates
pub candidates_of : (task : Task) (words : List ℕ) → AreTruths task words → AreCandidates task words
candidates_of task words truths =
    let size : length (graph_of task.graph.now).atoms ≡ length task.graph.now.atoms.items =
    length-map task.graph.now.atoms.items term_of in
    record {
      held = λ p a l r. (truths p a (omega arith) r).0;
      whole = λ image e p l.
          let few : p < length (graph_of task.graph.now).atoms = omega (arith, e.one_each) in
          (truths p (slice_index image p) few (e.in_range p 0 l)).1 (e.atoms p);
    }
