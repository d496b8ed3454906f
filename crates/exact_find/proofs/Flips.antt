-- Pairs the other way round, and one pair more.
use Rattle.std.proofs.Common.{◌≡◌, ◌≢◌, ℕ, ◌<◌, ◌⊎◌, inl, inr, List, [], ◌∷◌, ◌++◌, length, get_or, sym, ap, ◌∙◌, subst, arith, length-append}
use Rattle.std.proofs.lemmas.Bool.{cases_lt}
use Rattle.std.proofs.lemmas.List.{length-map, get_or-map, get_or_append_left}
use Rattle.std.proofs.Math.Seq.{get_or-append_seam}
use Rattle.exact_find.specs.Pairs.{Has, IsPaired, flip}
use Rattle.exact_find.proofs.Steps.{Turned}

abbrev turn : ℕ × ℕ → ℕ × ℕ
turn p = (p.1, p.0)

pub length-flip : (ps : List (ℕ × ℕ)) → length (flip ps) ≡ length ps
length-flip ps = length-map ps turn

pub flip-at : (ps : List (ℕ × ℕ)) (i : ℕ) → i < length ps
    → get_or (flip ps) i (0, 0) ≡ ((get_or ps i (0, 0)).1, (get_or ps i (0, 0)).0)
flip-at ps i within = get_or-map turn ps i (0, 0) (0, 0) within

pub flipped : (ps : List (ℕ × ℕ)) → Turned ps (flip ps)
flipped ps = record {
  there = λ a b has. (has.0, subst (λ n. has.0 < n) (sym (length-flip ps)) has.1, flip-at ps has.0 has.1 ∙ ap turn has.2);
  back = λ a b has.
      let within : has.0 < length ps = subst (λ n. has.0 < n) (length-flip ps) has.1 in
      (has.0, within, ap turn (sym (flip-at ps has.0 within) ∙ has.2));
}

pub none-paired_back : (ps : List (ℕ × ℕ)) (a : ℕ) → ((k : ℕ) → k < length ps → (get_or ps k (0, 0)).1 ≢ a)
    → IsPaired (flip ps) a → ⊥
none-paired_back ps a none has =
    let at = (flipped ps).back has.0 a has.1 in
    none at.0 at.1 (ap (λ (p : ℕ × ℕ). p.1) at.2)

-- one pair more
pub has-old : (ps : List (ℕ × ℕ)) (a b c d : ℕ) → Has ps c d → Has (ps ++ (a, b) ∷ []) c d
has-old ps a b c d has = (
  has.0,
  omega (arith, has.1, length-append ps ((a, b) ∷ [])),
  get_or_append_left ps ((a, b) ∷ []) (0, 0) has.0 has.1 ∙ has.2,
)

pub last-at : (ps : List (ℕ × ℕ)) (a b : ℕ) → get_or (ps ++ (a, b) ∷ []) (length ps) (0, 0) ≡ (a, b)
last-at ps a b = get_or-append_seam ps (a, b) [] (0, 0)

pub has-last : (ps : List (ℕ × ℕ)) (a b : ℕ) → Has (ps ++ (a, b) ∷ []) a b
has-last ps a b = (length ps, omega (arith, length-append ps ((a, b) ∷ [])), last-at ps a b)

pub has-either : (ps : List (ℕ × ℕ)) (a b c d : ℕ) → Has (ps ++ (a, b) ∷ []) c d
    → Has ps c d ⊎ ((a ≡ c) × (b ≡ d))
has-either ps a b c d has =
    elim (cases_lt has.0 (length ps)) [
      | inl old ↦ inl (has.0, old, sym (get_or_append_left ps ((a, b) ∷ []) (0, 0) has.0 old) ∙ has.2)
      | inr last ↦
          let long = length-append ps ((a, b) ∷ []) in
          let at : has.0 ≡ length ps = omega (arith, has.1) in
          let pair : ℕ × ℕ = (a, b) in
          let same : pair ≡ (c, d) = sym (last-at ps a b) ∙ ap (λ k. get_or (ps ++ (a, b) ∷ []) k (0, 0)) (sym at)
          ∙ has.2 in
          inr (ap (λ (p : ℕ × ℕ). p.0) same, ap (λ (p : ℕ × ℕ). p.1) same)
    ]
