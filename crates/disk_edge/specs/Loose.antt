-- A place at which an image differs from the content may hold any byte.
use Rattle.std.proofs.Common.{◌≡◌, ◌≢◌, ◌⊎◌, inl, inr, ◌<◌, ◌≤◌, ℕ, ◌+◌, List, [], ◌∷◌, length, get_or, take, drop, Some, sym, ◌∙◌, ap, subst, arith}
use Rattle.std.proofs.lemmas.List.{drop_more, drop_all}
use Rattle.std.proofs.lemmas.Bool.{cases_lt}
use Rattle.disk_edge.specs.Disk.{Torn}
use Rattle.disk_edge.specs.Image.{last_synced}
use Rattle.disk_edge.specs.MayRemain.{MayRemain, WrittenAt}
use Rattle.disk_edge.specs.Medium.{Medium, Call, replay, Images}
use Rattle.disk_edge.specs.MediumLaws.{replay_is_image}
use Rattle.disk_edge.specs.Remaining.{remains, is_left}
use Rattle.disk_edge.specs.TornBytes.{bytes_of}

one_at : (c : List ℕ) (at : ℕ) → at < length c → take 1 (drop at c) ≡ get_or c at 0 ∷ []
one_at c at lt = ap (λ (l : List ℕ). take 1 l) (drop_more c at 0 lt)

none_at : (c : List ℕ) (at : ℕ) → length c ≤ at → take 1 (drop at c) ≡ []
none_at c at le = ap (λ (l : List ℕ). take 1 l) (drop_all at c le)

module _ (first : List ℕ) (calls : List Call) (c e : List ℕ) (at : ℕ)
    (differs : take 1 (drop at c) ≢ take 1 (drop at (replay first calls)))
    (torn : Torn at 1 c e) (m : MayRemain first calls c) (r : MayRemain first calls (replay first calls)) where
  no_longer : length e ≤ length c ⊎ (length c ≤ at) × (length e ≤ at + 1)
  no_longer = elim (cases_lt at (length c)) [
    | inl lt ↦ inl (omega (arith, lt, torn.no_longer))
    | inr le ↦ inr (le, omega (arith, le, torn.no_longer))
  ]

  within_end : length c ≤ at → at < length (replay first calls)
  within_end le = elim (cases_lt at (length (replay first calls))) [
    | inl lt ↦ lt
    | inr none ↦ absurd (differs (none_at c at le ∙ sym (none_at (replay first calls) at none)))
  ]

  synced_at : (i : ℕ) → i < length (last_synced first calls) → (WrittenAt calls i → ⊥) → i ≡ at → ⊥
  synced_at i lt out is =
      let at_c : i < length c = omega (arith, lt, m.no_shorter) in
      let at_r : i < length (replay first calls) = omega (arith, lt, r.no_shorter) in
      differs (ap (λ (k : ℕ). take 1 (drop k c)) (sym is) ∙ one_at c i at_c
      ∙ ap (λ (b : ℕ). b ∷ []) (m.outside i lt out ∙ sym (r.outside i lt out))
      ∙ sym (one_at (replay first calls) i at_r) ∙ ap (λ (k : ℕ). take 1 (drop k (replay first calls))) is)

  outside : (i : ℕ) → i < length (last_synced first calls) → (WrittenAt calls i → ⊥) → get_or e i 0
      ≡ get_or (last_synced first calls) i 0
  outside i lt out = elim (cases_lt i at) [
    | inl below ↦ (bytes_of at 1 c e torn).below i (omega (arith, lt, m.no_shorter)) below ∙ m.outside i lt out
    | inr le ↦ elim (cases_lt at i) [
      | inl above ↦ (bytes_of at 1 c e torn).above i (omega (arith, lt, m.no_shorter)) (omega (arith, above))
          ∙ m.outside i lt out
      | inr ge ↦ absurd (synced_at i lt out (omega (arith, le, ge)))
    ]
  ]

  remains_torn : MayRemain first calls e
  remains_torn = record {
    no_shorter = omega (arith, m.no_shorter, torn.no_shorter);
    no_longer = elim no_longer [
      | inl same ↦ omega (arith, same, m.no_longer)
      | inr past ↦ omega (arith, past.1, within_end past.0, r.no_longer)
    ];
    outside = outside;
  }

pub loose_at : (d : Medium) (l c e : List ℕ) (at : ℕ) → Some (replay d.first d.calls) ≡ Some l
    → Images d.first d.calls c → take 1 (drop at c) ≢ take 1 (drop at l) → Torn at 1 c e → Images d.first d.calls e
loose_at d l c e at told image differs torn =
    let same : replay d.first d.calls ≡ l = cc told in
    is_left d.first d.calls e (remains_torn d.first d.calls c e at
    (subst (λ (k : List ℕ). take 1 (drop at c) ≢ take 1 (drop at k)) (sym same) differs) torn
    (remains d.first d.calls c image)
    (remains d.first d.calls (replay d.first d.calls) (replay_is_image d.first d.calls)))
