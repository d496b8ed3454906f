-- The pins of some numbers over a part of a run, by the calls of these numbers in it.
use Rattle.std.proofs.Common.{◌≡◌, ◌⊎◌, ◌&&◌, ◌∙◌, ap, Bool, eq-eqb, false, if◌then◌else◌, inl, inr, List, [], ◌∷◌, refl, subst, sym, true, ℕ}
use Rattle.std.proofs.lemmas.Bool.{true≢false}
use Rattle.store_machine.specs.Laws.{PinsStay}
use Rattle.store_machine.specs.Machine.{Gives, Holds}
use Rattle.store_machine.specs.Runs.{IsCalm, IsRun, calls_of, is_call}
use Rattle.store_machine.specs.Searches.{KeepsPin}
use Rattle.store_machine.specs.declared.machine.Event.{Event}
use Rattle.store_machine.specs.declared.machine.Event.TheVariants.{Pin}
use Rattle.store_machine.specs.declared.machine.Reply.{Reply}
use Rattle.store_machine.specs.declared.machine.Reply.TheVariants.{Pinned}
use Rattle.store_machine.specs.declared.machine.State.{State}
use Rattle.store_machine.specs.declared.machine.Step.{Step}
use Rattle.hall.specs.Answers.{Takes, TheCalls}
use Rattle.hall.proofs.PinSteps.{pin-takes, step-before}

-- it was held before and not given back, or one of the calls took it
abbrev pub Kept : State → TheCalls → ℕ → ℕ → ℕ → Type 0
Kept s cs slot owner version = (Holds s slot owner version × KeepsPin slot cs) ⊎ Takes cs slot version

module _ (own : ℕ → Bool) where
  -- the calls after one step more
  own-more : (x : Step) (xs : List Step) → is_call x.event ≡ true → own x.owner ≡ true
      → calls_of own (x ∷ xs) ≡ (x.event, x.reply) ∷ calls_of own xs
  own-more x xs call mine =
      ap (λ (b : Bool). if b && own x.owner then (x.event, x.reply) ∷ calls_of own xs else calls_of own xs) call
      ∙ ap (λ (b : Bool). if b then (x.event, x.reply) ∷ calls_of own xs else calls_of own xs) mine

  other-more : (x : Step) (xs : List Step) → is_call x.event ≡ true → own x.owner ≡ false
      → calls_of own (x ∷ xs) ≡ calls_of own xs
  other-more x xs call mine =
      ap (λ (b : Bool). if b && own x.owner then (x.event, x.reply) ∷ calls_of own xs else calls_of own xs) call
      ∙ ap (λ (b : Bool). if b then (x.event, x.reply) ∷ calls_of own xs else calls_of own xs) mine

  own-step : (s : State) (x : Step) (cs : TheCalls) (slot owner version : ℕ) → Gives s x.owner x.event x.reply x.after
      → is_call x.event ≡ true → Kept x.after cs slot owner version
      → Kept s ((x.event, x.reply) ∷ cs) slot owner version
  own-step s x cs slot owner version g call (inr taken) = inr (inr taken)
  own-step s x cs slot owner version g call (inl h) =
      elim (step-before s x.owner x.event x.reply x.after slot owner version g call h.0) [
        | inl b ↦ inl (b.0, (b.1, h.1))
        | inr b ↦ inr (inl (b.0, b.1))
      ]

  other-step : (s : State) (x : Step) (cs : TheCalls) (slot owner version : ℕ)
      → Gives s x.owner x.event x.reply x.after → is_call x.event ≡ true → own x.owner ≡ false → own owner ≡ true
      → Kept x.after cs slot owner version → Kept s cs slot owner version
  other-step s x cs slot owner version g call mine is (inr taken) = inr taken
  other-step s x cs slot owner version g call mine is (inl h) =
      elim (step-before s x.owner x.event x.reply x.after slot owner version g call h.0) [
        | inl b ↦ inl (b.0, h.1)
        | inr b ↦ absurd (true≢false (sym is ∙ (ap own (sym b.2) ∙ mine)))
      ]

  -- a pin that is held at the end
  pub held-before : (xs : List Step) (s t : State) (slot owner version : ℕ) → IsRun s xs t → IsCalm xs
      → own owner ≡ true → Holds t slot owner version → Kept s (calls_of own xs) slot owner version
  held-before [] s t slot owner version run calm is h = inl (subst (λ u. Holds u slot owner version) run h, tt)
  held-before (x ∷ xs) s t slot owner version run calm is h =
      let rest = held-before xs x.after t slot owner version run.2 calm.1 is h in
      let gives : Gives s x.owner x.event x.reply x.after =
      subst (λ u. Gives u x.owner x.event x.reply x.after) run.0 run.1 in
      elim (own x.owner) as (λ b. own x.owner ≡ b → Kept s (calls_of own (x ∷ xs)) slot owner version) [
        | true ↦ λ e. subst (λ cs. Kept s cs slot owner version) (sym (own-more x xs calm.0 e))
            (own-step s x (calls_of own xs) slot owner version gives calm.0 rest)
        | false ↦ λ e. subst (λ cs. Kept s cs slot owner version) (sym (other-more x xs calm.0 e))
            (other-step s x (calls_of own xs) slot owner version gives calm.0 e is rest)
      ] refl

  -- The pin that the one call took: it is held at the end, and its slot was free of the caller's pins.
  pub record TookOne (s t : State) (slot version : ℕ) : Type 0 where
    pub owner : ℕ
    pub is : own owner ≡ true
    pub held : Holds t slot owner version
    pub apart : (other w : ℕ) → own other ≡ true → Holds s slot other w → ⊥

  module _ (stay : PinsStay) where
    over-one : (s : State) (x : Step) (slot other w : ℕ) → Gives s x.owner x.event x.reply x.after
        → is_call x.event ≡ true → x.before ≡ s → own x.owner ≡ false → own other ≡ true → Holds s slot other w
        → Holds x.after slot other w
    over-one s x slot other w gives call before mine is h = stay s x.after (x ∷ []) own slot other w
        (before, subst (λ u. Gives u x.owner x.event x.reply x.after) (sym before) gives, refl) (call, tt) is h
        (subst (KeepsPin slot) (sym (other-more x [] call mine)) tt)

    takes-here : (x : Step) (xs : List Step) (s t : State) (slot version : ℕ) → Gives s x.owner x.event x.reply x.after
        → IsRun x.after xs t → IsCalm xs → x.event ≡ Pin → x.reply ≡ Pinned slot version → calls_of own xs ≡ []
        → own x.owner ≡ true → TookOne s t slot version
    takes-here x xs s t slot version gives run calm event reply none mine =
        let g : Gives s x.owner Pin (Pinned slot version) x.after =
        subst (λ r. Gives s x.owner Pin r x.after) reply (subst (λ e. Gives s x.owner e x.reply x.after) event gives) in
        let there = pin-takes s x.owner slot version x.after g.1 (eq-eqb slot slot refl) in
        record {
          owner = x.owner;
          is = mine;
          held = stay x.after t xs own slot x.owner version run calm mine there.1
              (subst (KeepsPin slot) (sym none) tt);
          apart = λ other w is h. absurd (cc (there.0, h));
        }

    pub took-one : (xs : List Step) (s t : State) (slot version : ℕ) → IsRun s xs t → IsCalm xs
        → calls_of own xs ≡ (Pin, Pinned slot version) ∷ [] → TookOne s t slot version
    took-one [] s t slot version run calm calls = absurd (cc calls)
    took-one (x ∷ xs) s t slot version run calm calls =
        let gives : Gives s x.owner x.event x.reply x.after =
        subst (λ u. Gives u x.owner x.event x.reply x.after) run.0 run.1 in
        elim (own x.owner) as (λ b. own x.owner ≡ b → TookOne s t slot version) [
          | true ↦ λ e.
              let here : (x.event, x.reply) ∷ calls_of own xs ≡ (Pin, Pinned slot version) ∷ [] =
              sym (own-more x xs calm.0 e) ∙ calls in
              let first : (x.event, x.reply) ≡ (Pin, Pinned slot version) = cc here in
              let rest : calls_of own xs ≡ [] = cc here in
              takes-here x xs s t slot version gives run.2 calm.1 (ap (λ (c : Event × Reply). c.0) first)
              (ap (λ (c : Event × Reply). c.1) first) rest e
          | false ↦ λ e.
              let rest = took-one xs x.after t slot version run.2 calm.1 (sym (other-more x xs calm.0 e) ∙ calls) in
              record {
                owner = rest.owner;
                is = rest.is;
                held = rest.held;
                apart = λ other w is h. rest.apart other w is
                    (over-one s x slot other w gives calm.0 run.0 e is h);
              }
        ] refl
