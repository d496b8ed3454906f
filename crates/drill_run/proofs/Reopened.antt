-- What a reopening leaves of the history.
use Rattle.std.proofs.Common.{◌≡◌, ◌∙◌, ◌⊎◌, ap, append_assoc, inl, inr, List, [], ◌∷◌, MatchOption, Option, Some, subst, sym, ℕ}
use Rattle.store_machine.specs.History.{grown, rebase}
use Rattle.store_machine.specs.Kept.{BasesArePast, IsPast}
use Rattle.store_machine.specs.Laws.{RunsStaySound}
use Rattle.store_machine.specs.Machine.{CrashGives, Gives, IsWhole, OpenGives, Recovers}
use Rattle.store_machine.specs.Rebases.{RebasesGrow}
use Rattle.store_machine.specs.Told.{RunsAdd, acknowledged}
use Rattle.store_machine.specs.declared.machine.Change.{Change}
use Rattle.store_machine.specs.declared.machine.Copying.{Copying}
use Rattle.store_machine.specs.declared.machine.Event.{Event}
use Rattle.store_machine.specs.declared.machine.History.{History}
use Rattle.store_machine.specs.declared.machine.Reply.{Reply}
use Rattle.store_machine.specs.declared.machine.Reply.TheVariants.{Crashed, Opened}
use Rattle.store_machine.specs.declared.machine.State.{State}
use Rattle.store_machine.specs.declared.machine.Step.{Step}
use Rattle.drill_run.specs.Truths.{ReopeningsKeep}

crash-recovers : (s : State) (r : Reply) (t : State) → CrashGives s r t → Recovers s t.history t.generation
crash-recovers s Crashed t g = g.0
crash-recovers s _ t g = absurd g

open-keeps : (s : State) (r : Reply) (t : State) → OpenGives s r t → t.history ≡ s.history
open-keeps s (Opened commits) t g = ap (λ (x : State). x.history) g.8
open-keeps s _ t g = absurd g

-- a copy that may take the disk's place begins at a version that the history has
finish-past : (s : State) (v : ℕ) → BasesArePast s → s.finish ≡ Some v → IsPast s v
finish-past s v past is = subst (λ (o : Option ℕ). MatchOption o (Unit {0}) (IsPast s)) is past.finish

whole-past : (s : State) (v : ℕ) → BasesArePast s → IsWhole s v → IsPast s v
whole-past s v past is =
    subst (λ (o : Option Copying). MatchOption o (Unit {0}) (λ copy. IsPast s copy.version)) is past.copy

-- the history from a version on, or this with the commit in doubt
abbrev Leaves : State → History → Type 0
Leaves s h = (v : ℕ) × IsPast s v
    × ((h ≡ rebase s.history v)
    ⊎ ((c : Change) × (s.doubt ≡ Some c) × (h ≡ rebase (grown s.history (c ∷ [])) v)))

crash-leaves : RebasesGrow → (s : State) → BasesArePast s → (h : History) (generation : ℕ) → Recovers s h generation
    → Leaves s h
crash-leaves grow s past h generation (inl (inl e)) = (s.base, past.base, inl e.0)
crash-leaves grow s past h generation (inl (inr (inl d))) =
    (s.base, past.base, inr (d.0, d.1, d.2 ∙ sym (grow s.history (d.0 ∷ []) s.base past.base.1)))
crash-leaves grow s past h generation (inl (inr (inr f))) = (f.0, finish-past s f.0 past f.1, inl f.2.0)
crash-leaves grow s past h generation (inr w) = (w.0, whole-past s w.0 past w.1, inl w.2.0)

pub reopenings-keep : RunsAdd → RunsStaySound → RebasesGrow → ReopeningsKeep
reopenings-keep add stay grow s t u steps crash opening sound run calm (at, crashes, (next, opens, end)) fell woke =
    let crashed = subst (λ (e : Event). Gives crash.before crash.owner e crash.reply crash.after) fell crashes in
    let o : Step = opening in
    let opened = subst (λ (e : Event). Gives o.before o.owner e o.reply o.after) woke opens in
    let leaves : Leaves t crash.after.history =
    crash-leaves grow t (stay s t steps run sound).bases crash.after.history crash.after.generation
    (subst (λ (x : State). Recovers x crash.after.history crash.after.generation) at
    (crash-recovers crash.before crash.reply crash.after crashed)) in
    let left : u.history ≡ crash.after.history =
    ap (λ (x : State). x.history) end
    ∙ (open-keeps o.before o.reply o.after opened ∙ ap (λ (x : State). x.history) next) in
    let grew : t.history ≡ grown s.history (acknowledged steps) = add s t steps run calm in
    let v = leaves.0 in (
      v,
      leaves.1,
      elim leaves.2 [
        | inl e ↦ inl (left ∙ (e ∙ ap (λ (h : History). rebase h v) grew))
        | inr k ↦ inr (
          k.0,
          k.1,
          left
              ∙ (k.2
              ∙ (ap (λ (h : History). rebase (grown h (k.0 ∷ [])) v) grew
              ∙ ap (λ (l : List Change). rebase (record s.history { commits = l }) v)
              (append_assoc s.history.commits (acknowledged steps) (k.0 ∷ [])))),
        )
      ],
    )
