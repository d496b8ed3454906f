use Rattle.std.proofs.Common.{ℕ, List, ◌++◌, sym, ◌∙◌, ap, subst, append_assoc}
use Rattle.smarts_words.specs.Prims.{turn_text, mark_text}
use Rattle.smarts_words.specs.Follow.{TurnEnds}
use Rattle.smarts_words.proofs.Stereos.{longest}
use Rattle.smarts_words.proofs.stereo.after_stereo.Goals as goal

pub returns : goal.returns
returns c =
    let t = c.after_turn.ensures in
    let m = c.after_mark.ensures in
    let rest = c.after_mark.result.now in (
      record { turn = t.0; unsure = m.0 },
      t.1,
      t.2 ∙ ap (λ v. turn_text t.0 ++ v) m.1 ∙ sym (append_assoc (turn_text t.0) (mark_text m.0) rest),
      longest t.0 m.0 rest t.1 (subst (λ (v : List ℕ). TurnEnds t.0 v) m.1 t.3) m.2,
    )
