use Rattle.std.proofs.Common.{◌∙◌, ◌++◌, List, ℕ, length, inl, inr, refl, sym, ap, arith}
use Rattle.std.proofs.lemmas.List.{append-nil}
use Rattle.journal_core.specs.Fronts.{behind_gate}
use Rattle.compact_core.proofs.Tails.{tail_nil, length-behind_gate}
use Rattle.compact_core.proofs.carry.Carry.start.Goals as goal

pub returns-in-Ok-clause-ok : goal.returns-in-Ok-clause-ok
returns-in-Ok-clause-ok g c l told =
    let s = c.in-Ok.ensures.ok l told in
    let h = c.args.header in
    record {
      gate = s.gate;
      shut = s.shut;
      gathered = record {
        written = behind_gate h;
        stands = s.stands;
        is = ap (λ (l : List ℕ). behind_gate h ++ l) c.new.ensures.items ∙ append-nil (behind_gate h)
            ∙ sym (tail_nil h);
      };
      place = omega (arith, ap length (tail_nil h), length-behind_gate h);
      bases = refl;
      fit = tt;
      fit_commits = tt;
    }

pub returns-in-Err-Failed-clause-not_open : goal.returns-in-Err-Failed-clause-not_open
returns-in-Err-Failed-clause-not_open g c l told x i closed = elim (c.in-Err-Failed.ensures.refused l told) [
  | inl shut ↦
      let k = c.begin.ensures.told l told in
      let image = g.met.D.Disk.content_is_image c.begin.new.disk k.0 k.1 in
      (k.0, image, shut k.0 image)
  | inr stays ↦ (x, stays x i, closed)
]

pub returns-in-Err-NoMemory-clause-not_open : goal.returns-in-Err-NoMemory-clause-not_open
returns-in-Err-NoMemory-clause-not_open g c l told x i closed = elim (c.in-Err-NoMemory.ensures.refused l told) [
  | inl shut ↦
      let k = c.begin.ensures.told l told in
      let image = g.met.D.Disk.content_is_image c.begin.new.disk k.0 k.1 in
      (k.0, image, shut k.0 image)
  | inr stays ↦ (x, stays x i, closed)
]
