use Rattle.std.proofs.Common.{◌≡◌, ◌∙◌, ◌+◌, [], ap, append-nil, arith, refl, subst, sym, ℕ}
use Rattle.session_run.specs.Taken.{IsKept}
use Rattle.session_run.proofs.Recorded.{taken_more, taken_past}
use Rattle.session_run.proofs.records.SdTexts.add.Goals as goal

pub returns-then-not-self : goal.returns-then-not-self
returns-then-not-self c records r taken part =
    let old = c.args.self.now in
    let k = c.copied-kept.result.0 in
    let t = c.copied-kept.result.1 in
    let total : c.push.new.self.total ≡ old.total + c.part_bytes.result = c.push.ensures.total in
    let is : IsKept c.push.new.self.total r k t.items =
    subst (λ (n : ℕ). IsKept n r k t.items) (sym total)
    (c.copied-kept.ensures (old.total + c.part_bytes.result) r (c.kept_of.ensures r c.args.text.now part)) in
    taken_more old _ records r k t c.push.result taken c.if-not-self.true
    (total ∙ ap (λ n. old.total + n) (c.part_bytes.ensures r part)) is c.push.ensures.ok c.push.ensures.err
    c.push.ensures.first c.push.ensures.few c.is_err-self.ensures.value

pub returns-else-not-self : goal.returns-else-not-self
returns-else-not-self c records r taken part =
    let old = c.args.self.now in
    taken_past old _ records r [] taken c.if-not-self.false
    (ap (λ n. old.total + n) (c.part_bytes.ensures r part)) refl (append-nil old.texts.items) (omega arith)
