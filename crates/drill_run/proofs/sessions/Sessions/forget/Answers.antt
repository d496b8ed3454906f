use Rattle.std.proofs.Common.{◌≡◌, ◌≤◌, ◌<◌, ◌++◌, ◌∙◌, add-one, ap, arith, drop, get_or, length, length-set, List, set, subst, sym, take, ℕ}
use Rattle.std.proofs.Math.Seq.{take-append_seam}
use Rattle.session_run.specs.declared.respond.Responder.{Responder}
use Rattle.drill_run.specs.Talks.{IsSessionOf}
use Rattle.drill_run.proofs.Making.{AreForgotten, forgotten-all, forgotten-more, get-all, keeps-none, same-none, set-all}
use Rattle.drill_run.proofs.sessions.Sessions.forget.Goals as goal

pub loop-responder-preserved : goal.loop-responder-preserved
loop-responder-preserved c =
    let i = c.loop-responder.invariant in
    let k = c.loop-responder.responder-index in
    let items = c.loop-responder.responder-items in
    let whole : length c.deref_mut-responder-items.result.now ≡ length c.args.self.now.responders.items =
    ap (λ (l : List Responder). length l) c.deref_mut-responder-items.ensures.value in
    let less : k < length items = omega (arith, c.loop-responder-test.true, whole, i.number) in
    let was : IsSessionOf c.args.self.now.settings (get_or items k c.responder-item.result) =
    subst (IsSessionOf c.args.self.now.settings) c.responder-item.is (get-all (IsSessionOf c.args.self.now.settings)
    items k c.responder-item.result i.fit less c.responder-item.is) in
    record {
      fit = set-all (IsSessionOf c.args.self.now.settings) items k c.forget.new.self i.fit
          (c.forget.ensures.fit was.0, c.forget.ensures.settings ∙ was.1);
      number = length-set items k c.forget.new.self ∙ i.number;
      none = subst (λ (n : ℕ). AreForgotten n (set items k c.forget.new.self)) (sym (add-one k))
          (forgotten-more k items c.forget.new.self less i.none
          (keeps-none c.forget.new.self c.forget.ensures.none c.forget.ensures.unwatched));
    }

pub returns-clause-none : goal.returns-clause-none
returns-clause-none c =
    let items = c.loop-responder.responder-items in
    let old = c.args.self.now.responders in
    let whole : length c.deref_mut-responder-items.result.now ≡ length old.items =
    ap (λ (l : List Responder). length l) c.deref_mut-responder-items.ensures.value in
    let all : length items ≤ c.loop-responder.responder-index =
    omega (arith, c.loop-responder-test.false, whole, c.loop-responder.invariant.number) in
    let many : length items ≡ old.len =
    omega (arith, c.deref_mut-responder-items.ensures.len, whole, c.loop-responder.invariant.number) in
    let same : take old.len (items ++ drop (length items) old.items) ≡ items =
    subst (λ (n : ℕ). take n (items ++ drop (length items) old.items) ≡ items) many
    (take-append_seam items (drop (length items) old.items)) in
    rw same (forgotten-all c.loop-responder.responder-index items all c.loop-responder.invariant.none
    ∙ same-none items old.items c.loop-responder.invariant.number)
