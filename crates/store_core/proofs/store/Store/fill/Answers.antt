use Rattle.std.proofs.Common.{◌≡◌, ◌+◌, ◌++◌, ◌∙◌, All, ap, arith, Bool, false, length, length-append, List, [], ◌∷◌, None, Option, refl, Some, subst, sym, true, ℕ}
use Rattle.std.proofs.lemmas.List.Elements.{All-nil}
use Rattle.record_versions.specs.Entries.{chain_of}
use Rattle.store_machine.specs.Answers.{from_on}
use Rattle.store_machine.specs.History.{IsId, snapshot}
use Rattle.store_machine.specs.Machine.{IsPage}
use Rattle.store_core.specs.Kept.{IsCandidate, IsFoundAt, IsNextId}
use Rattle.store_core.specs.Records.{PageTerm, RecordTerm, Shared, founds}
use Rattle.store_core.specs.Stored.{StoreTerm}
use Rattle.store_core.specs.Waiting.{values}
use Rattle.store_core.proofs.Fills.{GoesOn, found-id, full-page, goes-same, in-range, last-page, passed-by, put-on, step-more}
use Rattle.store_core.proofs.Stepped.{no-steps}
use Rattle.store_core.proofs.Waits.{few-first, first-each, gathered, gathered-each, gathered-few, same-founds}
use Rattle.store_core.proofs.store.Store.fill.Goals as goal
use Rattle.store_core.proofs.store.Store.fill.Goals.{in-Some-record_at+else-records-len+in_ok-gather, in_default-record_at}

as-wanted : (wanted want : List Bool) (store new : StoreTerm) (place : ℕ) (o : Option ℕ) → wanted ≡ want → store ≡ new
    → IsNextId wanted place store.kept.chains o → IsNextId want place new.kept.chains o
as-wanted wanted want store new place o same is next =
    subst (λ w. IsNextId w place new.kept.chains o) same
    (subst (λ (t : StoreTerm). IsNextId wanted place t.kept.chains o) is next)

pub loop-next-init : goal.loop-next-init
loop-next-init g c =
    let empty = ap (λ (l : List Shared). l ++ c.new-waiting.result) c.requires.empty ∙ c.new-waiting.ensures in
    record {
      later = omega arith;
      finder = c.finder-finder.ensures ∙ ap (λ (t : StoreTerm). t.kept.chains) c.self.view_is;
      goes_on = λ s h all found. ap (λ l. founds l ++ from_on c.args.from all) (sym empty);
      taken = λ s h. no-steps s c.args.from c.args.steps.now c.args.want.now;
      few = omega (
        arith,
        ap (λ (l : List Shared). length l) c.requires.empty,
        ap (λ (l : List Shared). length l) c.new-waiting.ensures,
      );
      in_range = subst (λ l. All (λ (r : RecordTerm). IsId r.id) (values l)) (sym empty)
          (All-nil (λ (r : RecordTerm). IsId r.id));
      room = refl;
    }

pub returns-in_err-share-clause-few : goal.returns-in_err-share-clause-few
returns-in_err-share-clause-few g c =
    few-first c.loop-next.page.records c.loop-next.waiting c.share.new.page.records c.args.limit
    c.share.ensures.first c.loop-next.invariant.few

pub returns-in_err-share-clause-in_range : goal.returns-in_err-share-clause-in_range
returns-in_err-share-clause-in_range g c =
    first-each (λ (r : RecordTerm). IsId r.id) c.share.new.page.records
    (c.loop-next.page.records ++ c.loop-next.waiting) c.share.ensures.first c.loop-next.invariant.in_range

pub returns-in_err-share-clause-steps : goal.returns-in_err-share-clause-steps
returns-in_err-share-clause-steps g c =
    let law = c.laws.ensures in
    let next = as-wanted c.of-wanted.result c.args.want.now _ _ c.loop-next.place (Some c.in-Some.next.now.id)
    c.of-wanted.ensures c.self.view_is c.in-Some.ensures.id in
    λ s h. (step-more law.read law.states c.one_structure.ensures c.args.self.now c.args.pin.now c.requires.held
    c.args.want.now c.args.from c.loop-next.place c.in-Some.next.now.id c.args.steps.now c.loop-next.steps
    c.record_at.new.steps c.loop-next.invariant.later next c.record_at.ensures.steps
    c.loop-next.invariant.taken s h).steps

pub returns-then-records-len-clause-few : goal.returns-then-records-len-clause-few
returns-then-records-len-clause-few g c =
    few-first c.loop-next.page.records c.loop-next.waiting c.share.new.page.records c.args.limit
    c.share.ensures.first c.loop-next.invariant.few

pub returns-then-records-len-clause-in_range : goal.returns-then-records-len-clause-in_range
returns-then-records-len-clause-in_range g c =
    first-each (λ (r : RecordTerm). IsId r.id) c.share.new.page.records
    (c.loop-next.page.records ++ c.loop-next.waiting) c.share.ensures.first c.loop-next.invariant.in_range

pub returns-then-records-len-clause-steps : goal.returns-then-records-len-clause-steps
returns-then-records-len-clause-steps g c =
    let law = c.laws.ensures in
    let next = as-wanted c.of-wanted.result c.args.want.now _ _ c.loop-next.place (Some c.in-Some.next.now.id)
    c.of-wanted.ensures c.self.view_is c.in-Some.ensures.id in
    λ s h. (step-more law.read law.states c.one_structure.ensures c.args.self.now c.args.pin.now c.requires.held
    c.args.want.now c.args.from c.loop-next.place c.in-Some.next.now.id c.args.steps.now c.loop-next.steps
    c.record_at.new.steps c.loop-next.invariant.later next c.record_at.ensures.steps
    c.loop-next.invariant.taken s h).steps

pub returns-in_err-gather-clause-few : goal.returns-in_err-gather-clause-few
returns-in_err-gather-clause-few g c =
    few-first c.loop-next.page.records c.loop-next.waiting c.gather.new.page.records c.args.limit
    c.in_err-gather.ensures.err
    c.loop-next.invariant.few

pub returns-in_err-gather-clause-in_range : goal.returns-in_err-gather-clause-in_range
returns-in_err-gather-clause-in_range g c =
    first-each (λ (r : RecordTerm). IsId r.id) c.gather.new.page.records
    (c.loop-next.page.records ++ c.loop-next.waiting) c.in_err-gather.ensures.err c.loop-next.invariant.in_range

pub returns-in_err-gather-clause-steps : goal.returns-in_err-gather-clause-steps
returns-in_err-gather-clause-steps g c =
    let law = c.laws.ensures in
    let next = as-wanted c.of-wanted.result c.args.want.now _ _ c.loop-next.place (Some c.in-Some.next.now.id)
    c.of-wanted.ensures c.self.view_is c.in-Some.ensures.id in
    λ s h. (step-more law.read law.states c.one_structure.ensures c.args.self.now c.args.pin.now c.requires.held
    c.args.want.now c.args.from c.loop-next.place c.in-Some.next.now.id c.args.steps.now c.loop-next.steps
    c.record_at.new.steps c.loop-next.invariant.later next c.record_at.ensures.steps
    c.loop-next.invariant.taken s h).steps

pub returns-in_err-share-2-clause-few : goal.returns-in_err-share-2-clause-few
returns-in_err-share-2-clause-few g c =
    few-first c.loop-next.page.records c.loop-next.waiting c.share-2.new.page.records c.args.limit
    c.share-2.ensures.first c.loop-next.invariant.few

pub returns-in_err-share-2-clause-in_range : goal.returns-in_err-share-2-clause-in_range
returns-in_err-share-2-clause-in_range g c =
    first-each (λ (r : RecordTerm). IsId r.id) c.share-2.new.page.records
    (c.loop-next.page.records ++ c.loop-next.waiting) c.share-2.ensures.first c.loop-next.invariant.in_range

pub returns-clause-few : goal.returns-clause-few
returns-clause-few g c =
    few-first c.loop-next.page.records c.loop-next.waiting c.share-2.new.page.records c.args.limit
    c.share-2.ensures.first c.loop-next.invariant.few

pub returns-clause-in_range : goal.returns-clause-in_range
returns-clause-in_range g c =
    first-each (λ (r : RecordTerm). IsId r.id) c.share-2.new.page.records
    (c.loop-next.page.records ++ c.loop-next.waiting) c.share-2.ensures.first c.loop-next.invariant.in_range

pub returns-then-records-len-clause-page : goal.returns-then-records-len-clause-page
returns-then-records-len-clause-page g c =
    let law = c.laws.ensures in
    let next = as-wanted c.of-wanted.result c.args.want.now _ _ c.loop-next.place (Some c.in-Some.next.now.id)
    c.of-wanted.ensures c.self.view_is c.in-Some.ensures.id in
    let finds = subst (λ l. IsFoundAt c.args.pin.now.version c.args.want.now (chain_of l c.in-Some.next.now.id)
    (Some c.in-Some-record_at.record.now)) c.loop-next.invariant.finder c.in-Some-record_at.ensures.found in
    let full = length-append c.loop-next.page.records c.loop-next.waiting in
    λ s h. subst
    (λ l. IsPage (snapshot s.history c.args.pin.now.version) c.args.want.now c.args.from c.args.limit l false)
    (sym (same-founds c.share.new.page.records (c.loop-next.page.records ++ c.loop-next.waiting)
    c.in_ok-share.ensures.ok))
    (full-page law.read law.states c.one_structure.ensures c.args.self.now c.args.pin.now c.requires.held
    c.args.want.now c.args.from c.loop-next.place c.in-Some.next.now.id c.args.limit c.in-Some-record_at.record.now
    (c.loop-next.page.records ++ c.loop-next.waiting) c.loop-next.invariant.goes_on next finds
    (omega (
      arith,
      full,
      c.loop-next.invariant.few,
      c.if-records-len.true,
      c.len.ensures,
      ap (λ (l : List Shared). length l) c.records.ensures,
    )) s h)

pub record_at-requires : goal.record_at-requires
record_at-requires g c =
    subst (λ l. IsCandidate c.args.want.now l c.in-Some.next.now) (sym c.loop-next.invariant.finder)
    (subst (λ w. IsCandidate w c.args.self.now.kept.chains c.in-Some.next.now) c.of-wanted.ensures
    (subst (λ (t : StoreTerm). IsCandidate c.of-wanted.result t.kept.chains c.in-Some.next.now) c.self.view_is
    c.in-Some.ensures.entry))

pub overflow_add-place : goal.overflow_add-place
overflow_add-place g c =
    let (k, there, print) = c.in-Some.ensures.id.1 in
    let most = in-range c.of-wanted.result c.in-Some.next.now.id k.value
    ((c.self.invariant.1.chains c.in-Some.next.now.id).records k there) print in
    omega (arith, most)

pub loop-next-preserved : goal.loop-next-preserved
loop-next-preserved g c =
    let law = c.laws.ensures in
    let next = as-wanted c.of-wanted.result c.args.want.now _ _ c.loop-next.place (Some c.in-Some.next.now.id)
    c.of-wanted.ensures c.self.view_is c.in-Some.ensures.id in
    let low = c.loop-next.invariant.later in
    let up = next.0 in
    let taken = step-more law.read law.states c.one_structure.ensures c.args.self.now c.args.pin.now c.requires.held
    c.args.want.now c.args.from c.loop-next.place c.in-Some.next.now.id c.args.steps.now c.loop-next.steps
    c.record_at.new.steps c.loop-next.invariant.later next c.record_at.ensures.steps
    c.loop-next.invariant.taken in
    elim c.match-record_at.branch [
      | in-Some-record_at+else-records-len+in_ok-gather w ↦
          let more = ap (λ (p : PageTerm). values (p.records ++ c.match-record_at.waiting)) w.page-is
          ∙ (ap (λ (l : List Shared). values (w.gather.new.page.records ++ l)) w.waiting-is
          ∙ gathered c.loop-next.page.records c.loop-next.waiting w.gather.new.page.records w.gather.new.self
          w.in-Some-record_at.record.now w.in_ok-gather.ensures.ok) in
          let finds = subst (λ l. IsFoundAt c.args.pin.now.version c.args.want.now (chain_of l c.in-Some.next.now.id)
          (Some w.in-Some-record_at.record.now)) c.loop-next.invariant.finder w.in-Some-record_at.ensures.found in
          record {
            later = omega (arith, low, up);
            finder = c.record_at.ensures.finder ∙ c.loop-next.invariant.finder;
            goes_on = goes-same c.args.self.now c.args.pin.now.version c.args.want.now c.args.from
                (c.in-Some.next.now.id + 1)
                ((c.loop-next.page.records ++ c.loop-next.waiting) ++ w.in-Some-record_at.record.now ∷ [])
                (c.match-record_at.page.records ++ c.match-record_at.waiting) (same-founds _ _ more)
                (put-on law.read law.states c.one_structure.ensures c.args.self.now c.args.pin.now c.requires.held
                c.args.want.now c.args.from c.loop-next.place c.in-Some.next.now.id w.in-Some-record_at.record.now
                (c.loop-next.page.records ++ c.loop-next.waiting) c.loop-next.invariant.goes_on next finds);
            taken = taken;
            few = gathered-few c.loop-next.page.records c.loop-next.waiting c.match-record_at.page.records
                c.match-record_at.waiting w.in-Some-record_at.record.now c.args.limit more
                (omega (
                  arith,
                  w.if-records-len.false,
                  w.len.ensures,
                  ap (λ (l : List Shared). length l) w.records.ensures,
                ));
            in_range = gathered-each (λ (r : RecordTerm). IsId r.id) (c.loop-next.page.records ++ c.loop-next.waiting)
                (c.match-record_at.page.records ++ c.match-record_at.waiting) w.in-Some-record_at.record.now more
                c.loop-next.invariant.in_range
                (found-id _ c.self.invariant.0 c.self.invariant.1 c.args.want.now c.args.pin.now.version
                c.in-Some.next.now.id w.in-Some-record_at.record.now
                (subst (λ (t : StoreTerm). IsFoundAt c.args.pin.now.version c.args.want.now
                (chain_of t.kept.chains c.in-Some.next.now.id) (Some w.in-Some-record_at.record.now))
                (sym c.self.view_is) finds));
            room = ap (λ (p : PageTerm). p.room) w.page-is ∙ (w.gather.ensures.room ∙ c.loop-next.invariant.room);
          }
      | in_default-record_at w ↦
          let same = ap (λ (p : PageTerm). p.records ++ c.match-record_at.waiting) w.page-is
          ∙ ap (λ (l : List Shared). c.loop-next.page.records ++ l) w.waiting-is in
          record {
            later = omega (arith, low, up);
            finder = c.record_at.ensures.finder ∙ c.loop-next.invariant.finder;
            goes_on = subst (λ l. GoesOn c.args.self.now c.args.pin.now.version c.args.want.now c.args.from
                (c.in-Some.next.now.id + 1) l) (sym same)
                (passed-by law.read law.states c.one_structure.ensures c.args.self.now c.args.pin.now c.requires.held
                c.args.want.now c.args.from c.loop-next.place c.in-Some.next.now.id
                (c.loop-next.page.records ++ c.loop-next.waiting) c.loop-next.invariant.goes_on next
                (subst (λ l. IsFoundAt c.args.pin.now.version c.args.want.now (chain_of l c.in-Some.next.now.id) None)
                c.loop-next.invariant.finder w.in_default-record_at.ensures.found));
            taken = taken;
            few = omega (
              arith,
              ap (λ (p : PageTerm). length p.records) w.page-is,
              ap (λ (l : List Shared). length l) w.waiting-is,
              c.loop-next.invariant.few,
            );
            in_range = subst (λ l. All (λ (r : RecordTerm). IsId r.id) (values l)) (sym same)
                c.loop-next.invariant.in_range;
            room = ap (λ (p : PageTerm). p.room) w.page-is ∙ c.loop-next.invariant.room;
          }
    ]

pub returns-clause-page : goal.returns-clause-page
returns-clause-page g c =
    let law = c.laws.ensures in
    let none = as-wanted c.of-wanted.result c.args.want.now _ _ c.loop-next.place None c.of-wanted.ensures
    c.self.view_is c.in_default.ensures.id in
    let long = length-append c.loop-next.page.records c.loop-next.waiting in
    λ s h. subst
    (λ l. IsPage (snapshot s.history c.args.pin.now.version) c.args.want.now c.args.from c.args.limit l true)
    (sym (same-founds c.share-2.new.page.records (c.loop-next.page.records ++ c.loop-next.waiting)
    c.in_ok-share-2.ensures.ok))
    (last-page law.read law.states c.one_structure.ensures c.args.self.now c.args.pin.now c.requires.held
    c.args.want.now c.args.from c.loop-next.place c.args.limit (c.loop-next.page.records ++ c.loop-next.waiting)
    c.loop-next.invariant.goes_on
    none (omega (arith, long, c.loop-next.invariant.few)) s h)
