use Rattle.std.proofs.Common.{◌≡◌, ℕ, ◌-◌, ◌==◌, ◌&&◌, Bool, true, false, cond, not, length, drop, Err, refl, sym, ap, ◌∙◌, inl, inr, arith}
use Rattle.std.proofs.lemmas.List.{length_push}
use Rattle.std.proofs.lemmas.Result.{err_from_is_err_and}
use Rattle.std.proofs.lemmas.Grind.{common_steps}
use Rattle.std.specs.List.{list_any}
use Rattle.molfile_read.specs.Bonds.{are_joined}
use Rattle.molfile_read.specs.Parts.{JoinsTwo}
use Rattle.molfile_read.proofs.Steps.{drop_line, take_none, none_left, all_push}
use Rattle.molfile_read.proofs.BondSteps.{bond_stops, bond_twice, bond_goes_on, bonds_end}
use Rattle.molfile_read.proofs.Joined.{lower, higher, lower-higher, joined_ordered, joined_more, once_push}
use Rattle.molfile_read.proofs.bond.read_bonds.Goals as goal

pub loop-init : goal.loop-init
loop-init c = record {
  read = grind (arith, common_steps);
  rest = grind (arith, common_steps);
  left = omega arith;
  sound = rw c.in_ok-bonds.ensures.items (tt, tt);
  keys = λ a b lt. rw (c.in_ok-seen.ensures.empty, c.in_ok-bonds.ensures.items) refl;
  many = rw c.in_ok-bonds.ensures.items refl;
}

pub returns-in_err-bond-clause-fault : goal.returns-in_err-bond-clause-fault
returns-in_err-bond-clause-fault c =
    let p = err_from_is_err_and c.from_residual-in_err-bond.result c.from_residual-in_err-bond.ensures.1 in
    let whole = bond_stops c.args.counts.atoms c.args.counts.bonds c.loop.counter c.loop.bonds.items c.loop.lines
    c.next.new.self (c.in-Some.at, c.in-Some.line.now) c.in_err-bond.field-0.0 _ c.loop-test.true c.in-Some.ensures
    (sym c.in_err-bond.ensures.value) c.loop.invariant.read in
    rw p.1 (inr (inl (whole ∙ ap (λ e. Err e) (sym p.2))))

was_there : (b : Bool) (x : Bool) → b ≡ false → b ≡ not x → x ≡ true
was_there b true e h = refl
was_there b false e h = absurd (cc)

was_new : (b : Bool) (x : Bool) → b ≡ true → b ≡ not x → x ≡ false
was_new b true e h = absurd (cc)
was_new b false e h = refl

pub returns-then-not-branch-clause-fault : goal.returns-then-not-branch-clause-fault
returns-then-not-branch-clause-fault c =
    let z = c.in_ok-bond.bond in
    let has : ℕ × ℕ → Bool = λ q. list_any (λ k. (q.0 == k.0) && (q.1 == k.1)) c.loop.seen.keys in
    let key = joined_ordered c.loop.bonds.items z.a z.b in
    let at = c.loop.invariant.keys (lower z.a z.b) (higher z.a z.b)
    (lower-higher z.a z.b c.in_ok-bond.ensures.range.2) in
    let here : are_joined c.loop.bonds.items z.a z.b ≡ true =
    sym key ∙ sym at ∙ sym (ap has c.ends_of.ensures) ∙ was_there _ (has c.ends_of.result) c.if-not-branch.true
    c.in_ok-insert.ensures.added in
    inr (inl (bond_twice c.args.counts.atoms c.args.counts.bonds c.loop.counter c.loop.bonds.items c.loop.lines
    c.next.new.self (c.in-Some.at, c.in-Some.line.now) z _ c.loop-test.true c.in-Some.ensures
    (sym c.in_ok-bond.ensures.value) here c.loop.invariant.read))

pub loop-preserved : goal.loop-preserved
loop-preserved c =
    let z = c.in_ok-bond.bond in
    let has : ℕ × ℕ → Bool = λ q. list_any (λ k. (q.0 == k.0) && (q.1 == k.1)) c.loop.seen.keys in
    let key = joined_ordered c.loop.bonds.items z.a z.b in
    let at = c.loop.invariant.keys (lower z.a z.b) (higher z.a z.b)
    (lower-higher z.a z.b c.in_ok-bond.ensures.range.2) in
    let free : are_joined c.loop.bonds.items z.a z.b ≡ false =
    sym key ∙ sym at ∙ sym (ap has c.ends_of.ensures) ∙ was_new _ (has c.ends_of.result) c.if-not-branch.false
    c.in_ok-insert.ensures.added in
    let l = ap length c.in-Some.ensures in
    let left = c.loop.invariant.left in
    let many = c.loop.invariant.many in
    let items = ap length c.in_ok-push.ensures.items in
    let more = length_push c.loop.bonds.items z in
    record {
      read = rw c.in_ok-push.ensures.items
          (bond_goes_on c.args.counts.atoms c.args.counts.bonds c.loop.counter c.loop.bonds.items c.loop.lines
          c.next.new.self (c.in-Some.at, c.in-Some.line.now) z _ c.loop-test.true c.in-Some.ensures
          (sym c.in_ok-bond.ensures.value) free c.loop.invariant.read);
      rest = sym (drop_line c.args.counts.bonds c.loop.counter c.loop.lines c.next.new.self (
        c.in-Some.at,
        c.in-Some.line.now,
      ) c.loop-test.true c.in-Some.ensures) ∙ c.loop.invariant.rest;
      left = omega arith;
      sound = rw c.in_ok-push.ensures.items (
        all_push (JoinsTwo c.args.counts.atoms) c.loop.bonds.items z
            c.loop.invariant.sound.0 c.in_ok-bond.ensures.range,
        once_push c.loop.bonds.items z c.loop.invariant.sound.1
            free,
      );
      keys = λ a b lt. rw c.in_ok-push.ensures.items
          (joined_more (λ x y. list_any (λ k. (x == k.0) && (y == k.1)) c.loop.seen.keys) (λ x y.
          list_any (λ k. (x == k.0) && (y == k.1)) c.insert.new.self.keys) c.loop.bonds.items z
          c.loop.invariant.keys
          (λ x y. c.in_ok-insert.ensures.updates.0 (x, y)
          ∙ ap (λ (q : ℕ × ℕ). cond ((q.0 == x) && (q.1 == y)) true (has (x, y))) c.ends_of.ensures) a b lt);
      many = omega arith;
    }

pub returns-clause-found : goal.returns-clause-found
returns-clause-found c =
    let none = none_left c.args.counts.bonds c.loop.counter c.loop-test.false in
    let left = c.loop.invariant.left in (
      bonds_end c.args.counts.atoms (c.args.counts.bonds - c.loop.counter) c.loop.bonds.items c.loop.lines _
          (take_none c.args.counts.bonds c.loop.counter c.loop.lines c.loop-test.false) c.loop.invariant.read,
      ap (λ k. drop k c.loop.lines) (sym none) ∙ c.loop.invariant.rest,
      omega arith,
    )
