use Rattle.std.proofs.Common.{◌≡◌, ◌∙◌, ap, Bool, Err, List, Ok, OnErr, OnOk, Option, Result, Some, subst, sym}
use Rattle.std.specs.Arc.{arc_value}
use Rattle.store_core.specs.Kept.{AreIndexed}
use Rattle.store_core.specs.Records.{RecordTerm, Shared}
use Rattle.store_core.proofs.Indexed.{IsPair, indexed-still}
use Rattle.store_core.proofs.kept.KeptEntries.reserve.Goals as goal

pub invariant_of-self : goal.invariant_of-self
invariant_of-self c = (
  indexed-still c.self.inside.chains c.reserve.new.self c.self.inside.index.entries c.reserve.ensures.chains
      c.self.invariant.0,
  c.self.invariant.1,
)

pub invariant_of-self-in-None : goal.invariant_of-self-in-None
invariant_of-self-in-None c = (
  indexed-still c.self.inside.chains c.reserve.new.self c.self.inside.index.entries c.reserve.ensures.chains
      c.self.invariant.0,
  c.self.invariant.1,
)

pub invariant_of-self-in_err-try_clone-in-Some : goal.invariant_of-self-in_err-try_clone-in-Some
invariant_of-self-in_err-try_clone-in-Some c = (
  indexed-still c.self.inside.chains c.reserve.new.self c.self.inside.index.entries c.reserve.ensures.chains
      c.self.invariant.0,
  c.self.invariant.1,
)

reserved : {X E : Type 0} (result : Result X E) (old new : Option (List Bool × Shared)) (p : List Bool × Shared)
    → OnOk result (new ≡ Some p) → OnErr result (new ≡ old) → IsPair (Some p) → IsPair old → IsPair new
reserved (Ok x) old new p ok err print was = subst IsPair (sym ok) print
reserved (Err e) old new p ok err print was = subst IsPair (sym err) was

pub invariant_of-self-in-Some : goal.invariant_of-self-in-Some
invariant_of-self-in-Some c =
    let print = c.print.ensures.print
    ∙ ap (λ (r : RecordTerm). r.print) (c.deref.ensures ∙ sym c.in_ok-try_clone-in-Some.ensures)
    ∙ ap (λ (r : Shared). (arc_value r).print) (sym c.new.ensures) in (
      subst (AreIndexed c.reserve.new.self) (sym c.reserve-in-Some.ensures.entries)
          (indexed-still c.self.inside.chains c.reserve.new.self c.self.inside.index.entries c.reserve.ensures.chains
          c.self.invariant.0),
      reserved c.reserve-in-Some.result c.self.inside.index.reserved c.reserve-in-Some.new.self.reserved
          (c.print.result.now, c.new.result) c.reserve-in-Some.ensures.ok
          c.reserve-in-Some.ensures.err print c.self.invariant.1,
    )

pub returns-in_err-reserve-clause-chains : goal.returns-in_err-reserve-clause-chains
returns-in_err-reserve-clause-chains c = rw (sym c.self.view_is) c.reserve.ensures.chains

pub returns-in_err-try_clone-in-Some-clause-chains : goal.returns-in_err-try_clone-in-Some-clause-chains
returns-in_err-try_clone-in-Some-clause-chains c = rw (sym c.self.view_is) c.reserve.ensures.chains

pub returns-in_ok-try_clone-in-Some-clause-chains : goal.returns-in_ok-try_clone-in-Some-clause-chains
returns-in_ok-try_clone-in-Some-clause-chains c = rw (sym c.self.view_is) c.reserve.ensures.chains

pub returns-in-None-clause-chains : goal.returns-in-None-clause-chains
returns-in-None-clause-chains c = rw (sym c.self.view_is) c.reserve.ensures.chains
