use Rattle.std.proofs.Common.{◌∙◌, ap, length, sym}
use Rattle.chemdb.proofs.serve.Goals as goal

-- an end for each script
pub chemdb-requires-clause-ends : goal.chemdb-requires-clause-ends
chemdb-requires-clause-ends g c κs within = λ asks. (
  c.in-Ok.plan,
  c.in-Ok.ensures.ok,
  c.in_ok-ends-in-Serve.ensures ∙ ap length c.deref.ensures.value ∙ sym (c.in-Ok.ensures.scripts c.in-Serve.is),
)

pub chemdb-requires-in_default-clause-ends : goal.chemdb-requires-in_default-clause-ends
chemdb-requires-in_default-clause-ends g c κs within = λ asks.
    (c.in-Ok.plan, c.in-Ok.ensures.ok, c.in_ok-ends-in_default.ensures)
