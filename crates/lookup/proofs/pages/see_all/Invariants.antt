use Rattle.std.proofs.Common.{take}
use Rattle.store_core.specs.Records.{founds}
use Rattle.lookup.specs.Walks.{Saw}
use Rattle.lookup.proofs.pages.see_all.Given as goal

abbrev pub invariant-loop-record : goal.invariant-loop-record
invariant-loop-record g l = Saw g.V.Visit.has_seen l.given l.fn.visitor l.visitor (founds (take l.record-index l.records))
