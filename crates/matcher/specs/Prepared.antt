-- The data prepared for a pattern. For callers `IsPreparedFor`, of the scratch; the others for private clauses alone.
use Rattle.std.specs.Prelude.{◌≡◌, ℕ, ◌+◌, ◌≤◌, Bool, List, [], ◌∷◌, length, slice_get, Some, IfNone, IfSome}
use Rattle.smarts_parse.specs.declared.pattern.AtomPrim.TheVariants.{Rec}
use Rattle.smarts_parse.specs.Pattern.{GraphTerm, PatternTerm, Prim}
use Rattle.matcher.specs.declared.planned.Plans.{Plans}
use Rattle.matcher.specs.declared.prepare.Prepared.{Prepared}
use Rattle.matcher.specs.declared.scratch.Scratch.{Scratch}
use Rattle.matcher.specs.Counted.{AreAsked}
use Rattle.matcher.specs.Plan.{ArePartsPlanned, StandsAt}
use Rattle.matcher.specs.Ring.{AreRingMarks}
use Rattle.matcher.specs.Laid.{IsRouteOf}
use Rattle.matcher.specs.declared.route.Route.{Route}
use Rattle.matcher.specs.Wanted.{AreWanted}

-- the steps of all graphs are those of the pattern's
pub record IsPlanned (p : PatternTerm) (plans : Plans) : Type 0 where
  pub few : length p.recs ≤ 64
  pub top : StandsAt p.top plans.steps.items 0
  pub parts : ArePartsPlanned p.recs (length p.recs) plans.steps.items plans.begins.items

-- the pattern asks for its last recursive part at one atom, and for nothing else
abbrev pub IsOnlyPart : PatternTerm → ℕ → Type 0
IsOnlyPart p part = (part + 1 ≡ length p.recs) × (p.top.atoms ≡ Prim (Rec part) ∷ [])

-- the marks of bonds on rings are of the part
abbrev pub ArePartMarks : PatternTerm → List Bool → ℕ → Type 0
ArePartMarks p marks part = (g : GraphTerm) → slice_get p.recs part ≡ Some g → AreRingMarks g marks

-- the route is of the part
abbrev pub IsPartRoute : PatternTerm → Route → ℕ → Type 0
IsPartRoute p route part = (g : GraphTerm) → slice_get p.recs part ≡ Some g → IsRouteOf g route

-- the data worked out are of the pattern; the route is of its last part, if it asks for that part alone
pub record IsPrepared (p : PatternTerm) (prepared : Prepared) : Type 0 where
  pub asked : AreAsked p prepared.asked
  pub planned : IsPlanned p prepared.plans
  pub wanted : AreWanted p prepared.wanted.classes.items
  pub only : IfSome prepared.part (IsOnlyPart p)
  pub top_marks : AreRingMarks p.top prepared.closing.on_ring.items
  pub part_marks : IfSome prepared.part (ArePartMarks p prepared.closing.on_ring.items)
  pub part_route : IfSome prepared.part (IsPartRoute p prepared.route)
  pub top_route : IfNone prepared.part (IsRouteOf p.top prepared.route)

-- the scratch was prepared for the pattern
abbrev pub IsPreparedFor : PatternTerm → Scratch → Type 0
IsPreparedFor p scratch = IsPrepared p scratch.prepared
