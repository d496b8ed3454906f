-- A route through a graph.
use Rattle.std.proofs.Common.{◌≡◌, ◌≢◌, ◌∙◌, ◌+◌, ◌%◌, ◌<◌, ℕ, List, ap, arith, get_or, inl, inr, length, map, subst, sym, take}
use Rattle.std.specs.Int.{bit_at}
use Rattle.std.proofs.lemmas.Bool.{cases_eq}
use Rattle.std.proofs.lemmas.List.{length-take-le}
use Rattle.smarts_parse.specs.declared.pattern.Graph.{Graph}
use Rattle.smarts_parse.specs.declared.pattern.PatBond.{PatBond}
use Rattle.smarts_parse.specs.declared.pattern.Pattern.{Pattern}
use Rattle.smarts_parse.specs.Pattern.{BondTerm, GraphTerm, bond_of, graph_of, pattern_of, term_of}
use Rattle.std.proofs.lemmas.Option.{same_Some}
use Rattle.matcher.specs.Counted.{kinds_of}
use Rattle.matcher.specs.declared.route.Join.{Join}
use Rattle.matcher.specs.declared.route.Route.{Route}
use Rattle.matcher.specs.declared.route.Stop.{Stop}
use Rattle.matcher.specs.Prepared.{IsOnlyPart, IsPartRoute}
use Rattle.matcher.specs.Laid.{IsRouteOf}
use Rattle.matcher.specs.Route.{IsRoute, stop_at}
use Rattle.matcher.proofs.Hunts.{read_bond}
use Rattle.matcher.proofs.OnlyParts.{part_read}

-- the places so far are different, and seen
pub apart_next : (stops : List Stop) (at seen : ℕ)
    → ((i : ℕ) → i < at → bit_at seen ((stop_at stops i).place % 64) ≡ 1)
    → (bit_at seen ((stop_at stops at).place % 64) ≡ 1 → ⊥)
    → ((i k : ℕ) → i < k → k < at → (stop_at stops i).place ≢ (stop_at stops k).place)
    → (i k : ℕ) → i < k → k < at + 1 → (stop_at stops i).place ≢ (stop_at stops k).place
apart_next stops at seen all new before i k lt l = elim (cases_eq k at) [
  | inl same ↦ λ e. new (subst (λ p. bit_at seen (p % 64) ≡ 1)
      (e ∙ ap (λ n. (stop_at stops n).place) same) (all i (omega arith)))
  | inr other ↦ before i k lt (omega arith)
]

-- an empty route is one of any graph
pub route_none : (g : GraphTerm) (stops : List Stop) (joins : List Join) (kinds : List ℕ)
    → IsRoute g (take 0 stops) joins kinds
route_none g stops joins kinds = record {
  each = λ k l. absurd (omega (arith, length-take-le 0 stops (omega arith)));
  apart = λ i k lt l. absurd (omega (arith, length-take-le 0 stops (omega arith)));
}

-- the kinds that a bond of the graph asks for
pub asked_kinds : (bonds : List PatBond) (k set : ℕ) (b : PatBond) → k < length bonds → b ≡ get_or bonds k b
    → kinds_of (term_of b.expr) ≡ set → (d : BondTerm) → kinds_of (get_or (map bond_of bonds) k d).expr ≡ set
asked_kinds bonds k set b l is same d = ap (λ (t : BondTerm). kinds_of t.expr) (read_bond bonds k b l is d) ∙ same

-- the route of the only part
pub part_routed : (p : Pattern) (part : ℕ) (g : Graph) (route : Route) → IsOnlyPart (pattern_of p) part
    → g ≡ get_or p.recs.items part g → IsRouteOf (graph_of g) route → IsPartRoute (pattern_of p) route part
part_routed p part g route only is h other get = subst (λ x. IsRouteOf x route)
    (same_Some (graph_of g) other (sym (part_read p part g only is) ∙ get)) h
