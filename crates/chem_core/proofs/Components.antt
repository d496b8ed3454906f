-- Walks along bonds, and when atoms are in one component.
use Rattle.std.proofs.Common.{ℕ, ◌≤◌, ◌↔◌, ◌≡◌, List, [], ◌∷◌, ◌++◌, refl, sym, subst, arith}
use Rattle.chem_core.specs.Graph.{Ends, Joined}
use Rattle.chem_core.specs.Component.{IsWalk, Reaches, IsComponent}
use Rattle.chem_core.proofs.Neighbours.{joins_back}

-- one walk and then another
walk_on : (ends : Ends) (x : ℕ) (xs : List ℕ) (y : ℕ) (ys : List ℕ) (z : ℕ) → IsWalk ends x xs y → IsWalk ends y ys z
    → IsWalk ends x (xs ++ ys) z
walk_on ends x [] y ys z e k = subst (λ u. IsWalk ends u ys z) (sym e) k
walk_on ends x (w ∷ xs) y ys z h k = (h.0, walk_on ends w xs y ys z h.1 k)

pub reaches_self : (ends : Ends) (x : ℕ) → Reaches ends x x
reaches_self ends x = ([], refl)

pub reaches_on : (ends : Ends) (x y z : ℕ) → Reaches ends x y → Reaches ends y z → Reaches ends x z
reaches_on ends x y z h k = (h.0 ++ k.0, walk_on ends x h.0 y k.0 z h.1 k.1)

joined_back : (ends : Ends) (x y : ℕ) → Joined ends x y → Joined ends y x
joined_back ends x y h = (h.0, joins_back ends h.0 x y h.1)

pub reaches_joined : (ends : Ends) (x y : ℕ) → Joined ends x y → Reaches ends x y
reaches_joined ends x y h = (y ∷ [], (h, refl))

walk_back : (ends : Ends) (x : ℕ) (xs : List ℕ) (y : ℕ) → IsWalk ends x xs y → Reaches ends y x
walk_back ends x [] y e = ([], sym e)
walk_back ends x (w ∷ xs) y h = reaches_on ends y w x (walk_back ends w xs y h.1)
    (reaches_joined ends w x (joined_back ends x w h.0))

pub reaches_back : (ends : Ends) (x y : ℕ) → Reaches ends x y → Reaches ends y x
reaches_back ends x y h = walk_back ends x h.0 y h.1

-- atoms have the same component exactly where a walk leads from one to the other
pub component_same : (ends : Ends) (a b c d : ℕ) → IsComponent ends a c → IsComponent ends b d
    → (c ≡ d) ↔ Reaches ends a b
component_same ends a b c d h k = (
  λ e. reaches_on ends a c b h.0 (reaches_back ends b c (subst (λ u. Reaches ends b u) (sym e) k.0)),
  λ r.
      let le : c ≤ d = h.1 d (reaches_on ends a b d r k.0) in
      let ge : d ≤ c = k.1 c (reaches_on ends b a c (reaches_back ends a b r) h.0) in
      omega arith,
)
