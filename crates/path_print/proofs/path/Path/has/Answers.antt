use Rattle.std.proofs.Common.{ℕ, ◌<◌, ◌≤◌, ◌≡◌, List, length, get_or, take, Contains, refl, sym, ap, ◌∙◌, subst, arith}
use Rattle.std.proofs.lemmas.List.{get_or-take, length-take-le, get_or_default}
use Rattle.path_print.proofs.path.Path.has.Goals as goal

-- an atom at one of the places that are taken
at_place : (atoms : List ℕ) (count : ℕ) (now : List ℕ) (k y : ℕ) → take count atoms ≡ now → k < count
    → count ≤ length atoms → y ≡ get_or atoms k 0 → Contains now y
at_place atoms count now k y view within room is =
    let size : length (take count atoms) ≡ count = length-take-le count atoms room in
    subst (λ xs. Contains xs y) view
    (k, omega arith, get_or-take count atoms k y within ∙ get_or_default atoms k y 0 (omega arith) ∙ sym is)

pub returns-then-atom-second : goal.returns-then-atom-second
returns-then-atom-second c =
    let i = c.self.inside in (
      λ _. at_place i.atoms i.count c.args.self.now.atoms 1 c.args.atom (ap (λ p. p.atoms) c.self.view_is) (omega arith)
          (omega arith) c.if-atom-second.true,
      λ _. refl,
    )

pub returns-then-atom-third : goal.returns-then-atom-third
returns-then-atom-third c =
    let i = c.self.inside in (
      λ _. at_place i.atoms i.count c.args.self.now.atoms 2 c.args.atom (ap (λ p. p.atoms) c.self.view_is) (omega arith)
          (omega arith) c.if-atom-third.true,
      λ _. refl,
    )

pub returns-then-atom-fourth : goal.returns-then-atom-fourth
returns-then-atom-fourth c =
    let i = c.self.inside in (
      λ _. at_place i.atoms i.count c.args.self.now.atoms 3 c.args.atom (ap (λ p. p.atoms) c.self.view_is) (omega arith)
          (omega arith) c.if-atom-fourth.true,
      λ _. refl,
    )
