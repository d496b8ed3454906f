use Rattle.std.proofs.Common.{◌≡◌, ◌∙◌, ℕ, List, [], ◌∷◌, length, refl, subst, arith}
use Rattle.disk_edge.specs.Disk.{Exactly}
use Rattle.chem_shell.proofs.disk.is_empty.Goals as goal

empty : (l : List ℕ) → length l ≡ 0 → l ≡ []
empty [] none = refl
empty (x ∷ l) none = absurd (omega (arith, none))

pub returns-clause-yes : goal.returns-clause-yes
returns-clause-yes g c _ l told =
    let none = empty l (omega (arith, c.in_ok-len.ensures.length l told, c.if-branch-gt0.false)) in (
      none,
      subst (λ k. Exactly k (g.D.Disk.model.images c.sync.new.self)) none
          (c.in_ok-sync.ensures.synced l (c.in_ok-len.ensures.content ∙ told)),
    )
