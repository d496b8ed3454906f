-- Answers to texts that are numbered from 0, as answers under identifiers.
use Rattle.std.proofs.Common.{◌≡◌, ℕ, ◌+◌, ◌%◌, ◌^◌, ◌<◌, Bor, List, [], ◌∷◌, length, map, subst, arith}
use Rattle.std.specs.Prelude.{Result}
use Rattle.std.specs.List.{AllZip, enumerate_from}
use Rattle.std.specs.declared.vec.Vec.{Vec}
use Rattle.std.specs.declared.alloc.Global.{Global}
use Rattle.mol_finish.specs.declared.fault.TextFault.{TextFault}
use Rattle.rayon.specs.Lists as chain
use Rattle.store_core.specs.Records.{Shared}
use Rattle.sd_read.specs.Records.{AreMade, IsMade}

module _ (first : ℕ) where
  pub made-from : (at : ℕ) (zs : List (Bor (Vec ℕ Global))) (answers : List (Result Shared TextFault))
      → at + length zs < 2 ^ 64
      → AllZip (λ (p : ℕ × Bor (Vec ℕ Global)) answer. IsMade (first + p.0) p.1.now.items answer)
      (chain.enumerate_from at zs) answers
      → AreMade (first + at) (map (λ (z : Bor (Vec ℕ Global)). z.now) zs) answers
  made-from at [] [] few h = tt
  made-from at [] (answer ∷ answers) few h = absurd h
  made-from at (z ∷ zs) [] few h = absurd h
  made-from at (z ∷ zs) (answer ∷ answers) few h =
      let next : (at + 1) % 2 ^ 64 ≡ at + 1 = omega arith in
      let on : first + (at + 1) ≡ first + at + 1 = omega arith in
      let rest = made-from (at + 1) zs answers (omega arith)
      (subst (λ n. AllZip (λ (p : ℕ × Bor (Vec ℕ Global)) a. IsMade (first + p.0) p.1.now.items a)
      (chain.enumerate_from n zs) answers) next h.1) in
      (h.0, subst (λ n. AreMade n (map (λ (z : Bor (Vec ℕ Global)). z.now) zs) answers) on rest)
