-- The answers of making records of molfiles. For callers.
use Rattle.std.specs.Prelude.{◌≡◌, ℕ, List, Result, Err, IfErr, IfOk}
use Rattle.std.specs.List.{AllZip, enumerate_from}
use Rattle.std.specs.Arc.{arc_value}
use Rattle.std.specs.declared.vec.Vec.{Vec}
use Rattle.std.specs.declared.alloc.Global.{Global}
use Rattle.mol_finish.specs.Structure.{IsAnswer}
use Rattle.mol_finish.specs.declared.fault.Format.TheVariants.{Molfile}
use Rattle.mol_finish.specs.declared.fault.TextFault.{TextFault}
use Rattle.store_core.specs.Records.{Shared}

-- the answer is a record of the molfile under the identifier, or why the text has no structure
pub record IsMade (id : ℕ) (text : List ℕ) (answer : Result Shared TextFault) : Type 0 where
  pub identifier : IfOk answer (λ r. (arc_value r).id ≡ id)
  pub molfile : IfOk answer (λ r. (arc_value r).format ≡ Molfile)
  pub bytes : IfOk answer (λ r. (arc_value r).text ≡ text)
  pub refused : IfErr answer (λ fault. IsAnswer Molfile text (Err fault))

-- the answers to texts, in order, under identifiers from the first on
abbrev pub AreMade : ℕ → List (Vec ℕ Global) → List (Result Shared TextFault) → Type 0
AreMade first texts answers = AllZip (λ p answer. IsMade p.0 p.1.items answer) (enumerate_from first texts) answers
