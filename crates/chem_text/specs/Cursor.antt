-- A place in a text, from 0 to its length. For callers.
use Rattle.std.specs.Prelude.{ℕ, List}

pub record Place : Type 0 where
  pub text : List ℕ
  pub at : ℕ
