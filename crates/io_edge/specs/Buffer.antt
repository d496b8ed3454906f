-- The bytes in the line buffer. For private clauses alone.
use Rattle.std.specs.Prelude.{◌≡◌, ◌++◌, ℕ, List, Option, length}
use Rattle.io_edge.specs.Source.{Leaves}

-- the text that was cut off last, and the bytes that were taken and not cut off
pub record Held : Type 0 where
  pub text : List ℕ
  pub bytes : List ℕ

-- n more bytes are held, which the source gave
pub record Gains (old new : List ℕ) (n : ℕ) (left_old left_new : Option (List ℕ)) : Type 0 where
  pub got : List ℕ
  pub number : length got ≡ n
  pub held : new ≡ old ++ got
  pub leaves : Leaves left_old got left_new
