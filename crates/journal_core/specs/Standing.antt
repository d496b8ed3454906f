-- A journal as a contract sees it. For callers.
use Rattle.std.specs.Prelude.{ℕ, Bool}
use Rattle.journal_core.specs.declared.header.Header.{Header}

-- Its disk, its header, the number of base records left to read, and the place of the next record or gate. `ready`: a
-- gate there was found not open or was written, so that the journal may be appended to. `doubt`: a payload is in doubt.
pub record Standing (D : Type 0) : Type 0 where
  pub disk : D
  pub header : Header
  pub left : ℕ
  pub place : ℕ
  pub ready : Bool
  pub doubt : Bool
