-- For callers: a turn whose value was changed.
use Rattle.turn_gate.specs.declared.turn.Turn.{Turn}

-- the same turn with another value
abbrev pub with_value : {V E O : Type 0} → Turn V E O → V → Turn V E O
with_value t x = record t { value = x }
