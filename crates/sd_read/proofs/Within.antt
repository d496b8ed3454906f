-- Data stand within their text.
use Rattle.std.proofs.Common.{◌≡◌, ℕ, suc, ◌+◌, ◌≤◌, Bool, true, false, Option, Some, None, List, [], ◌∷◌, length, arith}
use Rattle.std.specs.Prelude.{◌==◌, not, find, is_some, option_map, IfSome, if◌then◌else◌}
use Rattle.std.specs.List.{cons_option}
use Rattle.std.specs.Str.{bytes_eq}
use Rattle.molfile_read.specs.Properties.{is_end}
use Rattle.sd_read.specs.Lines.{Line, line_of, lines_from, with_byte}
use Rattle.sd_read.specs.Items.{Item, behind_end, data_end, first_named, item_at, items_in, items_of, name_of}

-- the places behind lines rise, from a place up to an end
abbrev Rising : ℕ → ℕ → List Line → Type 0
Rising at end [] = at ≤ end
Rising at end (line ∷ lines) = (at ≤ line.next) × Rising line.next end lines

rising_le : (at end : ℕ) (lines : List Line) → Rising at end lines → at ≤ end
rising_le at end [] h = h
rising_le at end (line ∷ lines) h =
    let rest = rising_le line.next end lines h.1 in
    let first = h.0 in
    omega arith

byte_rises : (at end byte : ℕ) (lines : List Line) → Rising (suc at) end lines → Rising at end (with_byte at byte lines)
byte_rises at end byte [] h = (omega arith, h)
byte_rises at end byte (line ∷ lines) h = (let first = h.0 in omega arith, h.1)

lines_rise : (at end : ℕ) (text : List ℕ) → at + length text ≡ end → Rising at end (lines_from at text)
lines_rise at end [] long = omega arith
lines_rise at end (byte ∷ bytes) long = go (byte == 10) (lines_rise (suc at) end bytes (omega arith))
  where
    go : (lf : Bool) → Rising (suc at) end (lines_from (suc at) bytes)
        → Rising at end (if lf then line_of [] (suc at) ∷ lines_from (suc at) bytes
        else with_byte at byte (lines_from (suc at) bytes))
    go true h = (omega arith, h)
    go false h = byte_rises at end byte (lines_from (suc at) bytes) h

behind_rises : (at end : ℕ) (lines : List Line) → Rising at end lines → (from : ℕ) × Rising from end (behind_end lines)
behind_rises at end [] h = (at, h)
behind_rises at end (line ∷ lines) h = go (is_end line.bytes) (behind_rises line.next end lines h.1)
  where
    go : (last : Bool) → (from : ℕ) × Rising from end (behind_end lines)
        → (from : ℕ) × Rising from end (if last then lines else behind_end lines)
    go true rest = (line.next, h.1)
    go false rest = rest

end_within : (at end : ℕ) (lines : List Line) → Rising at end lines
    → (at ≤ data_end at lines) × (data_end at lines ≤ end)
end_within at end [] h = (omega arith, h)
end_within at end (line ∷ lines) h = go (length line.bytes == 0) (end_within line.next end lines h.1)
  where
    go : (empty : Bool) → (line.next ≤ data_end line.next lines) × (data_end line.next lines ≤ end)
        → (at ≤ (if empty then at else data_end line.next lines)) × ((if empty then at else data_end line.next lines) ≤ end)
    go true rest = (omega arith, rising_le at end (line ∷ lines) h)
    go false rest = (let first = h.0 in let second = rest.0 in omega arith, rest.1)

-- from a place to another that is not before it, and not behind the end
abbrev pub Spans : ℕ → ℕ × ℕ → Type 0
Spans end r = (r.0 ≤ r.1) × (r.1 ≤ end)

first_within : (name : List ℕ) (end : ℕ) (within : Bool) (at : ℕ) (lines : List Line) → Rising at end lines
    → IfSome (first_named name (items_in within lines)) (Spans end)
first_within name end within at [] h = tt
first_within name end true at (line ∷ lines) h =
    first_within name end (not (length line.bytes == 0)) line.next lines h.1
first_within name end false at (line ∷ lines) h =
    go (name_of line.bytes) (first_within name end (is_some (name_of line.bytes)) line.next lines h.1)
  where
    pick : (same : Bool) (found : List ℕ) (rest : Option Item)
        → IfSome (option_map (λ (item : Item). (item.from, item.to)) rest) (Spans end)
        → IfSome (option_map (λ (item : Item). (item.from, item.to))
        (if same then Some (item_at found line.next lines) else rest))
        (Spans end)
    pick true found rest h' = end_within line.next end lines h.1
    pick false found rest h' = h'

    go : (o : Option (List ℕ)) → IfSome (first_named name (items_in (is_some o) lines)) (Spans end)
        → IfSome (first_named name (cons_option
        (option_map (λ n. item_at n line.next lines) o)
        (items_in (is_some o) lines))) (Spans end)
    go None rest = rest
    go (Some found) rest = pick (bytes_eq found name) found (find (λ item. bytes_eq item.name name) (items_in true lines)) rest

pub data_within : (name text : List ℕ) → IfSome (first_named name (items_of text)) (Spans (length text))
data_within name text =
    let some = behind_rises 0 (length text) (lines_from 0 text) (lines_rise 0 (length text) text (omega arith)) in
    first_within name (length text) false some.0 (behind_end (lines_from 0 text)) some.1
