-- The data items of a record's text (CTfile formats, SDfile). For callers.
use Rattle.std.specs.Prelude.{ℕ, suc, ◌==◌, not, Bool, true, false, List, [], ◌∷◌, length, take, drop, position, find, Option, None, is_some, option_map, option_and_then, codes, if◌then◌else◌}
use Rattle.std.specs.List.{cons_option}
use Rattle.std.specs.Str.{bytes_eq}
use Rattle.molfile_read.specs.Properties.{begins, is_end}
use Rattle.sd_read.specs.Lines.{Line, lines_from}

-- The name in a data header: the line begins with `>`, and the name is between its first `<` and the next `>`. Any
-- other line has no name.
abbrev pub name_of : List ℕ → Option (List ℕ)
name_of line =
    if begins line (codes ">") then
    option_and_then (λ start. let behind = drop (suc start) line in
    option_map (λ end. take end behind) (position (λ byte. byte == 62) behind))
    (position (λ byte. byte == 60) line)
    else None

-- an item: its name, and the start and the end of its data
pub record Item : Type 0 where
  pub name : List ℕ
  pub from : ℕ
  pub to : ℕ

-- the end of data that begin at a place with these lines: at the first empty line, or after the last line
abbrev pub data_end : ℕ → List Line → ℕ
data_end at [] = at
data_end at (line ∷ lines) = if length line.bytes == 0 then at else data_end line.next lines

-- the item of a name whose data begin at a place with these lines
abbrev pub item_at : List ℕ → ℕ → List Line → Item
item_at name from lines = record { name = name; from = from; to = data_end from lines }

-- The items of lines, by whether these begin within data, which go on up to an empty line. A data header outside data
-- begins an item; other lines there are passed over.
abbrev pub items_in : Bool → List Line → List Item
items_in within [] = []
items_in true (line ∷ lines) = items_in (not (length line.bytes == 0)) lines
items_in false (line ∷ lines) =
    let name = name_of line.bytes in
    cons_option (option_map (λ n. item_at n line.next lines) name) (items_in (is_some name) lines)

-- the lines after the first that begins `M  END`
abbrev pub behind_end : List Line → List Line
behind_end [] = []
behind_end (line ∷ lines) = if is_end line.bytes then lines else behind_end lines

-- the items of a record's text, in order
abbrev pub items_of : List ℕ → List Item
items_of text = items_in false (behind_end (lines_from 0 text))

-- the places of the data of the first item of a name
abbrev pub first_named : List ℕ → List Item → Option (ℕ × ℕ)
first_named name items = option_map (λ item. (item.from, item.to)) (find (λ item. bytes_eq item.name name) items)
