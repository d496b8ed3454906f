-- What a line outside data makes of the first item of a name.
use Rattle.std.proofs.Common.{◌≡◌, ℕ, Bool, true, false, Option, Some, None, List, ◌∷◌, ap, ◌∙◌}
use Rattle.std.specs.Prelude.{find, is_some, option_map, if◌then◌else◌}
use Rattle.std.specs.List.{cons_option}
use Rattle.std.specs.Str.{bytes_eq}
use Rattle.sd_read.specs.Lines.{Line, line_of}
use Rattle.sd_read.specs.Items.{Item, data_end, first_named, item_at, items_in, name_of}

module _ (name line : List ℕ) (next : ℕ) (lines : List Line) where
  abbrev after : Option (List ℕ) → Option (ℕ × ℕ)
  after o = first_named name (cons_option (option_map (λ n. item_at n next lines) o) (items_in (is_some o) lines))

  abbrev picked : List ℕ → Bool → Option (ℕ × ℕ)
  picked found same = option_map (λ (item : Item). (item.from, item.to))
      (if same then Some (item_at found next lines) else find (λ item. bytes_eq item.name name) (items_in true lines))

  pub no_header : name_of line ≡ None
      → first_named name (items_in false (line_of line next ∷ lines)) ≡ first_named name (items_in false lines)
  no_header none = ap after none

  pub other_name : (found : List ℕ) → name_of line ≡ Some found → bytes_eq found name ≡ false
      → first_named name (items_in false (line_of line next ∷ lines)) ≡ first_named name (items_in true lines)
  other_name found is differs = ap after is ∙ ap (picked found) differs

  pub this_name : (found : List ℕ) → name_of line ≡ Some found → bytes_eq found name ≡ true
      → first_named name (items_in false (line_of line next ∷ lines)) ≡ Some (next, data_end next lines)
  this_name found is same = ap after is ∙ ap (picked found) same
