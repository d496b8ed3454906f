-- Strings of paths in both directions, and paths under way, for private clauses alone.
use Rattle.std.specs.Prelude.{◌≡◌, ◌≢◌, ◌⊎◌, ◌↔◌, ℕ, zero, suc, ◌+◌, ◌-◌, ◌*◌, ◌/◌, ◌%◌, ◌^◌, ◌<◌, ◌≤◌, Bool, List, [], ◌∷◌, ◌++◌, length, slice_index, reverse, AllPairs, Option, Some, IfSome, option_map}
use Rattle.chem_core.specs.Bits.{HasBit}
use Rattle.path_print.specs.declared.known.Known.{Known}
use Rattle.path_print.specs.Path.{◌>>=◌, Family, exact, plain, label_of, View, string_of, hash_of, bit_of, IsPath}

-- a string in both directions
pub record TextTerm : Type 0 where
  pub there : List ℕ
  pub back : List ℕ

-- the text of one atom
abbrev pub of_label : ℕ × ℕ → TextTerm
of_label l = record { there = l.0 ∷ l.1 ∷ []; back = l.0 ∷ l.1 ∷ [] }

-- the text of a path that goes on to one more atom, turned
abbrev pub longer_text : TextTerm → ℕ → ℕ × ℕ → TextTerm
longer_text t byte l = record { there = l.0 ∷ l.1 ∷ byte ∷ t.back; back = t.there ++ byte ∷ l.0 ∷ l.1 ∷ [] }

-- k bytes of a number, the highest first
unfoldable pub digits : ℕ → ℕ → List ℕ
digits zero n = []
digits (suc k) n = digits k (n / 256) ++ (n % 256) ∷ []

-- facts that a text keeps about its fields
pub record IsTextInside (count there back there_sum back_sum weight : ℕ) : Type 0 where
  pub few : count ≤ 14
  pub there_fits : there < 256 ^ count
  pub back_fits : back < 256 ^ count
  pub there_hash : there_sum % 65521 ≡ hash_of (digits count there)
  pub back_hash : back_sum % 65521 ≡ hash_of (digits count back)
  pub weighs : weight ≡ 131 ^ count % 65521
  pub two : count ≤ 2 → (there_sum ≤ 200000) × (back_sum ≤ 200000) × (weight ≤ 17161)
  pub five : count ≤ 5 → (there_sum ≤ 500000000000) × (back_sum ≤ 500000000000)
  pub eight : count ≤ 8 → (there_sum ≤ 2000000000000) × (back_sum ≤ 1200000000000000000)
  pub eleven : count ≤ 11 → back_sum ≤ 4500000000000000000
  pub there_small : there_sum ≤ 5000000000000000000
  pub back_small : back_sum ≤ 5000000000000000000

-- a path under way: its atoms, and its text in each family
pub record PathTerm : Type 0 where
  pub atoms : List ℕ
  pub exact : Option TextTerm
  pub plain : Option TextTerm

abbrev pub text_in : PathTerm → Family → Option TextTerm
text_in p exact = p.exact
text_in p plain = p.plain

-- the text that goes on to one more atom, if the label is known
abbrev pub longer_if : Option TextTerm → ℕ → Option (ℕ × ℕ) → Option TextTerm
longer_if text byte label = do
  t ← text
  l ← label
  Some (longer_text t byte l)

-- the path of one atom
abbrev pub path_start : ℕ → Known → PathTerm
path_start atom known = record {
  atoms = atom ∷ [];
  exact = option_map of_label
      (label_of exact known);
  plain = option_map of_label (label_of plain known);
}

-- the path that goes on to one more atom, turned
abbrev pub path_longer : PathTerm → ℕ → ℕ → Known → PathTerm
path_longer p atom byte known = record {
  atoms = atom ∷ reverse p.atoms;
  exact = longer_if p.exact byte (label_of exact known);
  plain = longer_if p.plain byte (label_of plain known);
}

-- a text of `atoms` atoms
abbrev pub IsLong : ℕ → Option TextTerm → Type 0
IsLong atoms text = IfSome text (λ t. (length t.there + 1 ≡ 3 * atoms) × (length t.back + 1 ≡ 3 * atoms))

-- facts that a path keeps about its fields
pub record IsPathInside (atoms : List ℕ) (count : ℕ) (exact_text plain_text : Option TextTerm) : Type 0 where
  pub some : 1 ≤ count
  pub short : count ≤ 5
  pub room : length atoms ≡ 5
  pub exact_long : IsLong count exact_text
  pub plain_long : IsLong count plain_text

-- the atom that a path has come to
abbrev pub last_of : List ℕ → ℕ
last_of atoms = slice_index atoms (length atoms - 1)

-- the path under way is one of these views
pub record IsOn (views : Family → View) (p : PathTerm) : Type 0 where
  pub some : 1 ≤ length p.atoms
  pub short : length p.atoms ≤ 5
  pub distinct : AllPairs ◌≢◌ p.atoms
  pub there : (family : Family) → option_map (λ t. t.there) (text_in p family) ≡ string_of (views family) p.atoms
  pub back : (family : Family) → option_map (λ t. t.back) (text_in p family)
      ≡ string_of (views family) (reverse p.atoms)

-- a path that goes on to these atoms, one after the other, turned after each
abbrev pub grown : List ℕ → List ℕ → List ℕ
grown atoms [] = atoms
grown atoms (y ∷ ys) = grown (y ∷ reverse atoms) ys

-- the place before the middle of n atoms
abbrev pub before : ℕ → ℕ
before n = n / 2 - 1

-- Of the two directions of a path the one in which it is counted: of the two atoms around its middle the lower is first.
abbrev pub IsCounted : List ℕ → Type 0
IsCounted atoms = slice_index atoms (before (length atoms))
    ≤ slice_index atoms (length atoms - 1 - before (length atoms))

-- no longer path that grows from it is counted
abbrev pub IsSpent : List ℕ → Type 0
IsSpent atoms = ((length atoms ≡ 3) × (slice_index atoms 1 < slice_index atoms 2)
    × (slice_index atoms 2 < slice_index atoms 0))
    ⊎ ((length atoms ≡ 4) × (slice_index atoms 1 < slice_index atoms 3))

-- the bit of a text, if there is one
abbrev pub IsBitOf : Option TextTerm → ℕ → Type 0
IsBitOf text bit = (t : TextTerm) × (text ≡ Some t) × (bit ≡ bit_of t.there t.back)

-- the bit of the path as far as it goes, in one of the families, if it is counted in this direction
abbrev pub IsBitHere : PathTerm → ℕ → Type 0
IsBitHere p bit = IsCounted p.atoms × ((family : Family) × IsBitOf (text_in p family) bit)

-- the bit of a path that grows from this one, if it is counted
abbrev pub IsBitFrom : (Family → View) → List ℕ → ℕ → Type 0
IsBitFrom views atoms bit = (family : Family) × (more there back : List ℕ)
    × IsPath (views family) (grown atoms more) there back × IsCounted (grown atoms more) × (bit ≡ bit_of there back)

-- the bits are set, and those that were
pub record SetsBits (IsBit : ℕ → Type 0) (old new : List Bool) : Type 0 where
  pub size : length new ≡ length old
  pub bits : (bit : ℕ) → HasBit new bit ↔ (HasBit old bit ⊎ IsBit bit)

-- the path that goes on to one more atom
pub record IsOneLonger (views : Family → View) (p : PathTerm) (y : ℕ) (q : PathTerm) : Type 0 where
  pub on : IsOn views q
  pub atoms : q.atoms ≡ y ∷ reverse p.atoms

-- no path that is counted grows from these atoms
abbrev pub NoneFrom : (Family → View) → List ℕ → Type 0
NoneFrom views atoms = (bit : ℕ) → IsBitFrom views atoms bit → ⊥

-- the bits of the path that goes on by such a step are set
abbrev pub IsMarked : PathTerm → ℕ → Known → List Bool → Type 0
IsMarked p byte known print = (family : Family) (bit : ℕ)
    → IsBitOf (longer_if (text_in p family) byte (label_of family known)) bit → HasBit print bit
