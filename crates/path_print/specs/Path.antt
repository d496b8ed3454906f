-- Paths and their bits, for callers. Fingerprints of this kind are described in the Daylight Theory Manual, chapter
-- Fingerprints; labels, hash and number of bits are this product's own.
use Rattle.std.specs.Prelude.{◌≡◌, ◌≢◌, ℕ, ◌+◌, ◌*◌, ◌%◌, ◌≤◌, Bool, true, false, List, [], ◌∷◌, length, reverse, fold, AllPairs, Option, None, Some, option_map, option_and_then, if◌then◌else◌}
use Rattle.std.specs.Ordering.{nat_cmp, is_lt}
use Rattle.std.specs.Cmp.Lexicographic.{slice_cmp}
use Rattle.path_print.specs.declared.known.Known.{Known}

infixl 10 ◌>>=◌
abbrev pub ◌>>=◌ : {A B : Type 0} → Option A → (A → Option B) → Option B
o >>= f = option_and_then f o

-- Two families of labels: exact by number and whether aromatic, plain by number alone.
pub data Family : Type 0 where
  exact : Family
  plain : Family

abbrev pub flag_of : Bool → ℕ
flag_of true = 1
flag_of false = 0

-- the label of an atom with these known facts, two bytes; `None` if too little is known
abbrev pub label_of : Family → Known → Option (ℕ × ℕ)
label_of exact k = do
  number ← k.number
  aromatic ← k.aromatic
  Some (number, flag_of aromatic)
label_of plain k = option_map (λ number. (number, 2)) k.number

-- A structure as its paths see it: the label of an atom, and the byte of the bond that joins two atoms. `None` if there
-- is no label, or no byte.
pub record View : Type 0 where
  pub label : ℕ → Option (ℕ × ℕ)
  pub byte : ℕ → ℕ → Option ℕ

-- the string of a list of atoms, each joined to the next: labels, and bond bytes between
abbrev pub string_of : View → List ℕ → Option (List ℕ)
string_of v [] = None
string_of v (x ∷ []) = option_map (λ l. l.0 ∷ l.1 ∷ []) (v.label x)
string_of v (x ∷ y ∷ ys) = do
  l ← v.label x
  bond ← v.byte x y
  rest ← string_of v (y ∷ ys)
  Some (l.0 ∷ l.1 ∷ bond ∷ rest)

abbrev pub hash_of : List ℕ → ℕ
hash_of bytes = fold (λ h byte. (131 * h + byte) % 65521) 7 bytes

-- the one that comes first in lexicographic order
abbrev pub lesser : List ℕ → List ℕ → List ℕ
lesser s t = if is_lt (slice_cmp nat_cmp t s) then t else s

-- the bit of a path, from the strings of its two directions
abbrev pub bit_of : List ℕ → List ℕ → ℕ
bit_of s t = hash_of (lesser s t) % 1024

-- a path: 1 to 5 distinct atoms, each joined to the next, with its strings in both directions
pub record IsPath (v : View) (atoms there back : List ℕ) : Type 0 where
  pub short : length atoms ≤ 5
  pub distinct : AllPairs ◌≢◌ atoms
  pub reads : string_of v atoms ≡ Some there
  pub reads_back : string_of v (reverse atoms) ≡ Some back

-- the bit of a path
abbrev pub IsPathBit : View → ℕ → Type 0
IsPathBit v bit = (atoms there back : List ℕ) × IsPath v atoms there back × (bit ≡ bit_of there back)
