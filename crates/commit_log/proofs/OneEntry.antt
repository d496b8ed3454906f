-- A payload is written for one entry.
use Rattle.std.proofs.Common.{◌≡◌, ◌<◌, ◌^◌, ℕ, List, ◌∷◌, ◌++◌, take, drop, refl, sym, ◌∙◌, ap, arith}
use Rattle.std.proofs.lemmas.List.{take_at, drop_at}
use Rattle.std.proofs.lemmas.Nat.{from_le_bytes-to_le_bytes_4}
use Rattle.std.specs.Int.{to_le_bytes, from_le_bytes, w32}
use Rattle.commit_log.specs.Base.{Follows}
use Rattle.commit_log.specs.Change.{format_byte}
use Rattle.commit_log.specs.Entry.{Entry, EntryState, IsInRange, live, withdrawn, kind, tail, written}
use Rattle.commit_log.proofs.OneLog.{same_format}

first_is : (a b : ℕ) (xs ys : List ℕ) → a ∷ xs ≡ b ∷ ys → a ≡ b
first_is a b xs ys is = cc is

behind_is : (a b : ℕ) (xs ys : List ℕ) → a ∷ xs ≡ b ∷ ys → xs ≡ ys
behind_is a b xs ys is = cc is

-- a number in four bytes, and what is behind it
same_number : (m n : ℕ) (xs ys : List ℕ) → m < 2 ^ 32 → n < 2 ^ 32 → to_le_bytes w32 m ++ xs ≡ to_le_bytes w32 n ++ ys
    → (m ≡ n) × (xs ≡ ys)
same_number m n xs ys p q is =
    let fields : to_le_bytes w32 m ≡ to_le_bytes w32 n =
    sym (take_at (to_le_bytes w32 m) xs 4 refl) ∙ ap (λ (l : List ℕ). take 4 l) is
    ∙ take_at (to_le_bytes w32 n) ys 4 refl in (
      sym (from_le_bytes-to_le_bytes_4 m p) ∙ ap (λ (l : List ℕ). from_le_bytes w32 l) fields
          ∙ from_le_bytes-to_le_bytes_4 n q,
      sym (drop_at (to_le_bytes w32 m) xs 4 refl) ∙ ap (λ (l : List ℕ). drop 4 l) is
          ∙ drop_at (to_le_bytes w32 n) ys 4 refl,
    )

-- a kind and what is behind the numbers say the state
same_state : (s t : EntryState) → kind s ≡ kind t → tail s ≡ tail t → s ≡ t
same_state (live f x) (live g y) k is =
    let format = same_format f g (first_is (format_byte f) (format_byte g) x y is) in
    let text = behind_is (format_byte f) (format_byte g) x y is in
    λ i. live (format i) (text i)
same_state (live f x) withdrawn k is = absurd (omega (arith, k))
same_state withdrawn (live g y) k is = absurd (omega (arith, k))
same_state withdrawn withdrawn k is = refl

numbers : (e : Entry) → to_le_bytes w32 e.id ++ to_le_bytes w32 e.version ++ tail e.state
    ≡ to_le_bytes w32 e.id ++ (to_le_bytes w32 e.version ++ tail e.state)
numbers e = refl

pub one_entry : (d e : Entry) → IsInRange d → IsInRange e → written d ≡ written e → d ≡ e
one_entry d e p q is =
    let behind = behind_is (kind d.state) (kind e.state) _ _ is in
    let ids = same_number d.id e.id (to_le_bytes w32 d.version ++ tail d.state)
    (to_le_bytes w32 e.version ++ tail e.state)
    (omega (arith, p.1)) (omega (arith, q.1)) (sym (numbers d) ∙ behind ∙ numbers e) in
    let versions = same_number d.version e.version (tail d.state) (tail e.state) p.2 q.2 ids.1 in
    let states = same_state d.state e.state (first_is (kind d.state) (kind e.state) _ _ is) versions.1 in
    λ i. record { id = ids.0 i; version = versions.0 i; state = states i }

-- what may follow in a base is in range
pub is_in_range : (version last : ℕ) (e : Entry) → version < 2 ^ 32 → Follows version last e → IsInRange e
is_in_range version last e fits f = (omega (arith, f.above), f.in_range, omega (arith, f.past, fits))
