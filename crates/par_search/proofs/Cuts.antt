-- Records cut into pieces, each with its worker's flags.
use Rattle.std.proofs.Common.{◌≡◌, ◌+◌, ◌*◌, ◌++◌, ◌<◌, ◌≤◌, ◌∙◌, ap, ap₂, arith, drop, get_or, length, length-append, List, take-append-drop, subst, sym, take, ℕ}
use Rattle.std.proofs.Math.Nat.{mul-le-mul_right}
use Rattle.std.proofs.Math.Seq.{take-add, take_all}
use Rattle.std.proofs.lemmas.List.{drop-drop, map-append}
use Rattle.std.proofs.lemmas.Option.{slice_get-get_or}
use Rattle.std.specs.Arc.{arc_value}
use Rattle.std.specs.Int.{div_ceil}
use Rattle.smarts_parse.specs.Pattern.{PatternTerm}
use Rattle.store_core.specs.Records.{Shared, found_of, founds}
use Rattle.par_search.specs.Flags.{AreFlagged, AreFlags, WorkerTerm, piece_of}
use Rattle.par_search.proofs.Shares.{shares-cover}

pub one-more : (i size : ℕ) → (i + 1) * size ≡ i * size + size
one-more i size = omega arith

-- what is behind one piece more
pub rest-next : {X : Type 0} (i size : ℕ) (xs rest behind : List X) → rest ≡ drop (i * size) xs → behind ≡ drop size rest
    → behind ≡ drop ((i + 1) * size) xs
rest-next i size xs rest behind e f =
    f ∙ ap (drop size) e ∙ drop-drop size (i * size) xs ∙ ap (λ n. drop n xs) (sym (one-more i size))

-- the flags of a worker's piece
pub flags-of : (p : PatternTerm) (size i : ℕ) (records rest piece : List Shared) (ws : List WorkerTerm) (d : WorkerTerm)
    → AreFlagged p records ws → size ≡ div_ceil (length records) (length ws) → i < length ws
    → rest ≡ drop (i * size) records → piece ≡ take size rest → AreFlags p piece (get_or ws i d).flags
flags-of p size i records rest piece ws d all is less e f =
    let here : AreFlags p (piece_of size i records) (get_or ws i d).flags =
    subst (λ s. AreFlags p (piece_of s i records) (get_or ws i d).flags) (sym is)
    (all i (get_or ws i d) (slice_get-get_or ws i d less)) in
    subst (λ l. AreFlags p l (get_or ws i d).flags) (sym (f ∙ ap (take size) e)) here

-- the records up to one piece more
pub founds-next : (i size : ℕ) (records rest piece : List Shared) → rest ≡ drop (i * size) records
    → piece ≡ take size rest
    → founds (take (i * size) records) ++ founds piece ≡ founds (take ((i + 1) * size) records)
founds-next i size records rest piece e f =
    let more : take ((i + 1) * size) records ≡ take (i * size) records ++ piece =
    ap (λ n. take n records) (one-more i size) ∙ take-add (i * size) size records
    ∙ ap (λ l. take (i * size) records ++ l) (sym (f ∙ ap (take size) e)) in
    sym (ap founds more ∙ map-append (λ (r : Shared). found_of (arc_value r)) (take (i * size) records) piece)

at-least : (length k n q : ℕ) → length ≤ q * k → k ≤ n → length ≤ n * q
at-least length k n q covers le = let times : k * q ≤ n * q = mul-le-mul_right q le in omega (arith, covers, times)

-- all pieces together are all records
pub all-taken : {X : Type 0} (k n size : ℕ) (items : List X) → 1 ≤ k → k ≤ n → size ≡ div_ceil (length items) k
    → take (n * size) items ≡ items
all-taken k n size items some le is =
    take_all (n * size) items (subst (λ s. length items ≤ n * s) (sym is)
    (at-least (length items) k n (div_ceil (length items) k) (shares-cover (length items) k some) le))

pub cut-lengths : (size : ℕ) (rest piece behind : List Shared) → piece ≡ take size rest → behind ≡ drop size rest
    → length piece + length behind ≡ length rest
cut-lengths size rest piece behind e f =
    let whole : piece ++ behind ≡ rest = ap₂ (λ xs ys. xs ++ ys) e f ∙ take-append-drop size rest in
    omega (arith, length-append piece behind, ap (λ l. length l) whole)
