use Rattle.std.proofs.Common.{◌≡◌, ℕ, List, ◌∷◌, [], length, get_or, take, drop, ◌-◌, ◌<◌, sym, ap, ◌∙◌, refl, arith}
use Rattle.smiles_words.proofs.Fronts.{front_is}
use Rattle.smarts_words.specs.Prims.{letter_byte}
use Rattle.smarts_words.proofs.Lettered.{pair_taken, count_taken, single_taken, single_refused, empty_refused}
use Rattle.smarts_words.proofs.prim.letters_at.Goals as goal

no_bytes : (xs : List ℕ) → length xs < 1 → xs ≡ []
no_bytes [] l = refl
no_bytes (x ∷ xs) l = absurd (omega arith)

pub returns-in-Some : goal.returns-in-Some
returns-in-Some c = let f = c.in-Some.ensures.found in pair_taken c.args.bytes.now c.in-Some.rest.now f.0 f.1
    c.in-Some.word f.2 f.3

pub returns-in_default-bytes : goal.returns-in_default-bytes
returns-in_default-bytes c = empty_refused c.args.bytes.now (no_bytes c.args.bytes.now c.in_default-bytes.len_below)

pub returns-in-Some-letter_of : goal.returns-in-Some-letter_of
returns-in-Some-letter_of c =
    let bytes = c.args.bytes.now in
    let front = front_is bytes (get_or bytes 0 0) c.in-len1-up.len_at_least refl in
    let r = take (length bytes - 1) (drop 1 bytes) in
    let e : get_or bytes 0 0 ≡ letter_byte c.in-Some-letter_of.letter = sym c.in-Some-letter_of.ensures in
    count_taken bytes r c.in-Some-letter_of.letter _ (front ∙ ap (λ v. v ∷ r) e) c.in_default.ensures.none
    c.count_at.ensures

pub returns-in_ok-one_letter-in-None : goal.returns-in_ok-one_letter-in-None
returns-in_ok-one_letter-in-None c =
    let bytes = c.args.bytes.now in
    let front = front_is bytes (get_or bytes 0 0) c.in-len1-up.len_at_least refl in
    single_taken bytes _ (get_or bytes 0 0) c.in_ok-one_letter-in-None.field-0 front c.in_default.ensures.none
    c.in-None.ensures c.in_ok-one_letter-in-None.ensures

pub returns-in_err-one_letter-in-None : goal.returns-in_err-one_letter-in-None
returns-in_err-one_letter-in-None c =
    let bytes = c.args.bytes.now in
    let front = front_is bytes (get_or bytes 0 0) c.in-len1-up.len_at_least refl in
    rw c.from_residual.ensures (single_refused bytes _ (get_or bytes 0 0) front c.in_default.ensures.none
    c.in-None.ensures c.in_err-one_letter-in-None.ensures)
