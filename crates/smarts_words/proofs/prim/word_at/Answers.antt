use Rattle.std.proofs.Common.{◌-◌, length, take, drop, get_or, inl, inr, refl, arith}
use Rattle.smiles_words.proofs.Fronts.{front_is}
use Rattle.smarts_words.proofs.Taken.{atomic_taken, atomic_refused, mass_taken, mass_refused, charges_taken, stereo_taken}
use Rattle.smarts_words.proofs.prim.word_at.Goals as goal

pub returns-in-64 : goal.returns-in-64
returns-in-64 c =
    let bytes = c.args.bytes.now in
    let f = c.after_stereo.ensures in
    stereo_taken bytes (take (length bytes - 1) (drop 1 bytes)) c.after_stereo.result.now f.0
    (front_is bytes 64 c.in-64.len_at_least (omega arith)) f.1 f.2 f.3

pub returns-in_ok-number-in-35 : goal.returns-in_ok-number-in-35
returns-in_ok-number-in-35 c =
    let bytes = c.args.bytes.now in
    atomic_taken bytes (take (length bytes - 1) (drop 1 bytes)) c.in_ok-number-in-35.rest.now
    c.in_ok-number-in-35.number (front_is bytes 35 c.in-35.len_at_least (omega arith)) c.in_ok-number-in-35.ensures

pub returns-in_err-number-in-35 : goal.returns-in_err-number-in-35
returns-in_err-number-in-35 c =
    let bytes = c.args.bytes.now in
    rw c.from_residual.ensures (atomic_refused bytes (take (length bytes - 1) (drop 1 bytes)) (front_is bytes 35
    c.in-35.len_at_least (omega arith)) c.in_err-number-in-35.ensures)

pub returns-in_ok-number-in-len1-up : goal.returns-in_ok-number-in-len1-up
returns-in_ok-number-in-len1-up c =
    let bytes = c.args.bytes.now in
    mass_taken bytes (take (length bytes - 1) (drop 1 bytes)) c.in_ok-number-in-len1-up.rest.now (get_or bytes 0 0)
    c.in_ok-number-in-len1-up.number (front_is bytes (get_or bytes 0 0) c.in-len1-up.len_at_least refl)
    (c.is_digit.ensures.0 c.if-is_digit.true) c.in_ok-number-in-len1-up.ensures

pub returns-in_err-number-in-len1-up : goal.returns-in_err-number-in-len1-up
returns-in_err-number-in-len1-up c =
    let bytes = c.args.bytes.now in
    rw c.from_residual-in_err-number-in-len1-up.ensures (mass_refused bytes (take (length bytes - 1) (drop 1 bytes))
    (get_or bytes 0 0) (front_is bytes (get_or bytes 0 0) c.in-len1-up.len_at_least refl)
    (c.is_digit.ensures.0 c.if-is_digit.true) c.in_err-number-in-len1-up.ensures)

pub returns-in-43 : goal.returns-in-43
returns-in-43 c =
    let bytes = c.args.bytes.now in
    charges_taken bytes (take (length bytes - 1) (drop 1 bytes)) 43 _
    (front_is bytes 43 c.in-43.len_at_least (omega arith)) (inl refl) c.signs_at.ensures

pub returns-in-45 : goal.returns-in-45
returns-in-45 c =
    let bytes = c.args.bytes.now in
    charges_taken bytes (take (length bytes - 1) (drop 1 bytes)) 45 _
    (front_is bytes 45 c.in-45.len_at_least (omega arith)) (inr refl) c.signs_at-in-45.ensures
