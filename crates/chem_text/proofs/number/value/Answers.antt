use Rattle.std.proofs.lemmas.Fmt.{IsAscii-from_digits}
use Rattle.std.proofs.lemmas.Str.{IsUtf8-from_ascii}
use Rattle.chem_text.proofs.number.value.Goals as goal

-- digits are text
pub returns-in-Err : goal.returns-in-Err
returns-in-Err c (some, digits, fits) = let bytes = c.args.bytes.now in
    c.in-Err.ensures.cases.0 (IsUtf8-from_ascii bytes (IsAscii-from_digits bytes digits))
