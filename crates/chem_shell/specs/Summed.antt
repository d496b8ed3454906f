-- For callers: the output of `bulk`, if the bytes that were put are known.
use Rattle.std.specs.Prelude.{◌≡◌, ℕ, List, [], Option}
use Rattle.chem_gen.specs.Script.{script_of}
use Rattle.chem_gen.specs.Summary.{summary_of}
use Rattle.session_acts.specs.Served.{Writes}
use Rattle.dialogue.specs.Dialogue.{IsPrefixOf}
use Rattle.chem_shell.specs.Runs.{IsTranscript}
use Rattle.chem_shell.specs.declared.request.Plan.{Plan}

-- the text is the summary of a transcript of the generated script
abbrev pub IsSummary : Plan → List ℕ → Type 0
IsSummary plan text =
    (transcript : List ℕ) × IsTranscript plan.commits plan.page (script_of plan.seed plan.count) transcript
    × (text ≡ summary_of plan.seed plan.count transcript)

-- it is a prefix of one
abbrev pub IsSummaryPrefix : Plan → List ℕ → Type 0
IsSummaryPrefix plan text = (whole : List ℕ) × IsPrefixOf text whole × IsSummary plan whole

abbrev pub WritesNothing : Option (List ℕ) → Option (List ℕ) → Type 0
WritesNothing before after = Writes before after (λ text. text ≡ [])
