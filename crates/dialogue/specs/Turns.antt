-- For private clauses alone: a dialogue under way, what a turn leaves of it, and how it ends with one.
use Rattle.std.specs.Prelude.{◌⊎◌, ◌≤◌, ◌<◌, ◌^◌, ℕ, List, [], Option, None, Some}
use Rattle.std.specs.Io.KnownBytes.{Appends}
use Rattle.io_edge.specs.Sink.{AppendsPrefix}
use Rattle.io_edge.specs.Lines.{Reading, TextLine, done_bytes}
use Rattle.io_edge.specs.declared.lines.LineFault.{LineFault}
use Rattle.io_edge.specs.declared.lines.LineFault.TheVariants as line_faults
use Rattle.dialogue.specs.Dialogue.{AreExchanged, AreWhole, Exchange, calls_in, lines_in, text_in}
use Rattle.dialogue.specs.Answers.{Breaks, CutsShort, Replies, TalkModel, TalksTo}
use Rattle.dialogue.specs.Reads.{HasRead}
use Rattle.dialogue.specs.declared.end.EndStatus.{EndStatus}
use Rattle.dialogue.specs.declared.end.EndStatus.TheVariants.{SourceFault, SinkFault, NoMemory, InputTooLong, Worn}

-- where a dialogue began: what is kept, the peer, and what is left and put
pub record Start (K P : Type 0) : Type 0 where
  pub kept : K
  pub peer : P
  pub limit : ℕ
  pub left : Option (List ℕ)
  pub put : Option (List ℕ)

abbrev pub start_at : {K P : Type 0} → K → P → ℕ → Option (List ℕ) → Option (List ℕ) → Start K P
start_at kept peer limit left put = record { kept = kept; peer = peer; limit = limit; left = left; put = put }

-- A dialogue under way: its requests so far were answered whole, and their lines are those that were read
pub record IsUnderWay {T P : Type 0} (t : TalkModel T P) (start : Start t.manner.Kept P) (talker : T) (peer : P)
    (left put : Option (List ℕ)) (reading : Reading) : Type 0 where
  pub exchanges : List (Exchange t.manner.Call t.manner.Reply)
  pub kept : t.manner.Kept
  pub whole : AreWhole t.manner exchanges
  pub exchanged : AreExchanged t.manner start.kept exchanges kept
  pub made : t.Made start.peer peer (calls_in t.manner exchanges)
  pub wrote : Appends start.put put (text_in t.manner exchanges)
  pub number : ℕ
  pub few : number ≤ done_bytes reading
  pub below : start.limit < 2 ^ 64
  pub ready : t.IsReady talker peer kept [] number
  pub read : HasRead start.limit start.left left reading (lines_in t.manner exchanges)

-- A dialogue that ended
pub record HasEnded {T P : Type 0} (t : TalkModel T P) (start : Start t.manner.Kept P) (end : EndStatus) (talker : T)
    (peer : P) (left put : Option (List ℕ)) (reading : Reading) : Type 0 where
  pub talks : TalksTo t end start.kept talker start.peer peer start.left left start.put put
  pub lines : List TextLine
  pub read : HasRead start.limit start.left left reading lines

-- what a turn leaves of a dialogue, by how it ends with it, if it does
abbrev pub Leaves : {T P : Type 0} → (t : TalkModel T P) → Start t.manner.Kept P → Option EndStatus → T → P
    → Option (List ℕ) → Option (List ℕ) → Reading → Type 0
Leaves t start None talker peer left put reading = IsUnderWay t start talker peer left put reading
Leaves t start (Some end) talker peer left put reading = HasEnded t start end talker peer left put reading

-- what was put of the reply to a request, by how the dialogue ends with it, if it does
abbrev pub Turned : {T P : Type 0} → (t : TalkModel T P) → Option EndStatus → T → P → P → t.manner.Kept
    → List TextLine → ℕ → Option (List ℕ) → Option (List ℕ) → Type 0
Turned t None talker peer peer' kept request n put put' =
    (r : Replies t talker peer peer' kept request n) × Appends put put' (t.manner.text_of r.reply)
Turned t (Some SinkFault) talker peer peer' kept request n put put' =
    (r : Replies t talker peer peer' kept request n) × AppendsPrefix put put' (t.manner.text_of r.reply)
Turned t (Some NoMemory) talker peer peer' kept request n put put' =
    (Replies t talker peer peer' kept request n ⊎ CutsShort t talker peer peer' kept request) × Appends put put' []
Turned t (Some Worn) talker peer peer' kept request n put put' =
    Breaks t peer peer' kept request × Appends put put' []
Turned t (Some _) talker peer peer' kept request n put put' = ⊥

abbrev pub end_by : LineFault → EndStatus
end_by line_faults.Source = SourceFault
end_by line_faults.TooLong = InputTooLong
