-- For callers: reply lines, as they are written.
use Rattle.std.specs.Prelude.{ℕ, Bool, true, false, List, [], ◌∷◌, ◌++◌, codes, count_by, ◌==◌, if◌then◌else◌}
use Rattle.std.specs.Arc.{arc_value}
use Rattle.std.specs.List.{flat_map}
use Rattle.std.specs.Fmt.{decimal}
use Rattle.mol_finish.specs.declared.fault.Format.{Format}
use Rattle.mol_finish.specs.declared.fault.Format.TheVariants as formats
use Rattle.mol_finish.specs.declared.fault.TextFault.{TextFault}
use Rattle.mol_finish.specs.declared.fault.TextFault.TheVariants as texts
use Rattle.molfile_read.specs.declared.fault.MolfileFault.{MolfileFault}
use Rattle.molfile_read.specs.declared.fault.MolfileFault.TheVariants as molfiles
use Rattle.smarts_parse.specs.declared.fault.SmartsFault.{SmartsFault}
use Rattle.smarts_parse.specs.declared.fault.SmartsFault.TheVariants as patterns
use Rattle.smiles_read.specs.declared.fault.SmilesFault.{SmilesFault}
use Rattle.smiles_read.specs.declared.fault.SmilesFault.TheVariants as smiles
use Rattle.shell_lang.specs.declared.command.LineRefusal.{LineRefusal}
use Rattle.shell_lang.specs.declared.command.LineRefusal.TheVariants as lines
use Rattle.shell_lang.specs.declared.reply.Refusal.{Refusal}
use Rattle.shell_lang.specs.declared.reply.Refusal.TheVariants as refusals
use Rattle.shell_lang.specs.declared.reply.Reply as written
use Rattle.shell_lang.specs.declared.reply.Reply.TheVariants as replies

-- A reply, without the place of a record in memory
pub data Reply : Type 0 where
  Accepted : (version : ℕ) → Reply
  Shown : (id version : ℕ) (format : Format) (text : List ℕ) → Reply
  Gone : (id version : ℕ) → Reply
  Data : (id : ℕ) (text : List ℕ) → Reply
  Hit : (id : ℕ) → Reply
  End : (version tried hits : ℕ) → Reply
  Like : (id c u : ℕ) → Reply
  Scored : (version scored hits : ℕ) → Reply
  Opened : (version : ℕ) → Reply
  More : Reply
  Closed : Reply
  Watching : (version hits : ℕ) → Reply
  EndWatched : (version hits rebuilt : ℕ) → Reply
  Unwatched : Reply
  Pruned : (count : ℕ) → Reply
  Compacting : (left : ℕ) → Reply
  Compacted : (generation : ℕ) → Reply
  Counts : (version live withdrawn kept pins : ℕ) → Reply
  Refused : Refusal → Reply
  DiskFault : (doubt : Bool) → Reply
  MemoryFault : Reply

abbrev pub line_words : LineRefusal → List ℕ
line_words lines.Syntax = codes "refused syntax"
line_words lines.Id = codes "refused id"

abbrev pub smiles_words : SmilesFault → List ℕ
smiles_words smiles.Syntax = codes "refused smiles syntax"
smiles_words smiles.Ring = codes "refused smiles ring"
smiles_words smiles.Limit = codes "refused smiles limit"
smiles_words (smiles.Aromatic place) = codes "refused smiles aromatic " ++ decimal place
smiles_words smiles.NoMemory = codes "fault memory"

abbrev pub molfile_words : MolfileFault → List ℕ
molfile_words molfiles.Header = codes "refused molfile header"
molfile_words (molfiles.Columns line) = codes "refused molfile columns " ++ decimal line
molfile_words (molfiles.Bond line) = codes "refused molfile bond " ++ decimal line
molfile_words (molfiles.Query line) = codes "refused molfile query " ++ decimal line
molfile_words molfiles.Limit = codes "refused molfile limit"
molfile_words molfiles.Cut = codes "refused molfile cut"
molfile_words molfiles.NoMemory = codes "fault memory"

abbrev pub text_words : TextFault → List ℕ
text_words (texts.Smiles fault) = smiles_words fault
text_words (texts.Molfile fault) = molfile_words fault
text_words texts.NoMemory = codes "fault memory"

abbrev pub pattern_words : SmartsFault → List ℕ
pattern_words patterns.Reaction = codes "refused smarts reaction"
pattern_words patterns.Syntax = codes "refused smarts syntax"
pattern_words patterns.Stereo = codes "refused smarts stereo"
pattern_words patterns.RingSet = codes "refused smarts ringset"
pattern_words patterns.Ring = codes "refused smarts ring"
pattern_words patterns.Limit = codes "refused smarts limit"
pattern_words patterns.NoMemory = codes "fault memory"

abbrev pub refusal_words : Refusal → List ℕ
refusal_words refusals.Long = codes "refused long"
refusal_words (refusals.Line refusal) = line_words refusal
refusal_words refusals.SdCut = codes "refused sd cut"
refusal_words refusals.SdLimit = codes "refused sd limit"
refusal_words (refusals.Text fault) = text_words fault
refusal_words (refusals.Pattern fault) = pattern_words fault
refusal_words refusals.Cursor = codes "refused cursor"
refusal_words refusals.Watch = codes "refused watch"
refusal_words refusals.Watches = codes "refused watches"
refusal_words (refusals.Same id) = codes "refused same " ++ decimal id
refusal_words refusals.Known = codes "refused known"
refusal_words refusals.Absent = codes "refused absent"
refusal_words refusals.Withdrawn = codes "refused withdrawn"
refusal_words refusals.Data = codes "refused data"
refusal_words refusals.Full = codes "refused full"
refusal_words refusals.Pins = codes "refused pins"
refusal_words refusals.Generation = codes "refused generation"

-- a text whose every line is ended by LF: one is added if the last line has none
abbrev pub ended : List ℕ → List ℕ
ended [] = []
ended (b ∷ []) = if b == 10 then 10 ∷ [] else b ∷ 10 ∷ []
ended (b ∷ c ∷ bs) = b ∷ ended (c ∷ bs)

abbrev pub line_count : List ℕ → ℕ
line_count text = count_by (λ b. b == 10) (ended text)

-- a SMILES, or the number of lines of a molfile that follow
abbrev pub text_part : Format → List ℕ → List ℕ
text_part formats.Smiles text = codes " smiles " ++ text
text_part formats.Molfile text = codes " molfile " ++ decimal (line_count text)

-- the lines of a molfile; no lines of a SMILES
abbrev pub molfile_lines : Format → List ℕ → List ℕ
molfile_lines formats.Smiles text = []
molfile_lines formats.Molfile text = ended text

abbrev pub lines_after : Reply → List ℕ
lines_after (Shown id version format text) = molfile_lines format text
lines_after (Data id text) = ended text
lines_after reply = []

abbrev pub record_words : ℕ → ℕ → Format → List ℕ → List ℕ
record_words id version format text =
    codes "record " ++ (decimal id ++ (codes " version " ++ (decimal version ++ text_part format text)))

-- the number of lines of data that follow
abbrev pub data_words : ℕ → List ℕ → List ℕ
data_words id text = codes "data " ++ (decimal id ++ (codes " " ++ decimal (line_count text)))

abbrev pub like_words : ℕ → ℕ → ℕ → List ℕ
like_words id c u = codes "like " ++ (decimal id ++ (codes " " ++ (decimal c ++ (codes " " ++ decimal u))))

abbrev pub scored_words : ℕ → ℕ → ℕ → List ℕ
scored_words version scored hits =
    codes "end at " ++ (decimal version ++ (codes " scored " ++ (decimal scored ++ (codes " hits " ++ decimal hits))))

abbrev pub watching_words : ℕ → ℕ → List ℕ
watching_words version hits = codes "watching " ++ (decimal version ++ (codes " hits " ++ decimal hits))

abbrev pub watched_words : ℕ → ℕ → ℕ → List ℕ
watched_words version hits rebuilt =
    codes "end at " ++ (decimal version ++ (codes " hits " ++ (decimal hits ++ (codes " rebuilt " ++ decimal rebuilt))))

abbrev pub live_words : ℕ → ℕ → List ℕ
live_words version live = codes "stats version " ++ (decimal version ++ (codes " live " ++ decimal live))

abbrev pub kept_words : ℕ → ℕ → ℕ → List ℕ
kept_words withdrawn kept pins =
    codes " withdrawn " ++ (decimal withdrawn ++ (codes " kept " ++ (decimal kept ++ (codes " pins " ++ decimal pins))))

abbrev pub count_words : ℕ → ℕ → ℕ → ℕ → ℕ → List ℕ
count_words version live withdrawn kept pins = live_words version live ++ kept_words withdrawn kept pins

abbrev pub doubt_words : Bool → List ℕ
doubt_words true = codes "fault disk doubt"
doubt_words false = codes "fault disk sure"

abbrev pub reply_words : Reply → List ℕ
reply_words (Accepted version) = codes "ok " ++ decimal version
reply_words (Shown id version format text) = record_words id version format text
reply_words (Gone id version) = codes "withdrawn " ++ (decimal id ++ (codes " version " ++ decimal version))
reply_words (Data id text) = data_words id text
reply_words (Hit id) = codes "hit " ++ decimal id
reply_words (End version tried hits) =
    codes "end at " ++ (decimal version ++ (codes " tried " ++ (decimal tried ++ (codes " hits " ++ decimal hits))))
reply_words (Like id c u) = like_words id c u
reply_words (Scored version scored hits) = scored_words version scored hits
reply_words (Opened version) = codes "opened " ++ decimal version
reply_words More = codes "more"
reply_words Closed = codes "closed"
reply_words (Watching version hits) = watching_words version hits
reply_words (EndWatched version hits rebuilt) = watched_words version hits rebuilt
reply_words Unwatched = codes "unwatched"
reply_words (Pruned count) = codes "pruned " ++ decimal count
reply_words (Compacting left) = codes "compacting " ++ decimal left
reply_words (Compacted generation) = codes "compacted " ++ decimal generation
reply_words (Counts version live withdrawn kept pins) = count_words version live withdrawn kept pins
reply_words (Refused refusal) = refusal_words refusal
reply_words (DiskFault doubt) = doubt_words doubt
reply_words MemoryFault = codes "fault memory"

-- each line is followed by LF
abbrev pub reply_line : Reply → List ℕ
reply_line reply = reply_words reply ++ 10 ∷ lines_after reply

abbrev pub text_of : List Reply → List ℕ
text_of replies = flat_map reply_line replies

-- the reply that is written
abbrev pub reply_of : written.Reply → Reply
reply_of (replies.Accepted version) = Accepted version
reply_of (replies.Shown version entry) =
    Shown (arc_value entry).id version (arc_value entry).format (arc_value entry).text
reply_of (replies.Gone id version) = Gone id version
reply_of (replies.Hit id) = Hit id
reply_of (replies.End version tried hits) = End version tried hits
reply_of (replies.Like id c u) = Like id c u
reply_of (replies.Scored version scored hits) = Scored version scored hits
reply_of (replies.Opened version) = Opened version
reply_of replies.More = More
reply_of replies.Closed = Closed
reply_of (replies.Watching version hits) = Watching version hits
reply_of (replies.EndWatched version hits rebuilt) = EndWatched version hits rebuilt
reply_of replies.Unwatched = Unwatched
reply_of (replies.Pruned count) = Pruned count
reply_of (replies.Compacting left) = Compacting left
reply_of (replies.Compacted generation) = Compacted generation
reply_of (replies.Counts n) = Counts n.version n.live n.withdrawn n.kept n.pins
reply_of (replies.Refused refusal) = Refused refusal
reply_of (replies.DiskFault doubt) = DiskFault doubt
reply_of replies.MemoryFault = MemoryFault
