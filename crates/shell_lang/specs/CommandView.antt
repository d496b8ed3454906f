-- A command as it is read, without the places of its parts, and the lines that a line takes.
use Rattle.std.specs.Prelude.{ℕ, List, Result, Ok, Err}
use Rattle.shell_lang.specs.declared.command.LineRefusal.{LineRefusal}
use Rattle.shell_lang.specs.declared.command.Command as read
use Rattle.shell_lang.specs.declared.command.Command.TheVariants as variants
use Rattle.shell_lang.specs.declared.command.TakenLines.{TakenLines}
use Rattle.shell_lang.specs.declared.command.TakenLines.TheVariants as taken
use Rattle.shell_lang.specs.Command.{Command, Empty, Register, RegisterNew, Revise, RegisterMol, ReviseMol, RegisterSd, Withdraw, Show, Data, Search, Same, Similar, Start, Next, Close, Watch, Hits, Unwatch, Prune, Compact, Stats, IsLine, StartsMolfile, TakesRecords, molfile_command, records_command}

abbrev pub command_of : read.Command → Command
command_of variants.Empty = Empty
command_of (variants.Register id text) = Register id text.now
command_of (variants.RegisterNew id text) = RegisterNew id text.now
command_of (variants.Revise id text) = Revise id text.now
command_of (variants.RegisterMol id) = RegisterMol id
command_of (variants.ReviseMol id) = ReviseMol id
command_of (variants.RegisterSd id count) = RegisterSd id count
command_of (variants.Withdraw id) = Withdraw id
command_of (variants.Show id) = Show id
command_of (variants.Data id name) = Data id name.now
command_of (variants.Search pattern) = Search pattern.now
command_of (variants.Same text) = Same text.now
command_of (variants.Similar p q k text) = Similar p q k text.now
command_of (variants.Start name pattern) = Start name.now pattern.now
command_of (variants.Next name) = Next name.now
command_of (variants.Close name) = Close name.now
command_of (variants.Watch name text) = Watch name.now text.now
command_of (variants.Hits name) = Hits name.now
command_of (variants.Unwatch name) = Unwatch name.now
command_of variants.Prune = Prune
command_of variants.Compact = Compact
command_of variants.Stats = Stats

-- the line takes these lines after it
abbrev pub Takes : TakenLines → List ℕ → Type 0
Takes (taken.Molfile read) line = StartsMolfile line × IsLine line (molfile_command read)
Takes (taken.Records count first) line =
    ((part : List ℕ) × TakesRecords line part count) × IsLine line (records_command count first)

abbrev pub reading_of : Result read.Command LineRefusal → Result Command LineRefusal
reading_of (Ok command) = Ok (command_of command)
reading_of (Err refusal) = Err refusal
