-- For private clauses alone: the view of a watch, the lines of its hits, and how watches come and go.
use Rattle.std.specs.Prelude.{◌≡◌, ◌⊎◌, ◌++◌, [], ◌∷◌, length, List, map, None, Ok, Option, Result, Some, ℕ}
use Rattle.shell_lang.specs.Reply as line
use Rattle.shell_lang.specs.Reply.{text_of}
use Rattle.shell_lang.specs.declared.reply.Refusal.TheVariants as refusals
use Rattle.smarts_parse.specs.Pattern.{PatternTerm}
use Rattle.watch_list.specs.Watches.{Watch, filled}
use Rattle.session_acts.specs.Acts.{hit_lines}
use Rattle.session_acts.specs.Watching.{IsUnwatched, Watched, new_watch, watch_of, without}
use Rattle.session_run.specs.Made.{Tells, TellsAll}
use Rattle.dialogue.specs.declared.end.Stop.{Stop}
use Rattle.session_run.specs.declared.watches.View.{View}

-- the view of a watch
abbrev pub IsViewOf : View → Option Watch → Type 0
IsViewOf v None = ⊥
IsViewOf v (Some w) =
    (v.pattern.now ≡ w.pattern) × (v.version ≡ w.version) × (v.hits.now ≡ w.hits) × (v.rebuilt ≡ w.fills)

-- a pattern is watched from now on, and the line says so; or memory ran out, and the watches are as they were
abbrev pub Adds : List ℕ → PatternTerm → ℕ → List ℕ → List Watched → List Watched → List ℕ → List ℕ
    → Result (Unit {0}) Stop → Type 0
Adds name pattern version hits old new out out' result =
    ((new ≡ old ++ new_watch name pattern version hits ∷ [])
    × Tells (line.Watching version (length hits)) out out' result)
    ⊎ ((new ≡ old) × Tells line.MemoryFault out out' result)

-- hits were listed, or the line says that memory ran out
abbrev pub TellsHits : ℕ → List ℕ → ℕ → List ℕ → List ℕ → Result (Unit {0}) Stop → Type 0
TellsHits version hits rebuilt out out' result = TellsAll (hit_lines version hits rebuilt) out out' result

-- other hits of the watch of a name were listed, and are kept; or memory ran out, and the watches are as they were
abbrev pub Fills : List ℕ → ℕ → List ℕ → ℕ → List Watch → List Watch → List ℕ → List ℕ → Result (Unit {0}) Stop
    → Type 0
Fills name version hits rebuilt old new out out' result =
    ((new ≡ map (filled name version hits) old) × (result ≡ Ok tt)
    × (out' ≡ out ++ text_of (hit_lines version hits rebuilt)))
    ⊎ ((new ≡ old) × Tells line.MemoryFault out out' result)

-- the watch of a name was removed, or there is no such watch
abbrev pub Unwatches : List ℕ → List Watched → List Watched → List ℕ → List ℕ → Result (Unit {0}) Stop → Type 0
Unwatches name old new out out' result =
    ((w : Watched) × (watch_of name old ≡ Some w) × (new ≡ without name old) × Tells line.Unwatched out out' result)
    ⊎ (IsUnwatched old name × (new ≡ old) × Tells (line.Refused refusals.Watch) out out' result)
