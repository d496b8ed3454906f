-- For private clauses alone: how a search begins, and its answer from its pin on.
use Rattle.std.specs.Prelude.{◌≡◌, ◌++◌, ℕ, Bool, true, false, List, [], ◌∷◌, Option, None, Some, Result, Ok, Err}
use Rattle.par_search.specs.Searches.{SearchTerm}
use Rattle.par_search.specs.declared.fault.SearchFault.{SearchFault}
use Rattle.par_search.specs.declared.fault.SearchFault.TheVariants as faults
use Rattle.shell_lang.specs.Reply as line
use Rattle.shell_lang.specs.Reply.{reply_of}
use Rattle.shell_lang.specs.declared.reply.Reply as written
use Rattle.shell_lang.specs.declared.reply.Reply.TheVariants as lines
use Rattle.shell_lang.specs.declared.reply.Refusal.TheVariants as refusals
use Rattle.smarts_parse.specs.Pattern.{pattern_of}
use Rattle.smarts_parse.specs.declared.fault.SmartsFault.{SmartsFault}
use Rattle.smarts_parse.specs.declared.fault.SmartsFault.TheVariants as patterns
use Rattle.store_machine.specs.Searches.{Place, At}
use Rattle.store_machine.specs.Structures.{IsNeedOf}
use Rattle.store_machine.specs.declared.machine.Event.TheVariants as events
use Rattle.store_machine.specs.declared.machine.Reply.TheVariants as replies
use Rattle.session_acts.specs.Acts.{Lines, Lists}
use Rattle.session_acts.specs.Cursors.{Calls, Cursor, IsSearched, unpins}
use Rattle.dialogue.specs.Dialogue.{IsPrefixOf}
use Rattle.session_run.specs.declared.listing.Walk.{Walk}
use Rattle.dialogue.specs.declared.end.Stop.{Stop}
use Rattle.dialogue.specs.declared.end.Stop.TheVariants as stops

-- a search that has listed nothing
pub record IsNew (walk : Walk) : Type 0 where
  pub place : walk.search.place ≡ At 0
  pub need : IsNeedOf (pattern_of walk.search.pattern) walk.search.want
  pub tried : walk.tried ≡ 0
  pub hits : walk.hits ≡ 0

-- how a search begins
abbrev pub Begins : (Calls → Type 0) → Type 0 → Result Walk SearchFault → Type 0
Begins Made IsWorn (Ok walk) = Made ((events.Pin, replies.Pinned walk.search.slot walk.search.version) ∷ [])
Begins Made IsWorn (Err faults.Pins) = Made ((events.Pin, replies.NoPin) ∷ [])
Begins Made IsWorn (Err faults.Worn) = Made [] × IsWorn
Begins Made IsWorn (Err faults.NoMemory) = Made []

-- the line of a search that did not begin
abbrev pub IsFaultLine : SearchFault → Result written.Reply Stop → Type 0
IsFaultLine faults.Pins said = said ≡ Ok (lines.Refused refusals.Pins)
IsFaultLine faults.NoMemory said = said ≡ Ok lines.MemoryFault
IsFaultLine faults.Worn said = said ≡ Err stops.Worn

-- how its pin is given back
abbrev pub Returns : (Calls → Type 0) → Type 0 → ℕ → Result (Unit {0}) Stop → Type 0
Returns Made IsWorn slot (Ok _) = Made ((events.Unpin slot, replies.Unpinned) ∷ [])
Returns Made IsWorn slot (Err stops.Worn) = Made [] × IsWorn
Returns Made IsWorn slot (Err stops.NoMemory) = ⊥

-- how the pins of all cursors are given back
abbrev pub ReturnsAll : (Calls → Type 0) → Type 0 → List Cursor → Result (Unit {0}) Stop → Type 0
ReturnsAll Made IsWorn cursors (Ok _) = Made (unpins cursors)
ReturnsAll Made IsWorn cursors (Err stops.Worn) =
    (calls : Calls) × Made calls × IsPrefixOf calls (unpins cursors) × IsWorn
ReturnsAll Made IsWorn cursors (Err stops.NoMemory) = ⊥

-- pages are listed, and the pin is given back
pub record PinAnswer (search : SearchTerm) (calls : Calls) (said : Lines) (after : Unit {0}) : Type 0 where
  pub place : Place
  pub pages : Calls
  pub tried : ℕ
  pub hits : List ℕ
  pub made : calls ≡ pages ++ (events.Unpin search.slot, replies.Unpinned) ∷ []
  pub searched : IsSearched (pattern_of search.pattern) search.slot search.size place pages tried hits
  pub lists : Lists place search.version tried hits said

-- the line of a text that is no pattern. Want of memory is no refusal
abbrev pub IsPatternRefusal : SmartsFault → line.Reply → Type 0
IsPatternRefusal patterns.NoMemory said = said ≡ line.MemoryFault
IsPatternRefusal fault said = said ≡ line.Refused (refusals.Pattern fault)

-- the end of a search that was listed whole, or want of memory
abbrev pub IsLastLine : Bool → Option written.Reply → written.Reply → Type 0
IsLastLine true (Some end) reply = reply ≡ end
IsLastLine true None reply = reply_of reply ≡ line.MemoryFault
IsLastLine false end reply = reply_of reply ≡ line.MemoryFault
