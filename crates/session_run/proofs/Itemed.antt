-- Answers by a look at a record and its data items.
use Rattle.std.proofs.Common.{◌≡◌, ◌⊎◌, Bor, Err, inl, inr, List, [], ◌∷◌, MatchOption, None, Option, refl, Result, Some, subst, sym, ℕ}
use Rattle.shell_lang.specs.Reply as line
use Rattle.store_core.specs.Calls as core
use Rattle.store_core.specs.Calls.{NotRaised, SameHeld}
use Rattle.store_core.specs.declared.service.Service as meaning
use Rattle.store_machine.specs.declared.machine.Event.TheVariants as events
use Rattle.store_machine.specs.declared.machine.Reply.{Reply}
use Rattle.store_machine.specs.declared.machine.Reply.TheVariants as replies
use Rattle.store_machine.specs.declared.machine.State.{State}
use Rattle.session_acts.specs.Acts.{Answers, FindData, FoundData, IsDataLine, MayFind, item_line}
use Rattle.session_acts.specs.Cursors.{Cursor}
use Rattle.session_run.specs.Made.{AnsweredBy, Tells}
use Rattle.dialogue.specs.declared.end.Stop.{Stop}
use Rattle.dialogue.specs.declared.end.Stop.TheVariants as stops
use Rattle.session_run.proofs.Joined.{uses-kept}
use Rattle.session_run.proofs.Lines.{broken, said}

-- what was written of an item
pub item_told : (id : ℕ) (found : Option (Bor (List ℕ))) (data_is : Option (List ℕ)) (out out' : List ℕ)
    (result : Result (Unit {0}) Stop) → MatchOption found (data_is ≡ None) (λ r. data_is ≡ Some r.now)
    → MatchOption found (Tells (item_line id None) out out' result)
    (λ text. Tells (item_line id (Some text.now)) out out' result ⊎ Tells line.MemoryFault out out' result)
    → Tells (item_line id data_is) out out' result ⊎ Tells line.MemoryFault out out' result
item_told id None data_is out out' result e t =
    inl (subst (λ (d : Option (List ℕ)). Tells (item_line id d) out out' result) (sym e) t)
item_told id (Some r) data_is out out' result e (inl t) =
    inl (subst (λ (d : Option (List ℕ)). Tells (item_line id d) out out' result) (sym e) t)
item_told id (Some r) data_is out out' result e (inr t) = inr t

module _ {S : Type 0} {of : meaning.Ghosts S} {old new : S} {size : ℕ} {cursors : List Cursor} {out out' : List ℕ} where
  -- the record was looked at
  pub found : (id : ℕ) (name : List ℕ) (reply : Reply) (one : line.Reply) (result : Result (Unit {0}) Stop)
      → ((s : State) → of.at old s → core.Calls of.stretch (of.owns old) old new s ((events.Look id, reply) ∷ []))
      → SameHeld (of.holds old) (of.holds new) → NotRaised (of.bounds old) (of.bounds new)
      → IsDataLine id name reply one → Tells one out out' result
      → AnsweredBy of old new (Answers size (MayFind id name) cursors) out out' cursors result
  found id name reply one result made held bounds is t =
      said ((events.Look id, reply) ∷ []) one result
      (uses-kept ((events.Look id, reply) ∷ []) made (refl, tt) held bounds)
      (record { act = FindData id name; allowed = (refl, refl); does = FoundData id name reply one is }) t

  -- the service was worn
  pub unfound : (id : ℕ) (name : List ℕ)
      → ((s : State) → of.at old s → core.Calls of.stretch (of.owns old) old new s [])
      → SameHeld (of.holds old) (of.holds new) → NotRaised (of.bounds old) (of.bounds new) → of.worn new
      → AnsweredBy of old new (Answers size (MayFind id name) cursors) out out' cursors (Err stops.Worn)
  unfound id name made held bounds worn =
      broken ((events.Look id, replies.NoMemory) ∷ []) (line.MemoryFault ∷ []) cursors (Err stops.Worn)
      (uses-kept [] made tt held bounds) worn (record {
        act = FindData id name;
        allowed = (refl, refl);
        does = FoundData id name replies.NoMemory line.MemoryFault refl;
      }) refl
