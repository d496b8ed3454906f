-- For callers: the hits that the replies of a session list, and the versions that they show.
use Rattle.std.specs.Prelude.{◌≡◌, ◌⊎◌, ◌+◌, ℕ, Contains, Ok, List, [], ◌∷◌, ◌++◌}
use Rattle.io_edge.specs.Lines.{Whole}
use Rattle.shell_lang.specs.Command as command
use Rattle.shell_lang.specs.Command.{Command, IsLine}
use Rattle.shell_lang.specs.Reply as line
use Rattle.similar_find.specs.Board.{Offer}
use Rattle.session_acts.specs.Acts.{Lines}
use Rattle.session_acts.specs.Requests.{Request, request_of}
use Rattle.session_acts.specs.Talking.{Exchange}

-- the line of the request is this command
abbrev pub IsCommand : Request → Command → Type 0
IsCommand request order = (text : List ℕ) × (request.line ≡ Whole text) × IsLine text (Ok order)

-- the hits among reply lines, in order
abbrev pub hits_in : Lines → List ℕ
hits_in [] = []
hits_in (line.Hit id ∷ lines) = id ∷ hits_in lines
hits_in (_ ∷ lines) = hits_in lines

-- the identifiers that are listed as similar, with their two counts, in order
abbrev pub likes_in : Lines → List Offer
likes_in [] = []
likes_in (line.Like id c u ∷ lines) = (id, c, u) ∷ likes_in lines
likes_in (_ ∷ lines) = likes_in lines

-- the hits that a cursor listed: those in the replies to `next` with its name, in order. Other requests may be between
abbrev pub AreListed : List ℕ → List Exchange → List ℕ → Type 0
AreListed name [] hits = hits ≡ []
AreListed name (x ∷ xs) hits =
    (IsCommand (request_of x.request) (command.Next name) × (more : List ℕ) × (hits ≡ hits_in x.reply ++ more)
    × AreListed name xs more)
    ⊎ (¬ IsCommand (request_of x.request) (command.Next name) × AreListed name xs hits)

-- k replies to `next` with the name gave a page and `more`; any other found no memory
abbrev pub AreTurned : List ℕ → List Exchange → ℕ → Type 0
AreTurned name [] k = k ≡ 0
AreTurned name (x ∷ xs) k =
    (IsCommand (request_of x.request) (command.Next name) × Contains x.reply line.More × (j : ℕ) × (k ≡ j + 1)
    × AreTurned name xs j)
    ⊎ ((IsCommand (request_of x.request) (command.Next name) × (x.reply ≡ line.MemoryFault ∷ []) × AreTurned name xs k)
    ⊎ (¬ IsCommand (request_of x.request) (command.Next name) × AreTurned name xs k))

-- the lines end with `more`, or with the end of a search
abbrev pub GivePage : Lines → Type 0
GivePage lines = Contains lines line.More
    ⊎ ((version tried hits : ℕ) × Contains lines (line.End version tried hits))

-- no request closes the cursor of the name
abbrev pub StaysOpen : List ℕ → List Exchange → Type 0
StaysOpen name [] = Unit {0}
StaysOpen name (x ∷ xs) = ¬ IsCommand (request_of x.request) (command.Close name) × StaysOpen name xs

-- no request removes the watch of the name
abbrev pub StaysWatched : List ℕ → List Exchange → Type 0
StaysWatched name [] = Unit {0}
StaysWatched name (x ∷ xs) = ¬ IsCommand (request_of x.request) (command.Unwatch name) × StaysWatched name xs

-- the line shows this version
abbrev pub ShowsVersion : line.Reply → ℕ → Type 0
ShowsVersion (line.Accepted version) v = v ≡ version
ShowsVersion (line.Shown id version format text) v = v ≡ version
ShowsVersion (line.Gone id version) v = v ≡ version
ShowsVersion (line.End version tried hits) v = v ≡ version
ShowsVersion (line.Scored version scored hits) v = v ≡ version
ShowsVersion (line.Opened version) v = v ≡ version
ShowsVersion (line.Counts version live withdrawn kept pins) v = v ≡ version
ShowsVersion (line.Watching version hits) v = v ≡ version
ShowsVersion (line.EndWatched version hits rebuilt) v = v ≡ version
ShowsVersion _ v = ⊥

abbrev pub IsShownIn : Lines → ℕ → Type 0
IsShownIn [] v = ⊥
IsShownIn (said ∷ lines) v = ShowsVersion said v ⊎ IsShownIn lines v

-- a reply of the dialogue shows this version
abbrev pub IsShown : List Exchange → ℕ → Type 0
IsShown [] v = ⊥
IsShown (x ∷ xs) v = IsShownIn x.reply v ⊎ IsShown xs v
