-- A dialogue: the requests of a script, each with its calls and its reply, and its beginnings. For callers.
use Rattle.std.specs.Prelude.{◌≡◌, ◌≢◌, ◌⊎◌, ℕ, List, [], ◌∷◌, ◌++◌}
use Rattle.io_edge.specs.Lines.{TextLine, TooLong, Whole}
use Rattle.dialogue.specs.Manner.{Manner}

-- a request, the calls that answered it, and the reply
pub record Exchange (Call Reply : Type 0) : Type 0 where
  pub request : List TextLine
  pub calls : List Call
  pub reply : Reply

abbrev pub IsPrefixOf : {X : Type 0} → List X → List X → Type 0
IsPrefixOf front whole = (rest : List _) × (front ++ rest ≡ whole)

-- the line has this text, or is too long and has none
abbrev pub IsTextOf : TextLine → List ℕ → Type 0
IsTextOf (Whole line) text = text ≡ line
IsTextOf (TooLong size) text = text ≡ []

-- the last line has this text
abbrev pub EndsWith : List TextLine → List ℕ → Type 0
EndsWith lines text =
    (front : List TextLine) × (last : TextLine) × (lines ≡ front ++ last ∷ []) × IsTextOf last text

module _ (m : Manner) where
  -- with the lines before, no first ones of these lines are a whole request
  abbrev pub NoneWhole : List TextLine → List TextLine → Type 0
  NoneWhole before [] = Unit {0}
  NoneWhole before (line ∷ lines) =
      ¬ m.IsWhole (before ++ line ∷ []) × NoneWhole (before ++ line ∷ []) lines

  -- no request, or the first lines of one
  abbrev pub IsPart : List TextLine → Type 0
  IsPart lines = NoneWhole [] lines

  -- a whole request
  abbrev pub IsRequest : List TextLine → Type 0
  IsRequest lines =
      (part : List TextLine) × (last : TextLine) × (lines ≡ part ++ last ∷ []) × IsPart part × m.IsWhole lines

  -- what is answered: a whole request, with the text of its last line, or the first lines of one
  abbrev pub IsAsked : List TextLine → List ℕ → Type 0
  IsAsked lines text = (IsRequest lines × EndsWith lines text) ⊎ ((lines ≢ []) × IsPart lines)

  -- The lines are those of a request, and the rest. Only the input's end ends one that is not whole
  abbrev pub BeginWith : List TextLine → List TextLine → List TextLine → Type 0
  BeginWith lines request left =
      (lines ≡ request ++ left) × (IsRequest request ⊎ ((left ≡ []) × (request ≢ []) × IsPart request))

  -- the lines are those of the requests, and the rest
  abbrev pub BeginWithAll : List TextLine → List (Exchange m.Call m.Reply) → List TextLine → Type 0
  BeginWithAll lines [] left = lines ≡ left
  BeginWithAll lines (x ∷ xs) left =
      (more : List TextLine) × BeginWith lines x.request more × BeginWithAll more xs left

  -- the requests were answered one after another, and this is kept then
  abbrev pub AreExchanged : m.Kept → List (Exchange m.Call m.Reply) → m.Kept → Type 0
  AreExchanged kept [] kept' = kept' ≡ kept
  AreExchanged kept (x ∷ xs) kept' =
      (between : m.Kept) × m.Answers kept x.request x.calls x.reply between × AreExchanged between xs kept'

  -- all calls
  abbrev pub calls_in : List (Exchange m.Call m.Reply) → List m.Call
  calls_in [] = []
  calls_in (x ∷ xs) = x.calls ++ calls_in xs

  -- the text of all replies
  abbrev pub text_in : List (Exchange m.Call m.Reply) → List ℕ
  text_in [] = []
  text_in (x ∷ xs) = m.text_of x.reply ++ text_in xs

  -- the lines of all requests
  abbrev pub lines_in : List (Exchange m.Call m.Reply) → List TextLine
  lines_in [] = []
  lines_in (x ∷ xs) = x.request ++ lines_in xs

  -- all requests are whole
  abbrev pub AreWhole : List (Exchange m.Call m.Reply) → Type 0
  AreWhole [] = Unit {0}
  AreWhole (x ∷ xs) = IsRequest x.request × AreWhole xs

-- The first requests of a script were answered one after another, by these calls and this text. These lines are left,
-- and this is kept then
pub record IsDialogue (m : Manner) (start : m.Kept) (lines left : List TextLine) (calls : List m.Call) (text : List ℕ)
    (kept : m.Kept) : Type 0 where
  pub exchanges : List (Exchange m.Call m.Reply)
  pub begin : BeginWithAll m lines exchanges left
  pub exchanged : AreExchanged m start exchanges kept
  pub made : calls ≡ calls_in m exchanges
  pub said : text ≡ text_in m exchanges

-- The next request was answered, and some first bytes of its reply were put
pub record IsPut (m : Manner) (kept : m.Kept) (left : List TextLine) (calls : List m.Call) (text : List ℕ)
    (kept' : m.Kept) : Type 0 where
  pub request : List TextLine
  pub more : List TextLine
  pub reply : m.Reply
  pub next : BeginWith m left request more
  pub answers : m.Answers kept request calls reply kept'
  pub first : IsPrefixOf text (m.text_of reply)

-- The answer to the next request broke off for want of memory, and nothing of its reply was put
pub record IsCut (m : Manner) (kept : m.Kept) (left : List TextLine) (calls : List m.Call) (text : List ℕ)
    (kept' : m.Kept) : Type 0 where
  pub request : List TextLine
  pub more : List TextLine
  pub next : BeginWith m left request more
  pub cuts : m.Cuts kept request calls kept'
  pub none : text ≡ []

-- In the answer to the next request the peer was worn: the first of its calls were made, and nothing of its reply was
-- put
pub record IsBroken (m : Manner) (kept : m.Kept) (left : List TextLine) (calls : List m.Call) (text : List ℕ)
    : Type 0 where
  pub request : List TextLine
  pub more : List TextLine
  pub whole : List m.Call
  pub reply : m.Reply
  pub after : m.Kept
  pub next : BeginWith m left request more
  pub answers : m.Answers kept request whole reply after
  pub first : IsPrefixOf calls whole
  pub none : text ≡ []

-- some first requests of a script were answered, and with Last a part of the answer to the next one
pub record Stops (m : Manner) (start : m.Kept) (lines : List TextLine) (calls : List m.Call) (text : List ℕ)
    (Last : m.Kept → List TextLine → List m.Call → List ℕ → Type 0) : Type 0 where
  pub left : List TextLine
  pub own : List m.Call
  pub replies : List ℕ
  pub between : m.Kept
  pub its : List m.Call
  pub part : List ℕ
  pub answered : IsDialogue m start lines left own replies between
  pub last : Last between left its part
  pub made : calls ≡ own ++ its
  pub put : text ≡ replies ++ part

-- What is kept comes of requests that were answered by these calls; the answer to the last may be cut short
pub record IsKept (m : Manner) (start : m.Kept) (calls : List m.Call) (kept : m.Kept) : Type 0 where
  pub exchanges : List (Exchange m.Call m.Reply)
  pub between : m.Kept
  pub its : List m.Call
  pub exchanged : AreExchanged m start exchanges between
  pub last : ((its ≡ []) × (kept ≡ between)) ⊎ ((request : List TextLine) × m.Cuts between request its kept)
  pub made : calls ≡ calls_in m exchanges ++ its
