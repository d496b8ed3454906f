-- What a program that talks means, and what it leaves of an answer. For those that implement one.
use Rattle.std.specs.Prelude.{◌≡◌, ◌≢◌, ◌+◌, ◌<◌, ◌^◌, ℕ, List, [], ◌∷◌, ◌++◌, IfSome, Option, Bool, true, false, Result, Ok, Err}
use Rattle.std.specs.Borrow.{Bor, MutBor}
use Rattle.std.specs.Fn.{Shared}
use Rattle.io_edge.specs.Lines.{TextLine, lines_of}
use Rattle.dialogue.specs.Manner.{Manner}
use Rattle.dialogue.specs.Dialogue.{IsAsked, IsBroken, IsDialogue, IsKept, IsPart, IsPrefixOf, Stops}
use Rattle.dialogue.specs.Talked.{AnswersTaken, Begins, GivesBack, IsInputFault, IsServedBy, Writes, WritesForTaken}
use Rattle.dialogue.specs.declared.end.EndStatus.{EndStatus}
use Rattle.dialogue.specs.declared.end.EndStatus.TheVariants.{Done, InputTooLong, SourceFault, Worn}
use Rattle.dialogue.specs.declared.end.Stop.{Stop}
use Rattle.dialogue.specs.declared.end.Stop.TheVariants as stops

-- What a talker and its peer mean.
pub record TalkModel (T P : Type 0) : Type 1 where
  -- what is talked
  pub manner : Manner
  -- The talker keeps this, took these lines of the request under way, answered at most this many requests, and can go
  -- on with the peer
  pub IsReady : T → P → manner.Kept → List TextLine → ℕ → Type 0
  -- The talker keeps this, and can give it back
  pub CanClose : T → P → manner.Kept → Type 0
  -- from one value of the peer to a later one these calls were made
  pub Made : P → P → List manner.Call → Type 0
  -- the peer answers no call any more
  pub IsWorn : P → Type 0
  -- the text of the last reply
  pub said : T → List ℕ

-- a line can be added to the request under way, which is not whole
abbrev pub CanAdd : {T P : Type 0} → TalkModel T P → T → Type 0
CanAdd {P = P} t talker = (p : P) × (kept : t.manner.Kept) × (lines : List TextLine) × (n : ℕ)
    × t.IsReady talker p kept lines n × IsPart t.manner lines

-- a line was added to the request under way; whether it is whole with it
pub record Adds {T P : Type 0} (t : TalkModel T P) (old new : T) (line : TextLine) (whole : Bool) : Type 0 where
  pub ready : (p : P) (kept : t.manner.Kept) (lines : List TextLine) (n : ℕ) → t.IsReady old p kept lines n
      → IsPart t.manner lines → t.IsReady new p kept (lines ++ line ∷ []) n
  pub is_whole : (p : P) (kept : t.manner.Kept) (lines : List TextLine) (n : ℕ) → t.IsReady old p kept lines n
      → IsPart t.manner lines → whole ≡ true → t.manner.IsWhole (lines ++ line ∷ [])
  pub is_part : (p : P) (kept : t.manner.Kept) (lines : List TextLine) (n : ℕ) → t.IsReady old p kept lines n
      → IsPart t.manner lines → whole ≡ false → ¬ t.manner.IsWhole (lines ++ line ∷ [])

-- the request was answered, and its reply is said
pub record Replies {T P : Type 0} (t : TalkModel T P) (new : T) (p p' : P) (kept : t.manner.Kept)
    (request : List TextLine) (n : ℕ) : Type 0 where
  pub calls : List t.manner.Call
  pub reply : t.manner.Reply
  pub kept' : t.manner.Kept
  pub made : t.Made p p' calls
  pub answers : t.manner.Answers kept request calls reply kept'
  pub said : t.said new ≡ t.manner.text_of reply
  pub ready : t.IsReady new p' kept' [] (n + 1)

-- memory ran out
pub record CutsShort {T P : Type 0} (t : TalkModel T P) (new : T) (p p' : P) (kept : t.manner.Kept)
    (request : List TextLine) : Type 0 where
  pub calls : List t.manner.Call
  pub kept' : t.manner.Kept
  pub made : t.Made p p' calls
  pub cuts : t.manner.Cuts kept request calls kept'
  pub closable : t.CanClose new p' kept'

-- the peer was worn
pub record Breaks {T P : Type 0} (t : TalkModel T P) (p p' : P) (kept : t.manner.Kept) (request : List TextLine)
    : Type 0 where
  pub calls : List t.manner.Call
  pub whole : List t.manner.Call
  pub reply : t.manner.Reply
  pub after : t.manner.Kept
  pub made : t.Made p p' calls
  pub first : IsPrefixOf calls whole
  pub answers : t.manner.Answers kept request whole reply after
  pub worn : t.IsWorn p'

abbrev pub Answered : {T P : Type 0} → (t : TalkModel T P) → Result (Unit {0}) Stop → T → P → P → t.manner.Kept
    → List TextLine → ℕ → Type 0
Answered t (Ok _) new p p' kept request n = Replies t new p p' kept request n
Answered t (Err stops.NoMemory) new p p' kept request n = CutsShort t new p p' kept request
Answered t (Err stops.Worn) new p p' kept request n = Breaks t p p' kept request

-- What a closure promises that answers: it can be called where the talker is ready and its request is asked, and the
-- request is answered then
pub record Answering {F T P : Type 0} (t : TalkModel T P)
    (g : Shared F (MutBor T × (MutBor P × (Bor (List ℕ) × Unit {0})))
    (Result (Unit {0}) Stop × (MutBor T × (MutBor P × Unit {0})))) (f : F) : Type 0 where
  pub takes : (x : MutBor T) (p : MutBor P) (line : Bor (List ℕ)) (kept : t.manner.Kept) (lines : List TextLine) (n : ℕ)
      → t.IsReady x.now p.now kept lines n → IsAsked t.manner lines line.now → n + 1 < 2 ^ 64
      → g.pre f (x, (p, (line, tt)))
  pub gives : (x : MutBor T) (p : MutBor P) (line : Bor (List ℕ)) (kept : t.manner.Kept) (lines : List TextLine) (n : ℕ)
      → t.IsReady x.now p.now kept lines n → IsAsked t.manner lines line.now → n + 1 < 2 ^ 64
      → (answer : Result (Unit {0}) Stop) (x' : MutBor T) (p' : MutBor P)
      → g.post f (x, (p, (line, tt))) (answer, (x', (p', tt)))
      → Answered t answer x'.now p.now p'.now kept lines n

-- what is kept was given back; or the peer was worn, and the first of the calls were made
abbrev pub Closes : {T P : Type 0} → (t : TalkModel T P) → Result (Unit {0}) Stop → P → P → t.manner.Kept → Type 0
Closes t (Ok _) p p' kept = t.Made p p' (t.manner.closing kept)
Closes t (Err stops.NoMemory) p p' kept = ⊥
Closes t (Err stops.Worn) p p' kept =
    (calls : List t.manner.Call) × IsPrefixOf calls (t.manner.closing kept) × t.Made p p' calls × t.IsWorn p'

-- what was answered of a script, by how it ended, before what is kept is given back
abbrev pub Ends : (m : Manner) → EndStatus → m.Kept → List TextLine → List m.Call → m.Kept → List ℕ → Type 0
Ends m Done start lines calls kept text = IsDialogue m start lines [] calls text kept
Ends m Worn start lines calls kept text = Stops m start lines calls text (IsBroken m)
Ends m SourceFault start lines calls kept text =
    (left : List TextLine) × IsDialogue m start lines left calls text kept
Ends m InputTooLong start lines calls kept text =
    (left : List TextLine) × IsDialogue m start lines left calls text kept
Ends m _ start lines calls kept text = Begins m start lines calls kept text

-- a source's bytes were talked about by these calls, before what is kept is given back
pub record Talks (m : Manner) (end : EndStatus) (start : m.Kept) (before after put put' : Option (List ℕ))
    (calls : List m.Call) (kept : m.Kept) : Type 0 where
  pub script : IfSome before (λ bytes. Writes put put' (Ends m end start (lines_of bytes) calls kept))
  pub taken : IsInputFault end → WritesForTaken before after put put' (AnswersTaken m start calls kept)

-- The talk of a talker with its peer, before what is kept is given back. That can be done unless the peer is worn
pub record TalksTo {T P : Type 0} (t : TalkModel T P) (end : EndStatus) (kept : t.manner.Kept) (new : T) (p p' : P)
    (before after put put' : Option (List ℕ)) : Type 0 where
  pub calls : List t.manner.Call
  pub kept' : t.manner.Kept
  pub made : t.Made p p' calls
  pub talks : Talks t.manner end kept before after put put' calls kept'
  pub keeps : end ≢ Worn → IsKept t.manner kept calls kept'
  pub closable : end ≢ Worn → t.CanClose new p' kept'
  pub worn : end ≡ Worn → t.IsWorn p'

-- The whole talk of a talker with its peer: the calls, what was served by them, and where what is kept at the end comes
-- from
pub record Serves {T P : Type 0} (t : TalkModel T P) (end : EndStatus) (kept : t.manner.Kept) (p p' : P)
    (before after put put' : Option (List ℕ)) : Type 0 where
  pub calls : List t.manner.Call
  pub made : t.Made p p' calls
  pub served : IsServedBy t.manner end kept before after put put' calls
  pub keeps : end ≢ Worn → GivesBack t.manner calls (IsKept t.manner kept)
