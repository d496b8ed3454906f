-- A dialogue under way, turn by turn, and how it ends.
use Rattle.std.proofs.Common.{Ok, Err, ◌<◌, ◌+◌, ◌^◌, ◌≡◌, ◌≢◌, ◌⊎◌, ◌∙◌, ◌≤◌, ℕ, inl, inr, false, IfSome, IsTrue, Option, None, Some, List, [], ◌∷◌, ◌++◌, refl, sym, ap, subst, arith, append_assoc, append-nil}
use Rattle.std.proofs.KnownBytes.{Appends-nil, Appends-trans}
use Rattle.std.specs.Io.KnownBytes.{Appends}
use Rattle.io_edge.specs.Faults.{Rose}
use Rattle.io_edge.specs.Lines.{AwaitsBytes, IsFinished, Reading, TextLine, done_bytes, lines_left, lines_of}
use Rattle.io_edge.specs.declared.lines.LineFault.{LineFault}
use Rattle.io_edge.specs.declared.lines.LineFault.TheVariants as line_faults
use Rattle.io_edge.specs.declared.sinks.Sink as sinks
use Rattle.io_edge.specs.declared.sources.Source as sources
use Rattle.dialogue.specs.Manner.{Manner}
use Rattle.dialogue.specs.Dialogue.{AreExchanged, IsKept, BeginWith, Exchange, IsDialogue, IsPart, IsPut, IsRequest, Stops, calls_in, lines_in, text_in}
use Rattle.dialogue.specs.Answers.{Closes, Ends, Replies, Serves, TalkModel, Talks, TalksTo}
use Rattle.dialogue.specs.Reads.{HasRead, IsFresh, Told}
use Rattle.dialogue.specs.Talked.{AnswersTaken, Begins, EndsAs, InAnswer, InClosing, IsInputFault, IsServed, IsServedBy, TakesAll, TakesAtMost, TakesExactly, Writes, WritesForTaken}
use Rattle.dialogue.specs.Turns.{HasEnded, IsUnderWay, Leaves, Start, Turned, end_by}
use Rattle.dialogue.specs.declared.end.EndStatus.{EndStatus}
use Rattle.dialogue.specs.declared.end.EndStatus.TheVariants.{Done, SourceFault, SinkFault, NoMemory, InputTooLong, Worn}
use Rattle.dialogue.specs.declared.end.Stop.{Stop}
use Rattle.dialogue.specs.declared.end.Stop.TheVariants as stop
use Rattle.dialogue.proofs.Exchanges.{begin-all, begin-more, calls-more, exchanged-more, lines-more, text-more, whole-more}
use Rattle.dialogue.proofs.Reading.{read-all, read-some, read-start}
use Rattle.dialogue.proofs.Wholes.{read-whole}

-- where the source told its bytes
pub if_told : (before : Option (List ℕ)) (P : List ℕ → Type 0) → ((input : List ℕ) → before ≡ Some input → P input)
    → IfSome before P
if_told None P f = tt
if_told (Some input) P f = f input refl

-- what was put behind this text
pub appended : (put next : Option (List ℕ)) (text : List ℕ) (P : List ℕ → Type 0) → Appends put next text → P text
    → Writes put next P
appended None next text P h p = tt
appended (Some m) None text P h p = absurd h
appended (Some m) (Some n) text P h p = (text, ap Some h, p)

-- a next request, and what is left behind it
abbrev IsNext : Manner → List TextLine → List TextLine → Type 0
IsNext m request left = IsRequest m request ⊎ ((left ≡ []) × (request ≢ []) × IsPart m request)

module _ {T P : Type 0} {t : TalkModel T P} {start : Start t.manner.Kept P} {talker : T} {peer : P}
    {left put : Option (List ℕ)} {r : Reading} (u : IsUnderWay t start talker peer left put r)
    {left' : Option (List ℕ)} {r' : Reading} (request : List TextLine)
    (read : HasRead start.limit start.left left' r' (lines_in t.manner u.exchanges ++ request))
    (closable : (x : T) (p : P) (kept : t.manner.Kept) (lines : List TextLine) (n : ℕ) → t.IsReady x p kept lines n
    → t.CanClose x p kept) where
  -- the script's requests so far, the next one, and what is left
  split-told : (input : List ℕ) (k : Told (lines_in t.manner u.exchanges ++ request) input left' r')
      → lines_of input ≡ lines_in t.manner u.exchanges ++ (request ++ lines_left r' k.left)
  split-told input k = read-some k ∙ append_assoc (lines_in t.manner u.exchanges) request (lines_left r' k.left)

  so_far : (lines more : List TextLine) → lines ≡ lines_in t.manner u.exchanges ++ more
      → IsDialogue t.manner start.kept lines more (calls_in t.manner u.exchanges) (text_in t.manner u.exchanges) u.kept
  so_far lines more e = record {
    exchanges = u.exchanges;
    begin = begin-all t.manner u.exchanges lines more u.whole e;
    exchanged = u.exchanged;
    made = refl;
    said = refl;
  }

  wrote-more : (put' : Option (List ℕ)) (text : List ℕ) → Appends put put' text
      → Appends start.put put' (text_in t.manner u.exchanges ++ text)
  wrote-more put' text a = Appends-trans start.put put put' (text_in t.manner u.exchanges) text u.wrote a

  wrote-none : (put' : Option (List ℕ)) → Appends put put' [] → Appends start.put put' (text_in t.manner u.exchanges)
  wrote-none put' a =
      subst (Appends start.put put') (append-nil (text_in t.manner u.exchanges)) (wrote-more put' [] a)

  -- a request was answered
  module _ (makes : (a b c : P) (xs ys : List t.manner.Call) → t.Made a b xs → t.Made b c ys → t.Made a c (xs ++ ys))
      (talker' : T) (peer' : P) (put' : Option (List ℕ)) where
    made-more : (its : List t.manner.Call) → t.Made peer peer' its → t.Made start.peer peer' (calls_in t.manner u.exchanges ++ its)
    made-more its made = makes start.peer peer peer' (calls_in t.manner u.exchanges) its u.made made

    -- the request with its answer
    abbrev this : (a : Replies t talker' peer peer' u.kept request u.number) → Exchange t.manner.Call t.manner.Reply
    this a = record { request = request; calls = a.calls; reply = a.reply }

    these : (a : Replies t talker' peer peer' u.kept request u.number)
        → AreExchanged t.manner start.kept (u.exchanges ++ this a ∷ []) a.kept'
    these a = exchanged-more t.manner start.kept u.kept a.kept' u.exchanges (this a) u.exchanged a.answers

    kept-by : (a : Replies t talker' peer peer' u.kept request u.number)
        → IsKept t.manner start.kept (calls_in t.manner u.exchanges ++ a.calls) a.kept'
    kept-by a = record {
      exchanges = u.exchanges ++ this a ∷ [];
      between = a.kept';
      its = [];
      exchanged = these a;
      last = inl (refl, refl);
      made = sym (append-nil (calls_in t.manner (u.exchanges ++ this a ∷ []))
          ∙ calls-more t.manner u.exchanges (this a));
    }

    pub goes_on : IsRequest t.manner request → done_bytes r < done_bytes r'
        → Turned t None talker' peer peer' u.kept request u.number put put'
        → IsUnderWay t start talker' peer' left' put' r'
    goes_on is rises turned =
        let a = turned.0 in
        let x = this a in record {
          exchanges = u.exchanges ++ x ∷ [];
          kept = a.kept';
          whole = whole-more t.manner u.exchanges x u.whole is;
          exchanged = these a;
          made = subst (t.Made start.peer peer') (sym (calls-more t.manner u.exchanges x)) (made-more a.calls a.made);
          wrote = subst (Appends start.put put') (sym (text-more t.manner u.exchanges x))
              (wrote-more put' (t.manner.text_of a.reply) turned.1);
          number = u.number + 1;
          few = omega (arith, u.few, rises);
          below = u.below;
          ready = a.ready;
          read = subst (HasRead start.limit start.left left' r') (sym (lines-more t.manner u.exchanges x)) read;
        }

    -- the last one was
    pub ends_with : IsFinished r' → request ≢ [] → IsPart t.manner request
        → Turned t None talker' peer peer' u.kept request u.number put put'
        → HasEnded t start Done talker' peer' left' put' r'
    ends_with finished some part turned =
        let a = turned.0 in
        let x = this a in record {
          talks = record {
            calls = calls_in t.manner u.exchanges ++ a.calls;
            kept' = a.kept';
            made = made-more a.calls a.made;
            talks = record {
              script = if_told start.left _ (λ input e.
                  let k = read.told input e in
                  appended start.put put' (text_in t.manner u.exchanges ++ t.manner.text_of a.reply) _
                  (wrote-more put' (t.manner.text_of a.reply) turned.1) (record {
                    exchanges = u.exchanges ++ x ∷ [];
                    begin = begin-more t.manner u.exchanges x (lines_of input) request []
                        (begin-all t.manner u.exchanges (lines_of input) request u.whole (read-all k finished))
                        (sym (append-nil request), inr (refl, some, part));
                    exchanged = these a;
                    made = sym (calls-more t.manner u.exchanges x);
                    said = sym (text-more t.manner u.exchanges x);
                  }));
              taken = λ is. absurd is;
            };
            keeps = λ _. kept-by a;
            closable = λ _. closable talker' peer' a.kept' [] (u.number + 1) a.ready;
            worn = λ e. absurd (cc e);
          };
          lines = lines_in t.manner u.exchanges ++ request;
          read = read;
        }

  -- some first requests were answered, and Behind them a part of the answer to the next one
  stops : (lines : List TextLine) (Behind : t.manner.Kept → List TextLine → List t.manner.Call → List ℕ → Type 0)
      (more : List TextLine) (its : List t.manner.Call) (part : List ℕ)
      → lines ≡ lines_in t.manner u.exchanges ++ more → Behind u.kept more its part
      → Stops t.manner start.kept lines (calls_in t.manner u.exchanges ++ its) (text_in t.manner u.exchanges ++ part) Behind
  stops lines Behind more its part e last = record {
    left = more;
    own = calls_in t.manner u.exchanges;
    replies = text_in t.manner u.exchanges;
    between = u.kept;
    its = its;
    part = part;
    answered = so_far lines more e;
    last = last;
    made = refl;
    put = refl;
  }

  -- nothing more was answered
  quiet : (end : EndStatus) (talker' : T) (put' : Option (List ℕ)) → (end ≡ Worn → ⊥)
      → t.IsReady talker' peer u.kept request u.number
      → Talks t.manner end start.kept start.left left' start.put put' (calls_in t.manner u.exchanges) u.kept
      → HasEnded t start end talker' peer left' put' r'
  quiet end talker' put' lives ready talks = record {
    talks = record {
      calls = calls_in t.manner u.exchanges;
      kept' = u.kept;
      made = u.made;
      talks = talks;
      keeps = λ _. record {
        exchanges = u.exchanges;
        between = u.kept;
        its = [];
        exchanged = u.exchanged;
        last = inl (refl, refl);
        made = sym (append-nil (calls_in t.manner u.exchanges));
      };
      closable = λ _. closable talker' peer u.kept request u.number ready;
      worn = λ e. absurd (lives e);
    };
    lines = lines_in t.manner u.exchanges ++ request;
    read = read;
  }

  script : (end : EndStatus) (put' : Option (List ℕ)) (calls : List t.manner.Call) (kept : t.manner.Kept)
      (text : List ℕ) → Appends start.put put' text
      → ((input : List ℕ) → Told (lines_in t.manner u.exchanges ++ request) input left' r'
      → Ends t.manner end start.kept (lines_of input) calls kept text)
      → IfSome start.left (λ bytes. Writes start.put put' (Ends t.manner end start.kept (lines_of bytes) calls kept))
  script end put' calls kept text a f =
      if_told start.left _ (λ input e. appended start.put put' text _ a (f input (read.told input e)))

  -- the input's end was met
  pub ends_done : (talker' : T) (put' : Option (List ℕ)) → request ≡ [] → IsFinished r'
      → t.IsReady talker' peer u.kept request u.number → Appends put put' [] → HasEnded t start Done talker' peer left' put' r'
  ends_done talker' put' none finished ready a = quiet Done talker' put' (λ e. cc e) ready (record {
    script = script Done put' (calls_in t.manner u.exchanges) u.kept (text_in t.manner u.exchanges) (wrote-none put' a)
        (λ input k. so_far (lines_of input) []
        (read-all k finished ∙ ap (λ (l : List TextLine). lines_in t.manner u.exchanges ++ l) none));
    taken = λ is. absurd is;
  })

  -- the requests that are whole in what was taken are those that were answered
  taken-all : (put' : Option (List ℕ)) → IsPart t.manner request → AwaitsBytes r' → Appends put put' []
      → WritesForTaken start.left left' start.put put'
      (AnswersTaken t.manner start.kept (calls_in t.manner u.exchanges) u.kept)
  taken-all put' part awaits a = if_told start.left _ (λ input e.
      let k = read.told input e in (
        k.got,
        k.left,
        k.split,
        k.left_is,
        appended start.put put' (text_in t.manner u.exchanges) _ (wrote-none put' a) (record {
          exchanges = u.exchanges;
          left = request;
          lines = read-whole k awaits;
          whole = u.whole;
          part = part;
          exchanged = u.exchanged;
          made = refl;
          said = refl;
        }),
      ))

  -- the source failed, or its bytes are too many
  pub ends_fault : (fault : LineFault) (talker' : T) (put' : Option (List ℕ)) → IsPart t.manner request → AwaitsBytes r'
      → t.IsReady talker' peer u.kept request u.number → Appends put put' []
      → HasEnded t start (end_by fault) talker' peer left' put' r'
  ends_fault line_faults.Source talker' put' part awaits ready a = quiet SourceFault talker' put' (λ e. cc e) ready (record {
    script = script SourceFault put' (calls_in t.manner u.exchanges) u.kept (text_in t.manner u.exchanges) (wrote-none put' a)
        (λ input k. (request ++ lines_left r' k.left, so_far (lines_of input) _ (split-told input k)));
    taken = λ _. taken-all put' part awaits a;
  })
  ends_fault line_faults.TooLong talker' put' part awaits ready a = quiet InputTooLong talker' put' (λ e. cc e) ready (record {
    script = script InputTooLong put' (calls_in t.manner u.exchanges) u.kept (text_in t.manner u.exchanges) (wrote-none put' a)
        (λ input k. (request ++ lines_left r' k.left, so_far (lines_of input) _ (split-told input k)));
    taken = λ _. taken-all put' part awaits a;
  })

  -- an answer with which it ends
  module _ (makes : (a b c : P) (xs ys : List t.manner.Call) → t.Made a b xs → t.Made b c ys → t.Made a c (xs ++ ys))
      (next : (input : List ℕ) (k : Told (lines_in t.manner u.exchanges ++ request) input left' r')
      → IsNext t.manner request (lines_left r' k.left)) (talker' : T) (peer' : P) (put' : Option (List ℕ)) where
    next-told : (input : List ℕ) (k : Told (lines_in t.manner u.exchanges ++ request) input left' r')
        → BeginWith t.manner (request ++ lines_left r' k.left) request (lines_left r' k.left)
    next-told input k = (refl, next input k)

    stopped : (end : EndStatus) (its : List t.manner.Call) (kept' : t.manner.Kept) (part : List ℕ)
        → (end ≢ Worn → IsKept t.manner start.kept (calls_in t.manner u.exchanges ++ its) kept')
        → (end ≢ Worn → t.CanClose talker' peer' kept')
        → (end ≡ Worn → t.IsWorn peer') → (IsInputFault end → ⊥)
        → t.Made peer peer' its → Appends put put' part
        → ((input : List ℕ) → Told (lines_in t.manner u.exchanges ++ request) input left' r'
        → Ends t.manner end start.kept (lines_of input) (calls_in t.manner u.exchanges ++ its) kept'
        (text_in t.manner u.exchanges ++ part))
        → HasEnded t start end talker' peer' left' put' r'
    stopped end its kept' part keeps ready worn none made a f = record {
      talks = record {
        calls = calls_in t.manner u.exchanges ++ its;
        kept' = kept';
        made = makes start.peer peer peer' (calls_in t.manner u.exchanges) its u.made made;
        talks = record {
          script = script end put' (calls_in t.manner u.exchanges ++ its) kept' (text_in t.manner u.exchanges ++ part)
              (wrote-more put' part a) f;
          taken = λ is. absurd (none is);
        };
        keeps = keeps;
        closable = ready;
        worn = worn;
      };
      lines = lines_in t.manner u.exchanges ++ request;
      read = read;
    }

    put-part : (r : Replies t talker' peer peer' u.kept request u.number) (part rest : List ℕ)
        → t.manner.text_of r.reply ≡ part ++ rest → (input : List ℕ)
        → (k : Told (lines_in t.manner u.exchanges ++ request) input left' r')
        → IsPut t.manner u.kept (request ++ lines_left r' k.left) r.calls part r.kept'
    put-part r part rest e input k = record {
      request = request;
      more = lines_left r' k.left;
      reply = r.reply;
      next = next-told input k;
      answers = r.answers;
      first = (rest, sym e);
    }

    pub ends_turn : (end : EndStatus) → Turned t (Some end) talker' peer peer' u.kept request u.number put put'
        → HasEnded t start end talker' peer' left' put' r'
    ends_turn SinkFault turned =
        let a = turned.0 in
        let p = turned.1 in
        stopped SinkFault a.calls a.kept' p.0 (λ _. kept-by makes talker' peer' put' a) (λ _. closable talker' peer' a.kept' [] (u.number + 1) a.ready) (λ e. absurd (cc e)) (λ is. is) a.made p.3
        (λ input k. inr (stops (lines_of input) _ (request ++ lines_left r' k.left) a.calls p.0 (split-told input k)
        (inl (put-part a p.0 p.1 p.2 input k))))
    ends_turn NoMemory (inl a, p) =
        stopped NoMemory a.calls a.kept' [] (λ _. kept-by makes talker' peer' put' a) (λ _. closable talker' peer' a.kept' [] (u.number + 1) a.ready) (λ e. absurd (cc e)) (λ is. is) a.made p
        (λ input k. inr (stops (lines_of input) _ (request ++ lines_left r' k.left) a.calls [] (split-told input k)
        (inl (put-part a [] (t.manner.text_of a.reply) refl input k))))
    ends_turn NoMemory (inr a, p) =
        stopped NoMemory a.calls a.kept' [] (λ _. record {
          exchanges = u.exchanges;
          between = u.kept;
          its = a.calls;
          exchanged = u.exchanged;
          last = inr (request, a.cuts);
          made = refl;
        }) (λ _. a.closable) (λ e. absurd (cc e)) (λ is. is) a.made p
        (λ input k. inr (stops (lines_of input) _ (request ++ lines_left r' k.left) a.calls [] (split-told input k)
        (inr (record {
          request = request;
          more = lines_left r' k.left;
          next = next-told input k;
          cuts = a.cuts;
          none = refl;
        }))))
    ends_turn Worn turned =
        let b = turned.0 in
        stopped Worn b.calls b.after [] (λ n. absurd (n refl)) (λ n. absurd (n refl)) (λ _. b.worn) (λ is. is) b.made turned.1
        (λ input k. stops (lines_of input) _ (request ++ lines_left r' k.left) b.calls [] (split-told input k)
        (record {
          request = request;
          more = lines_left r' k.left;
          whole = b.whole;
          reply = b.reply;
          after = b.after;
          next = next-told input k;
          answers = b.answers;
          first = b.first;
          none = refl;
        }))
    ends_turn Done turned = absurd turned
    ends_turn SourceFault turned = absurd turned
    ends_turn InputTooLong turned = absurd turned

    -- a turn behind a whole request
    pub leaves_turn : (end : Option EndStatus) → IsRequest t.manner request → done_bytes r < done_bytes r'
        → Turned t end talker' peer peer' u.kept request u.number put put'
        → Leaves t start end talker' peer' left' put' r'
    leaves_turn None is rises turned = goes_on makes talker' peer' put' is rises turned
    leaves_turn (Some end) is rises turned = ends_turn end turned

-- the next number is small
pub few-more : {T P : Type 0} {t : TalkModel T P} {start : Start t.manner.Kept P} {talker : T} {peer : P}
    {left put : Option (List ℕ)} {r : Reading} → (u : IsUnderWay t start talker peer left put r) (r' : Reading)
    → r'.limit ≡ r.limit → r'.taken ≤ r'.limit → done_bytes r < done_bytes r' → u.number + 1 < 2 ^ 64
few-more u r' limit within rises = omega (arith, u.few, u.below, limit, within, rises, u.read.limit_is)

-- the start
pub under_way-start : {T P : Type 0} (t : TalkModel T P) (kept : t.manner.Kept) (talker : T) (peer : P)
    (left put : Option (List ℕ)) (r : Reading) → IsFresh r → r.limit < 2 ^ 64 → t.Made peer peer []
    → t.IsReady talker peer kept [] 0
    → IsUnderWay t (record { kept = kept; peer = peer; limit = r.limit; left = left; put = put }) talker peer left put r
under_way-start t kept talker peer left put r fresh below made ready = record {
  exchanges = [];
  kept = kept;
  whole = tt;
  exchanged = refl;
  made = made;
  wrote = Appends-nil put;
  number = 0;
  few = omega arith;
  below = below;
  ready = ready;
  read = read-start left r fresh;
}

-- a count that rose since a later moment rose since an earlier one
pub rose-since : (a b c : ℕ) → a ≤ b → Rose b c → Rose a c
rose-since a b c le (inl lt) = inl (omega arith)
rose-since a b c le (inr top) = inr top

module _ {limit : ℕ} {before now : Option (List ℕ)} {r : Reading} {lines : List TextLine}
    (read : HasRead limit before now r lines) where
  -- as many bytes were taken as may be
  pub takes_all : r.taken ≡ r.limit → TakesExactly before now limit
  takes_all full = if_told before _ (λ input e.
      let t = read.told input e in
      (t.got, t.left, t.split, t.left_is, t.number ∙ (full ∙ read.limit_is)))

  -- no more were taken
  pub takes_within : TakesAtMost before now limit
  takes_within = if_told before _ (λ input e.
      let t = read.told input e in
      (t.got, t.left, t.split, t.left_is, omega (arith, t.number, read.within, read.limit_is)))

  -- the source's end was met
  pub takes_whole : IsTrue r.ended → TakesAll before now
  takes_whole ended = if_told before _ (λ input e.
      let t = read.told input e in
      t.left_is ∙ ap Some (t.ended ended))

-- memory ran out before anything was read
pub talks-none : (m : Manner) (start : m.Kept) (before put : Option (List ℕ))
    → Talks m NoMemory start before before put put [] start
talks-none m start before put = record {
  script = if_told before _ (λ input e. appended put put [] _ (Appends-nil put) (inl (
    lines_of input,
    record {
      exchanges = [];
      begin = refl;
      exchanged = refl;
      made = refl;
      said = refl;
    },
  )));
  taken = λ is. absurd is;
}

takes_nothing : (before : Option (List ℕ)) (n : ℕ) → TakesAtMost before before n
takes_nothing None n = tt
takes_nothing (Some bytes) n = ([], bytes, refl, refl, omega arith)

pub ends-none : {S K : Type 0} (source : sources.Ghosts S) (sink : sinks.Ghosts K) (limit : ℕ) (s : S) (k : K)
    → EndsAs source sink NoMemory limit s s k k
ends-none source sink limit s k = record {
  source_fault = λ e. absurd (cc e);
  sink_fault = λ e. absurd (cc e);
  done = λ e. absurd (cc e);
  within = takes_nothing (source.left s) limit;
  too_long = λ e. absurd (cc e);
}

-- new lines
pub fresh : (r : Reading) (limit : ℕ)
    → r ≡ record { pending = []; dropped = 0; taken = 0; limit = limit; ended = false; text = [] } → IsFresh r
fresh r limit e = record {
  none = ap (λ (x : Reading). x.pending) e;
  short = ap (λ (x : Reading). x.dropped) e;
  untaken = ap (λ (x : Reading). x.taken) e;
  unended = ap (λ (x : Reading). x.ended) e;
}

-- nothing was answered
pub kept-none : (m : Manner) (start : m.Kept) → IsKept m start [] start
kept-none m start = record {
  exchanges = [];
  between = start;
  its = [];
  exchanged = refl;
  last = inl (refl, refl);
  made = refl;
}

-- the peer was worn, then or before
pub ends-worn : {S K : Type 0} {source : sources.Ghosts S} {sink : sinks.Ghosts K} {end : EndStatus} {limit : ℕ}
    {s s' : S} {k k' : K} → EndsAs source sink end limit s s' k k' → EndsAs source sink Worn limit s s' k k'
ends-worn e = record {
  source_fault = λ is. absurd (cc is);
  sink_fault = λ is. absurd (cc is);
  done = λ is. absurd (cc is);
  within = e.within;
  too_long = λ is. absurd (cc is);
}

-- with another property of the text
writes-as : (put put' : Option (List ℕ)) (P Q : List ℕ → Type 0) → ((text : List ℕ) → P text → Q text)
    → Writes put put' P → Writes put put' Q
writes-as None put' P Q f h = tt
writes-as (Some old) put' P Q f h = (h.0, h.1, f h.0 h.2)

told-as : (before put put' : Option (List ℕ)) (P Q : List ℕ → List ℕ → Type 0)
    → ((bytes text : List ℕ) → P bytes text → Q bytes text) → IfSome before (λ bytes. Writes put put' (P bytes))
    → IfSome before (λ bytes. Writes put put' (Q bytes))
told-as None put put' P Q f h = tt
told-as (Some bytes) put put' P Q f h = writes-as put put' (P bytes) (Q bytes) (f bytes) h

taken-as : (before after put put' : Option (List ℕ)) (P Q : List ℕ → List ℕ → Type 0)
    → ((got text : List ℕ) → P got text → Q got text) → WritesForTaken before after put put' P
    → WritesForTaken before after put put' Q
taken-as None after put put' P Q f h = tt
taken-as (Some bytes) after put put' P Q f h =
    (h.0, h.1, h.2, h.3, writes-as put put' (P h.0) (Q h.0) (f h.0) h.4)

-- what was answered, however it ended
ends-begin : (m : Manner) (end : EndStatus) → end ≢ Worn → (start : m.Kept) (lines : List TextLine)
    (calls : List m.Call) (kept : m.Kept) (text : List ℕ) → Ends m end start lines calls kept text
    → Begins m start lines calls kept text
ends-begin m Done lives start lines calls kept text h = inl ([], h)
ends-begin m Worn lives start lines calls kept text h = absurd (lives refl)
ends-begin m SourceFault lives start lines calls kept text h = inl h
ends-begin m InputTooLong lives start lines calls kept text h = inl h
ends-begin m SinkFault lives start lines calls kept text h = h
ends-begin m NoMemory lives start lines calls kept text h = h

served-by : (m : Manner) (end : EndStatus) → end ≢ Worn → (start : m.Kept) (lines : List TextLine)
    (calls : List m.Call) (kept : m.Kept) (text : List ℕ) → Ends m end start lines calls kept text
    → IsServed m end start lines (calls ++ m.closing kept) text
served-by m Done lives start lines calls kept text h = (calls, kept, h, refl)
served-by m Worn lives start lines calls kept text h = absurd (lives refl)
served-by m SourceFault lives start lines calls kept text h = (calls, kept, h, refl)
served-by m InputTooLong lives start lines calls kept text h = (calls, kept, h, refl)
served-by m SinkFault lives start lines calls kept text h = (calls, kept, h, refl)
served-by m NoMemory lives start lines calls kept text h = (calls, kept, h, refl)

closed : (m : Manner) (end : EndStatus) → end ≢ Worn → (start : m.Kept) (before after put put' : Option (List ℕ))
    (calls : List m.Call) (kept : m.Kept) → Talks m end start before after put put' calls kept
    → IsServedBy m end start before after put put' (calls ++ m.closing kept)
closed m end lives start before after put put' calls kept talks = record {
  script = told-as before put put' _ _
      (λ bytes text h. served-by m end lives start (lines_of bytes) calls kept text h) talks.script;
  taken = λ is. taken-as before after put put' _ _ (λ got text h. (calls, kept, h, refl)) (talks.taken is);
}

-- nothing was read
pub served-none : (m : Manner) (start : m.Kept) (before put : Option (List ℕ))
    → IsServedBy m NoMemory start before before put put (m.closing start)
served-none m start before put =
    closed m NoMemory (λ e. cc e) start before before put put [] start (talks-none m start before put)

-- what is kept was given back
module _ {T P : Type 0} (t : TalkModel T P) {end : EndStatus} {kept : t.manner.Kept} {talker : T} {p p' : P}
    {before after put put' : Option (List ℕ)} (s : TalksTo t end kept talker p p' before after put put')
    (makes : (a b c : P) (xs ys : List t.manner.Call) → t.Made a b xs → t.Made b c ys → t.Made a c (xs ++ ys))
    (p'' : P) where
  pub serves-closed : end ≢ Worn → Closes t (Ok tt) p' p'' s.kept' → Serves t end kept p p'' before after put put'
  serves-closed lives made = record {
    calls = s.calls ++ t.manner.closing s.kept';
    made = makes p p' p'' s.calls (t.manner.closing s.kept') s.made made;
    served = closed t.manner end lives kept before after put put' s.calls s.kept' s.talks;
    keeps = λ _. (s.calls, s.kept', s.keeps lives, refl);
  }

  pub serves-closing : end ≢ Worn → (why : Stop) → Closes t (Err why) p' p'' s.kept'
      → Serves t Worn kept p p'' before after put put'
  serves-closing lives stop.NoMemory c = absurd c
  serves-closing lives stop.Worn c = record {
    calls = s.calls ++ c.0;
    made = makes p p' p'' s.calls c.0 s.made c.2;
    served = record {
      script = told-as before put put' _ _ (λ bytes text h. InClosing s.calls c.0 s.kept'
          (ends-begin t.manner end lives kept (lines_of bytes) s.calls s.kept' text h) c.1 refl) s.talks.script;
      taken = λ is. absurd is;
    };
    keeps = λ n. absurd (n refl);
  }

pub closes-worn : {T P : Type 0} (t : TalkModel T P) (why : Stop) (p p' : P) (kept : t.manner.Kept)
    → Closes t (Err why) p p' kept → t.IsWorn p'
closes-worn t stop.NoMemory p p' kept c = absurd c
closes-worn t stop.Worn p p' kept c = c.3

pub serves-worn : {T P : Type 0} (t : TalkModel T P) {kept : t.manner.Kept} {talker : T} {p p' : P}
    {before after put put' : Option (List ℕ)} → TalksTo t Worn kept talker p p' before after put put'
    → Serves t Worn kept p p' before after put put'
serves-worn t {before = before} {put = put} {put' = put'} s = record {
  calls = s.calls;
  made = s.made;
  served = record {
    script = told-as before put put' _ _ (λ bytes text h. InAnswer h) s.talks.script;
    taken = λ is. absurd is;
  };
  keeps = λ n. absurd (n refl);
}
