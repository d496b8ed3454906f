-- What a session put of a script: whole transcripts, beginnings, and what is true of them.
use Rattle.std.proofs.Common.{◌≡◌, ◌≢◌, ℕ, List, [], ◌∷◌, ◌++◌, Option, None, Some, IfSome, refl, sym, ap, inl, inr, append-nil, arith}
use Rattle.io_edge.specs.Lines.{TextLine, lines_of}
use Rattle.io_edge.specs.declared.sinks.Sink as put
use Rattle.io_edge.specs.declared.sources.Source as taken
use Rattle.session_acts.specs.Cursors.{Calls}
use Rattle.session_acts.specs.Served as session
use Rattle.session_acts.specs.Served.{EndsAs, TakesAtMost, Writes}
use Rattle.session_acts.specs.Truths.{AreTrue, IsInRun, IsTrueBeginning, IsTrueService, ServicesAreTrue}
use Rattle.session_acts.specs.Talking.{begun}
use Rattle.dialogue.specs.declared.end.EndStatus.{EndStatus}
use Rattle.dialogue.specs.declared.end.EndStatus.TheVariants.{Done, SourceFault, SinkFault, NoMemory, InputTooLong, Worn}
use Rattle.store_core.specs.Stored.{empty}
use Rattle.store_machine.specs.declared.machine.History.{History}
use Rattle.chem_shell.specs.Ends.{ServesMem, ServesScript, with_status}
use Rattle.chem_shell.specs.Runs.{AreOfRun, IsTranscriptBy, IsTranscriptPrefixBy}
use Rattle.chem_shell.specs.Serving.{IsScriptServed}
use Rattle.chem_shell.specs.Status.{IsEndStatus, IsInputStatus}
use Rattle.serve_ends.specs.Status.{IsStatusOf}
use Rattle.chem_shell.specs.declared.request.Plan.{Plan}
use Rattle.serve_ends.specs.declared.end.End.{End}
use Rattle.chem_shell.specs.declared.settings.TheConstants.{INPUT_LIMIT}
use Rattle.serve_ends.specs.declared.status.TheConstants.{DONE}

-- requests that were answered whole are a beginning
answered_begins : (page : ℕ) (lines : List TextLine) (calls : Calls) (text : List ℕ)
    → session.IsWholePrefix page lines calls text → session.IsTranscriptPrefix page lines calls text
answered_begins page lines calls text (own, kept, answered, all) = (own, kept, inl answered, all)

whole_begins : (page : ℕ) (lines : List TextLine) (calls : Calls) (text : List ℕ)
    → session.IsTranscript page lines calls text → session.IsTranscriptPrefix page lines calls text
whole_begins page lines calls text (own, kept, dialogue, all) =
    answered_begins page lines calls text (own, kept, ([], dialogue), all)

abbrev nothing_answered : (page : ℕ) (lines : List TextLine) → session.IsDialogue page lines lines [] [] (begun page)
nothing_answered page lines =
    record { exchanges = []; begin = refl; exchanged = refl; made = refl; said = refl }

nothing_begins : (page : ℕ) (lines : List TextLine) → session.IsTranscriptPrefix page lines [] []
nothing_begins page lines = (
  [],
  begun page,
  inl (lines, nothing_answered page lines),
  refl,
)

-- a session that is not worn put a prefix
served_begins : (ended : EndStatus) (page : ℕ) (lines : List TextLine) (calls : Calls) (text : List ℕ)
    → ended ≢ Worn
    → session.IsServed ended page lines calls text → session.IsTranscriptPrefix page lines calls text
served_begins Done page lines calls text fit served = whole_begins page lines calls text served
served_begins Worn page lines calls text fit served = absurd (fit refl)
served_begins SourceFault page lines calls text fit served = answered_begins page lines calls text served
served_begins SinkFault page lines calls text fit served = served
served_begins NoMemory page lines calls text fit served = served
served_begins InputTooLong page lines calls text fit served = answered_begins page lines calls text served

-- the same of what is true of them
true_begins : (ended : EndStatus) (h : History) (page : ℕ) (lines : List TextLine) (calls : Calls) (text : List ℕ)
    → IsTrueService ended h page lines calls text → IsTrueBeginning h page lines calls text
true_begins Done h page lines calls text t = record {
  left = [];
  own = t.own;
  replies = text;
  left_kept = t.left_kept;
  dialogue = t.dialogue;
  said = ([], append-nil text);
  made = t.made;
  are_true = t.are_true;
}
true_begins Worn h page lines calls text t = t
true_begins SourceFault h page lines calls text t = t
true_begins SinkFault h page lines calls text t = t
true_begins NoMemory h page lines calls text t = t
true_begins InputTooLong h page lines calls text t = t

nothing_inside : {X : Type 0} (before : List X) (x : X) (after : List X) → [] ≡ before ++ x ∷ after → ⊥
nothing_inside [] x after e = cc
nothing_inside (b ∷ before) x after e = cc

pub none_true : (h : History) (page : ℕ) → AreTrue h page []
none_true h page = record {
  commits = λ before after x v e told. absurd (nothing_inside before x after e);
  searches = λ before after x text version tried count e is ends. absurd (nothing_inside before x after e);
  cursors = λ before between after x y name text hits opened version tried count e first begun stays last ends listed.
      absurd (nothing_inside before x (between ++ y ∷ after) e);
  pages = λ before between after x y name text version k e first begun stays turned last gives.
      absurd (nothing_inside before x (between ++ y ∷ after) e);
  sames = λ before after x text version tried count e is ends. absurd (nothing_inside before x after e);
  registrations = λ before after x id text e is. absurd (nothing_inside before x after e);
  similars = λ before after x p q k text version scored count e is ends. absurd (nothing_inside before x after e);
  watchings = λ before after x name text version count e is tells. absurd (nothing_inside before x after e);
  watches = λ before between after x y name text first found version count rebuilt e began tells stays last ends.
      absurd (nothing_inside before x (between ++ y ∷ after) e);
}

nothing_is_true : (h : History) (page : ℕ) (lines : List TextLine) → IsTrueBeginning h page lines [] []
nothing_is_true h page lines = record {
  left = lines;
  own = [];
  replies = [];
  left_kept = begun page;
  dialogue = nothing_answered page lines;
  said = ([], refl);
  made = ([], refl);
  are_true = none_true h page;
}

-- no calls are those of no run
none_of_run : (commits : ℕ) → AreOfRun commits []
none_of_run commits = record { steps = []; last = empty commits; run = refl; calm = tt; all = refl; sure = tt }

pub writes_as : (before after : Option (List ℕ)) (P Q : List ℕ → Type 0) → ((text : List ℕ) → P text → Q text)
    → Writes before after P → Writes before after Q
writes_as None after P Q f h = tt
writes_as (Some old) after P Q f h = (h.0, h.1, f h.0 h.2)

-- what a session put by the calls of a run is true by its history
pub served_true : ServicesAreTrue → (ended : EndStatus) (page : ℕ) (input left before after : Option (List ℕ))
    (calls : Calls) (h : History) → IsInRun calls h → session.IsServedBy ended page input left before after calls
    → IsScriptServed ended page input left before after calls h
served_true law ended page input left before after calls h run served =
    record { script = go input served.script; taken = served.taken }
  where
    go : (input : Option (List ℕ))
        → IfSome input (λ bytes. Writes before after (session.IsServed ended page (lines_of bytes) calls))
        → IfSome input (λ bytes. Writes before after (λ text. session.IsServed ended page (lines_of bytes) calls text
        × IsTrueService ended h page (lines_of bytes) calls text))
    go None s = tt
    go (Some bytes) s = writes_as before after (session.IsServed ended page (lines_of bytes) calls)
        (λ text. session.IsServed ended page (lines_of bytes) calls text
        × IsTrueService ended h page (lines_of bytes) calls text)
        (λ text is. (is, law ended page (lines_of bytes) calls text h run is)) s

-- as a beginning
prefix_of : (ended : EndStatus) (page : ℕ) (input before after : Option (List ℕ)) (calls : Calls) (h : History)
    → ended ≢ Worn
    → IfSome input (λ bytes. Writes before after (λ text. session.IsServed ended page (lines_of bytes) calls text
    × IsTrueService ended h page (lines_of bytes) calls text))
    → IfSome input (λ bytes. Writes before after (IsTranscriptPrefixBy page bytes calls h))
prefix_of ended page None before after calls h fit s = tt
prefix_of ended page (Some bytes) before after calls h fit s = writes_as before after
    (λ text. session.IsServed ended page (lines_of bytes) calls text
    × IsTrueService ended h page (lines_of bytes) calls text)
    (IsTranscriptPrefixBy page bytes calls h)
    (λ text is. (
      served_begins ended page (lines_of bytes) calls text fit is.0,
      true_begins ended h page (lines_of bytes) calls text is.1,
    )) s

-- and as the whole, where the session came to the input's end
all_of : (ended : EndStatus) (status page : ℕ) (input before after : Option (List ℕ)) (calls : Calls) (h : History)
    → IsStatusOf ended status → status ≡ DONE
    → IfSome input (λ bytes. Writes before after (λ text. session.IsServed ended page (lines_of bytes) calls text
    × IsTrueService ended h page (lines_of bytes) calls text))
    → IfSome input (λ bytes. Writes before after (IsTranscriptBy page bytes calls h))
all_of Done status page input before after calls h is e s = s
all_of Worn status page input before after calls h is e s = absurd (omega (arith, is, e))
all_of SourceFault status page input before after calls h is e s = absurd (omega (arith, is, e))
all_of SinkFault status page input before after calls h is e s = absurd (omega (arith, is, e))
all_of NoMemory status page input before after calls h is e s = absurd (omega (arith, is, e))
all_of InputTooLong status page input before after calls h is e s = absurd (omega (arith, is, e))

-- status 0 comes where the session was done
pub done_of : (ended : EndStatus) (status : ℕ) → IsStatusOf ended status → status ≡ DONE → ended ≡ Done
done_of Done status is e = refl
done_of Worn status is e = absurd (omega (arith, is, e))
done_of SourceFault status is e = absurd (omega (arith, is, e))
done_of SinkFault status is e = absurd (omega (arith, is, e))
done_of NoMemory status is e = absurd (omega (arith, is, e))
done_of InputTooLong status is e = absurd (omega (arith, is, e))

-- a status of a session is one of an end
pub end_of : (ended : EndStatus) (status : ℕ) → ended ≢ Worn → IsStatusOf ended status → IsEndStatus status
end_of Done status fit is = inl is
end_of SourceFault status fit is = inr (inl is)
end_of SinkFault status fit is = inr (inr (inl is))
end_of NoMemory status fit is = inr (inr (inr (inl is)))
end_of InputTooLong status fit is = inr (inr (inr (inr is)))
end_of Worn status fit is = absurd (fit refl)

-- the statuses of a source's fault and of too many bytes are those of these ends of a session
pub input_fault_of : (ended : EndStatus) (status : ℕ) → IsStatusOf ended status → IsInputStatus status
    → session.IsInputFault ended
input_fault_of Done status is (inl e) = absurd (omega (arith, is, e))
input_fault_of Done status is (inr e) = absurd (omega (arith, is, e))
input_fault_of SinkFault status is (inl e) = absurd (omega (arith, is, e))
input_fault_of SinkFault status is (inr e) = absurd (omega (arith, is, e))
input_fault_of NoMemory status is (inl e) = absurd (omega (arith, is, e))
input_fault_of NoMemory status is (inr e) = absurd (omega (arith, is, e))
input_fault_of SourceFault status is e = tt
input_fault_of InputTooLong status is e = tt
input_fault_of Worn status is (inl e) = absurd (omega (arith, is, e))
input_fault_of Worn status is (inr e) = absurd (omega (arith, is, e))

-- what a session leaves of an end
pub script_of : {S K : Type 0} (source : taken.Ghosts S) (sink : put.Ghosts K) (ended : EndStatus) (page : ℕ)
    (calls : Calls) (h : History) (old new : End S K) → ended ≢ Worn → IsStatusOf ended new.status
    → IsScriptServed ended page (source.left old.source) (source.left new.source) (sink.written old.sink)
    (sink.written new.sink) calls h → EndsAs source sink ended INPUT_LIMIT old.source new.source old.sink new.sink
    → ServesScript source.left sink.written page calls h old new
script_of source sink ended page calls h old new fit is served ends =
    let input = source.left old.source in
    let before = sink.written old.sink in
    let after = sink.written new.sink in
    record {
      status = end_of ended new.status fit is;
      prefix = prefix_of ended page input before after calls h fit served.script;
      all = λ e. all_of ended new.status page input before after calls h is e served.script;
      taken = λ e. served.taken (input_fault_of ended new.status is e);
      done = λ e. ends.done (done_of ended new.status is e);
      within = ends.within;
    }

-- where nothing was put
nothing_put : (page : ℕ) (h : History) (input before : Option (List ℕ))
    → IfSome input (λ bytes. Writes before before (IsTranscriptPrefixBy page bytes [] h))
nothing_put page h None before = tt
nothing_put page h (Some bytes) None = tt
nothing_put page h (Some bytes) (Some old) = (
  [],
  ap Some (sym (append-nil old)),
  (nothing_begins page (lines_of bytes), nothing_is_true h page (lines_of bytes)),
)

pub none_taken : (input : Option (List ℕ)) (n : ℕ) → TakesAtMost input input n
none_taken None n = tt
none_taken (Some bytes) n = ([], bytes, refl, refl, omega arith)

-- an end for which memory ran out before anything was served
pub mem_unmoved : {S K : Type 0} (plan : Plan) (left : S → Option (List ℕ)) (written : K → Option (List ℕ))
    (end : End S K) → ServesMem plan left written end (with_status 8 end)
mem_unmoved plan left written end =
    let run = none_of_run plan.commits in
    record {
      calls = [];
      run = run;
      script = record {
        status = inr (inr (inr (inl refl)));
        prefix = nothing_put plan.page run.last.history (left end.source) (written end.sink);
        all = λ e. absurd (omega (arith, e));
        taken = λ e. absurd (no_input e);
        done = λ e. absurd (omega (arith, e));
        within = none_taken (left end.source) INPUT_LIMIT;
      };
    }
  where
    no_input : IsInputStatus 8 → ⊥
    no_input (inl e) = omega (arith, e)
    no_input (inr e) = omega (arith, e)

-- the same at a plan that asks for the same
pub mem_same : {S K : Type 0} (left : S → Option (List ℕ)) (written : K → Option (List ℕ)) (p q : Plan)
    (old new : End S K) → p.commits ≡ q.commits → p.page ≡ q.page → ServesMem q left written old new
    → ServesMem p left written old new
mem_same left written p q old new commits page m = record {
  calls = m.calls;
  run = record {
    steps = m.run.steps;
    last = m.run.last;
    run = rw commits m.run.run;
    calm = m.run.calm;
    all = m.run.all;
    sure = m.run.sure;
  };
  script = rw page m.script;
}
