-- A session's dialogue by pages of one size.
use Rattle.std.proofs.Common.{◌≡◌, ℕ, List, [], ◌∷◌, ◌++◌, ap, refl, subst}
use Rattle.dialogue.specs.Dialogue.{AreExchanged, calls_in}
use Rattle.dialogue.specs.Manner.{Manner}
use Rattle.session_acts.specs.Acts.{RequestAnswer}
use Rattle.session_acts.specs.Cursors.{Calls, unpins}
use Rattle.session_acts.specs.Requests.{request_of}
use Rattle.session_acts.specs.Talking.{Exchange, Kept, sessions}
use Rattle.session_acts.specs.Watching.{Standing}

-- as `sessions`, where only what stands between the requests is kept
abbrev pub sized : ℕ → Manner
sized size = record {
  Kept = Standing;
  Call = sessions.Call;
  Reply = sessions.Reply;
  text_of = sessions.text_of;
  IsWhole = sessions.IsWhole;
  Answers = λ standing lines calls said standing'.
      RequestAnswer size standing (request_of lines) calls said standing';
  Cuts = λ standing lines calls standing'. Unit {0};
  closing = λ standing. unpins standing.cursors;
}

pub sized_exchanges : (kept kept' : Kept) (xs : List Exchange) → AreExchanged sessions kept xs kept'
    → AreExchanged (sized kept.page) kept.standing xs kept'.standing
sized_exchanges kept kept' [] h = ap (λ (k : Kept). k.standing) h
sized_exchanges kept kept' (x ∷ xs) h = (
  h.0.standing,
  h.1.0,
  subst (λ (n : ℕ). AreExchanged (sized n) h.0.standing xs kept'.standing) h.1.1 (sized_exchanges h.0 kept' xs h.2),
)

pub sized_calls : (size : ℕ) (xs : List Exchange) → calls_in sessions xs ≡ calls_in (sized size) xs
sized_calls size [] = refl
sized_calls size (x ∷ xs) = ap (λ (l : Calls). x.calls ++ l) (sized_calls size xs)
