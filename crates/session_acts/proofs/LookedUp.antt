-- What a lookup does to pins.
use Rattle.std.proofs.Common.{◌≡◌, ◌++◌, ◌∙◌, ap, append-nil, Bool, cond, inl, inr, List, [], ◌∷◌, ne_eqb, refl, subst, sym, ℕ}
use Rattle.chem_core.specs.Molecule.{Molecule}
use Rattle.lookup.specs.Fetches.{AreFetches, lookup_calls}
use Rattle.store_core.specs.Calls.{SameHeld}
use Rattle.store_machine.specs.Searches.{At, End, Place, past}
use Rattle.store_machine.specs.declared.machine.Change.{Change}
use Rattle.store_machine.specs.declared.machine.Event.{Event}
use Rattle.store_machine.specs.declared.machine.Event.TheVariants as events
use Rattle.store_machine.specs.declared.machine.Reply.TheVariants as replies
use Rattle.session_acts.specs.Acts.{AllSame, AllSimilar, IsNew, Lines, ListsSame, ListsSimilar, NewLost, NotNew, RegistersNew, SameLost, SimilarLost}
use Rattle.session_acts.specs.Cursors.{Calls}
use Rattle.session_acts.specs.Lookups.{LooksUp}
use Rattle.session_acts.specs.Pins.{AreApart, HeldAfter, HeldBy, Takes, effect}
use Rattle.session_acts.proofs.Acts.{quiet_ask}
use Rattle.session_acts.proofs.Held.{Leave, after-append, apart-parts, leave-same, same_held-more}
use Rattle.session_acts.proofs.Passing.{PassBy, fetches_pass, passes-append}

pub fetches_leave : (slot size : ℕ) (want : List Bool) (place place' : Place) (cs : Calls)
    → AreFetches slot size want place cs place' → Leave cs
fetches_leave slot size want place place' [] h = tt
fetches_leave slot size want place place' (c ∷ cs) (from, at, is, inl k) =
    (ap (λ (e : Event). effect e c.1) is, subst Leave (sym k.1) tt)
fetches_leave slot size want place place' (c ∷ cs) (from, at, is, inr k) =
    (ap (λ (e : Event). effect e c.1) is, fetches_leave slot size want (cond k.1 End (At (past from k.0))) place' cs k.3)

-- a pin, fetches of it, and it is given back
pub pin_returned : (a : ℕ → ℕ → Type 0) (slot version size : ℕ) (want : List Bool) (place : Place) (calls pages : Calls)
    → calls ≡ lookup_calls slot version pages → AreFetches slot size want (At 0) pages place → AreApart a calls
    → SameHeld a (HeldAfter a calls)
pin_returned a slot version size want place calls pages made fetches apart =
    let taken : ℕ → ℕ → Type 0 = HeldBy a (Takes slot version) in
    let unpin : Calls = (events.Unpin slot, replies.Unpinned) ∷ [] in
    let free = subst (AreApart a) made apart in
    let leave = leave-same taken pages (fetches_leave slot size want (At 0) place pages fetches) in
    subst (λ (cs : Calls). SameHeld a (HeldAfter a cs)) (sym made)
    (subst (λ (f : ℕ → ℕ → Type 0). SameHeld a f) (sym (after-append taken pages unpin)) (λ s v. (
      λ x. elim ((leave s v).0 x.0) [ inl h ↦ h | inr e ↦ absurd (x.1 (sym e.0)) ],
      λ x. (
        (leave s v).1 (inl x),
        λ e. free.0 v (subst (λ (n : ℕ). a n v) (sym e) x),
      ),
    )))

-- calls that begin with a lookup; those behind it leave all pins
pub record IsLookup (size : ℕ) (calls : Calls) : Type 0 where
  pub want : List Bool
  pub place : Place
  pub first : Calls
  pub rest : Calls
  pub made : calls ≡ first ++ rest
  pub lookup : LooksUp size want place first
  pub leave : Leave rest
  pub pass : (slot : ℕ) → PassBy slot rest

pub alone : {size : ℕ} {want : List Bool} {place : Place} {calls : Calls} → LooksUp size want place calls → IsLookup size calls
alone {want = want} {place = place} {calls = calls} l = record {
  want = want;
  place = place;
  first = calls;
  rest = [];
  made = sym (append-nil calls);
  lookup = l;
  leave = tt;
  pass = λ slot. tt;
}

pub same_looks : {size : ℕ} {m : Molecule} {print : List Bool} {calls : Calls} {lines : Lines}
    → ListsSame size m print calls lines → IsLookup size calls
same_looks (AllSame calls list found) = alone found.lookup
same_looks (SameLost calls place lookup) = alone lookup

pub new_looks : {size : ℕ} {change : Change} {m : Molecule} {print : List Bool} {calls : Calls} {lines : Lines}
    → RegistersNew size change m print calls lines → IsLookup size calls
new_looks (NotNew calls list id more found first) = alone found.lookup
new_looks {change = change} {print = print} (IsNew calls list reply said found none is) =
    let q = quiet_ask (events.Commit change) reply said is in
    record {
      want = print;
      place = End;
      first = calls;
      rest = (events.Commit change, reply) ∷ [];
      made = refl;
      lookup = found.lookup;
      leave = q.leave;
      pass = q.pass;
    }
new_looks (NewLost calls place lookup) = alone lookup

pub similar_looks : {size p q k : ℕ} {print : List Bool} {calls : Calls} {lines : Lines}
    → ListsSimilar size p q k print calls lines → IsLookup size calls
similar_looks (AllSimilar calls list found) = alone found.lookup
similar_looks (SimilarLost calls want place none lookup) = alone lookup

-- its pin is given back
pub looked_held : {size : ℕ} {calls : Calls} (a : ℕ → ℕ → Type 0) → IsLookup size calls → AreApart a calls
    → SameHeld a (HeldAfter a calls)
looked_held {size = size} a l apart =
    let u = l.lookup in
    let parts = apart-parts a l.first l.rest (subst (AreApart a) l.made apart) in
    let one = pin_returned a u.slot u.version size l.want l.place l.first u.pages u.made u.fetches parts.0 in
    let held : ℕ → ℕ → Type 0 = HeldAfter a l.first in
    subst (λ (cs : Calls). SameHeld a (HeldAfter a cs)) (sym l.made)
    (subst (λ (f : ℕ → ℕ → Type 0). SameHeld a f) (sym (after-append a l.first l.rest))
    (same_held-more a held (HeldAfter held l.rest) one (leave-same held l.rest l.leave)))

-- it passes the pins of others by
pub looked_pass : {size : ℕ} {calls : Calls} (slot : ℕ) (l : IsLookup size calls) → ¬ (slot ≡ l.lookup.slot)
    → PassBy slot calls
looked_pass {size = size} slot l apart =
    let u = l.lookup in
    subst (PassBy slot) (sym l.made) (passes-append slot l.first l.rest (subst (PassBy slot) (sym u.made) (
      refl,
      refl,
      passes-append slot u.pages ((events.Unpin u.slot, replies.Unpinned) ∷ [])
          (fetches_pass u.slot size slot l.want (At 0) l.place u.pages (λ e. apart (sym e)) u.fetches)
          (ne_eqb u.slot slot (λ e. apart (sym e)), refl, tt),
    )) (l.pass slot))

-- its first call
pub looked_first : {size : ℕ} {calls : Calls} (l : IsLookup size calls)
    → (rest : Calls) × (calls ≡ (events.Pin, replies.Pinned l.lookup.slot l.lookup.version) ∷ rest)
looked_first l =
    let u = l.lookup in
    ((u.pages ++ (events.Unpin u.slot, replies.Unpinned) ∷ []) ++ l.rest, l.made ∙ ap (λ (cs : Calls). cs ++ l.rest) u.made)
