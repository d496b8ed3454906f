-- The end of a search among reply lines, and what a page says.
use Rattle.std.proofs.Common.{◌≡◌, ◌++◌, ◌<◌, ◌≤◌, ◌↔◌, ◌∙◌, ap, append-nil, append_assoc, arith, Bool, cond, Contains, false, leb-false, leb-true, nat_le, inl, inr, length, List, [], ◌∷◌, map, refl, subst, sym, true, ℕ}
use Rattle.std.proofs.lemmas.Bool.{true≢false}
use Rattle.std.proofs.lemmas.List.Elements.{Contains-append_right}
use Rattle.shell_lang.specs.Command as command
use Rattle.shell_lang.specs.Reply as line
use Rattle.store_machine.specs.Searches.{At, End, Place, past}
use Rattle.session_acts.specs.Acts.{Advances, Ended, IsCutShort, Lines, Lists, Lost, Paged, after_page, page_end}
use Rattle.session_acts.specs.Cursors.{Calls, Cursor}
use Rattle.session_acts.specs.Dialogue.{AreListed, GivePage, IsCommand, hits_in}
use Rattle.session_acts.specs.Requests.{request_of}
use Rattle.session_acts.specs.Talking.{Exchange}
use Rattle.session_acts.proofs.Passing.{behind_hits, hit_or_more, hits_listed, last_or_more, one_in}

-- The end among lines
pub hit_or_end : (id version tried hits : ℕ) → line.Hit id ≡ line.End version tried hits → ⊥
hit_or_end id version tried hits e = cc

pub end_behind : (hits : List ℕ) (said : line.Reply) (version tried count : ℕ)
    → Contains (map line.Hit hits ++ said ∷ []) (line.End version tried count) → said ≡ line.End version tried count
end_behind hits said version tried count k =
    behind_hits (line.End version tried count) (λ id e. hit_or_end id version tried count e) hits said k

pub fault_or_end : (version tried hits : ℕ) → line.MemoryFault ≡ line.End version tried hits → ⊥
fault_or_end version tried hits e = cc

-- lines that give no page
pub no_page_said : (lines : Lines) → GivePage lines → ¬ Contains lines line.More
    → ((version tried hits : ℕ) → ¬ Contains lines (line.End version tried hits)) → ⊥
no_page_said lines (inl m) no_more no_end = no_more m
no_page_said lines (inr m) no_more no_end = no_end m.0 m.1 m.2 m.3

-- whether a page says `more`
pub says_more : (c : Cursor) (last : Bool) (hits : List ℕ) (n size : ℕ) → last ≡ nat_le n size
    → Contains (map line.Hit hits ++ page_end last c ∷ []) line.More ↔ (size < n)
says_more c true hits n size e = (
  λ m. absurd (true≢false (last_or_more true c (behind_hits line.More hit_or_more hits (page_end true c) m))),
  λ lt. let le : n ≤ size = leb-true n size (sym e) in absurd (omega arith),
)
says_more c false hits n size e = (
  λ m. leb-false n size (sym e),
  λ lt. Contains-append_right (map line.Hit hits) (line.More ∷ []) line.More (0, omega arith, refl),
)

pub more_or_end : (version tried hits : ℕ) → line.More ≡ line.End version tried hits → ⊥
more_or_end version tried hits e = cc

-- the numbers of an end
pub record SameEnd (version tried hits version' tried' hits' : ℕ) : Type 0 where
  pub version_is : version ≡ version'
  pub tried_is : tried ≡ tried'
  pub hits_is : hits ≡ hits'

pub same_end : (version tried hits version' tried' hits' : ℕ) → line.End version tried hits ≡ line.End version' tried' hits'
    → SameEnd version tried hits version' tried' hits'
same_end version tried hits version' tried' hits' e = record { version_is = a; tried_is = b; hits_is = c } where
  a : version ≡ version'
  a = cc

  b : tried ≡ tried'
  b = cc

  c : hits ≡ hits'
  c = cc

pub cut_end : (hits : List ℕ) (lines : Lines) (version tried count : ℕ) → IsCutShort hits lines
    → Contains lines (line.End version tried count) → ⊥
cut_end hits lines version tried count c k =
    fault_or_end version tried count
    (end_behind c.0 line.MemoryFault version tried count
    (subst (λ (l : Lines). Contains l (line.End version tried count)) c.3 k))

-- a search whose lines have an end
pub record IsEndOf (place : Place) (version tried : ℕ) (hits : List ℕ) (lines : Lines)
    (version' tried' count : ℕ) : Type 0 where
  pub place_is : place ≡ End
  pub numbers : SameEnd version tried (length hits) version' tried' count
  pub listed : hits_in lines ≡ hits

pub search_end : (place : Place) (version tried : ℕ) (hits : List ℕ) (lines : Lines) (version' tried' count : ℕ)
    → Lists place version tried hits lines
    → Contains lines (line.End version' tried' count) → IsEndOf place version tried hits lines version' tried' count
search_end End version tried hits lines version' tried' count (inl e) k = record {
  place_is = refl;
  numbers = same_end version tried (length hits) version' tried' count
      (end_behind hits (line.End version tried (length hits)) version' tried' count
      (subst (λ (l : Lines). Contains l (line.End version' tried' count)) e k));
  listed = ap hits_in e ∙ hits_listed hits (line.End version tried (length hits)) refl;
}
search_end End version tried hits lines version' tried' count (inr c) k =
    absurd (cut_end hits lines version' tried' count c k)
search_end (At from) version tried hits lines version' tried' count c k =
    absurd (cut_end hits lines version' tried' count c k)

-- a cursor whose lines have an end
page_is_end : (last : Bool) (c : Cursor) (version tried count : ℕ) → page_end last c ≡ line.End version tried count
    → (last ≡ true) × SameEnd c.version c.tried c.hits version tried count
page_is_end true c version tried count e = (refl, same_end c.version c.tried c.hits version tried count e)
page_is_end false c version tried count e = absurd (more_or_end version tried count e)

pub advance_end : {size : ℕ} {c c' : Cursor} {calls : Calls} {lines : Lines} (version tried count : ℕ)
    → Advances size c calls lines c' → Contains lines (line.End version tried count)
    → (c'.place ≡ End) × SameEnd c'.version c'.tried c'.hits version tried count
advance_end {c = c} version tried count (Ended at) k =
    (at, same_end c.version c.tried c.hits version tried count (one_in _ _ k))
advance_end {c = c} version tried count (Paged from records last hits at m) k =
    let next = after_page c from records last hits in
    let e = page_is_end last next version tried count (end_behind hits (page_end last next) version tried count k) in
    (ap (λ (b : Bool). cond b End (At (past from records))) e.0, e.1)
advance_end version tried count (Lost from at) k =
    absurd (fault_or_end version tried count (one_in line.MemoryFault (line.End version tried count) k))

-- what was listed up to a last page
pub listed_parts : (name : List ℕ) (xs : List Exchange) (y : Exchange) (hits : List ℕ) → AreListed name (xs ++ y ∷ []) hits
    → IsCommand (request_of y.request) (command.Next name)
    → (more : List ℕ) × AreListed name xs more × (hits ≡ more ++ hits_in y.reply)
listed_parts name [] y hits (inl k) is =
    ([], refl, k.2 ∙ (ap (λ (l : List ℕ). hits_in y.reply ++ l) k.3 ∙ append-nil (hits_in y.reply)))
listed_parts name [] y hits (inr k) is = absurd (k.0 is)
listed_parts name (x ∷ xs) y hits (inl k) is =
    let r = listed_parts name xs y k.1 k.3 is in (
      hits_in x.reply ++ r.0,
      inl (k.0, r.0, refl, r.1),
      k.2
          ∙ (ap (λ (l : List ℕ). hits_in x.reply ++ l) r.2
          ∙ sym (append_assoc (hits_in x.reply) r.0 (hits_in y.reply))),
    )
listed_parts name (x ∷ xs) y hits (inr k) is = let r = listed_parts name xs y hits k.1 is in (r.0, inr (k.0, r.1), r.2)
