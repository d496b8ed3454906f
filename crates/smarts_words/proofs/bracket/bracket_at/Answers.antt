use Rattle.std.proofs.Common.{◌≡◌, Option, Some, None, subst}
use Rattle.std.specs.Option.{IfSome, IsSomeAnd}
use Rattle.smarts_words.proofs.BracketRead.{hydro_taken, low_taken, bracket_refused}
use Rattle.smarts_words.proofs.bracket.bracket_at.Goals as goal

pub returns-in-Some : goal.returns-in-Some
returns-in-Some c =
    let f = c.in-Some.ensures.found in
    hydro_taken c.args.bytes.now c.in-Some.rest.now c.in_ok-hydro_atom.field-0 f.0 f.1 f.2 f.3 f.4
    (c.in_ok-hydro_atom.ensures f.0 f.5) c.in-Some.ensures.only

known : {T : Type 0} (P : T → Type 0) (o : Option T) (x : T) → o ≡ Some x → IfSome o P → P x
known {T = T} P o x e h = let F : Option T → Type 0 = λ v. IfSome v P in subst F e h

known_and : {T : Type 0} (P : T → Type 0) (o : Option T) (x : T) → o ≡ Some x → IsSomeAnd o P → P x
known_and {T = T} P o x e h = let F : Option T → Type 0 = λ v. IsSomeAnd v P in subst F e h

pub returns-in-Some-after_end : goal.returns-in-Some-after_end
returns-in-Some-after_end c =
    let found = known _ _ _ c.in-Some-2.is c.in_ok-atom.ensures.found in
    let e = c.in-Some-after_end.ensures.found in
    low_taken c.args.bytes.now c.in-Some-2.rest.now c.in-Some-after_end.rest.now c.in-Some-2.atom e.0 found.1 e.1 e.2
    c.in_default.ensures.only
    (λ x s is ends h. known_and _ _ _ c.in-Some-2.is (c.in_ok-atom.ensures.only x s is ends h))
    c.in-Some-after_end.ensures.only

pub returns-in_default-2 : goal.returns-in_default-2
returns-in_default-2 c = bracket_refused c.args.bytes.now c.in_default.ensures.only (λ x j s is ends class h.
    none_and _ _ c.in_default-2.is (c.in_ok-atom.ensures.only x _ is ends h))
  where
    none_and : {T : Type 0} (P : T → Type 0) (o : Option T) → o ≡ None → IsSomeAnd o P → ⊥
    none_and {T = T} P o e h = let F : Option T → Type 0 = λ v. IsSomeAnd v P in subst F e h

pub returns-in-None : goal.returns-in-None
returns-in-None c =
    bracket_refused c.args.bytes.now c.in_default.ensures.only (λ x j s is ends class h.
    c.in-None.ensures.only j s class (known_and _ _ _ c.in-Some-2.is (c.in_ok-atom.ensures.only x _ is ends h)))
