use Rattle.std.proofs.Common.{◌≡◌, ℕ, ◌+◌, List, [], ◌∷◌, ◌++◌, length, map, drop, sym, ◌∙◌, ap, subst, arith}
use Rattle.std.proofs.lemmas.Grind.{common_steps}
use Rattle.std.proofs.lemmas.List.{drop_all, length-map}
use Rattle.smarts_words.specs.Bracket.{AtomValue}
use Rattle.smarts_words.specs.declared.word.Step.{Step}
use Rattle.smarts_parse.specs.declared.pattern.AtomPrim.{AtomPrim}
use Rattle.smarts_parse.specs.declared.pattern.Expr.{Expr}
use Rattle.smarts_parse.specs.Pattern.{term_of}
use Rattle.smarts_parse.specs.Meaning.{postfix, atom_steps}
use Rattle.smarts_parse.proofs.Building.{AtomsLeft, no_atoms, atom_next, next_steps, atom_done, atoms_all, drop_at, exprs_push}
use Rattle.smarts_parse.proofs.build.atoms.Goals as goal

pub loop-atom-init : goal.loop-atom-init
loop-atom-init c =
    let vs = c.args.atoms.now in
    let ns = c.args.numbers.now in
    let F : List (Expr AtomPrim) → Type 0 = λ v. AtomsLeft vs vs ns ns (map postfix (map term_of v)) in
    subst F (sym c.new-exprs.ensures.items) (no_atoms vs ns c.requires.are c.requires.plain c.requires.enough)

pub atom_expr-requires : goal.atom_expr-requires
atom_expr-requires c =
    let vs = c.args.atoms.now in
    let i = c.loop-atom.atom-index in
    let x = c.atom-item.result in
    let done = map postfix (map term_of c.loop-atom.exprs.items) in
    let left = c.loop-atom.left.now in
    let F : List AtomValue → Type 0 = λ v. AtomsLeft v vs left c.args.numbers.now done in
    let h = subst F (drop_at vs i x (omega arith) c.atom-item.is) c.loop-atom.invariant in
    next_steps x c.steps.result.now left (atom_next x (drop
    (i + 1) vs) vs left c.args.numbers.now done h) c.steps.ensures

pub after-left-requires : goal.after-left-requires
after-left-requires c =
    let vs = c.args.atoms.now in
    let i = c.loop-atom.atom-index in
    let x = c.atom-item.result in
    let done = map postfix (map term_of c.loop-atom.exprs.items) in
    let left = c.loop-atom.left.now in
    let F : List AtomValue → Type 0 = λ v. AtomsLeft v vs left c.args.numbers.now done in
    let h = subst F (drop_at vs i x (omega arith) c.atom-item.is) c.loop-atom.invariant in
    let a = (atom_next x (drop (i + 1) vs) vs left c.args.numbers.now done h).enough in
    let count = ap length c.parts.ensures in
    omega (arith, length-map c.parts.result.now (λ v. v.items))

pub loop-atom-preserved : goal.loop-atom-preserved
loop-atom-preserved c =
    let vs = c.args.atoms.now in
    let i = c.loop-atom.atom-index in
    let x = c.atom-item.result in
    let ns = c.args.numbers.now in
    let done = map postfix (map term_of c.loop-atom.exprs.items) in
    let left = c.loop-atom.left.now in
    let F : List AtomValue → Type 0 = λ v. AtomsLeft v vs left ns done in
    let h = subst F (drop_at vs i x (omega arith) c.atom-item.is) c.loop-atom.invariant in
    let e : c.push.new.self.items ≡ c.loop-atom.exprs.items ++ c.in_ok-atom_expr.field-0 ∷ [] = grind
    (arith, common_steps) in
    let f = exprs_push c.loop-atom.exprs.items c.push.new.self.items c.in_ok-atom_expr.field-0 e
    ∙ ap (λ v. done ++ v ∷ []) (c.in_ok-atom_expr.ensures ∙ ap (atom_steps left) c.steps.ensures) in
    let G : List (List (Step AtomPrim)) → Type 0 = λ v.
    AtomsLeft (drop (i + 1) vs) vs (drop (length x.parts) left) ns v in
    let count = ap length c.parts.ensures in
    let n : length c.parts.result.now ≡ length x.parts = omega (arith, length-map c.parts.result.now (λ v. v.items)) in
    let H : List ℕ → Type 0 = λ v. AtomsLeft (drop (i + 1) vs) vs v ns
    (map postfix (map term_of c.push.new.self.items)) in
    subst H (sym (c.after-left.ensures ∙ ap (λ k. drop k left) n)) (subst G (sym f) (atom_done x (drop
    (i + 1) vs) vs left ns done h))

pub returns : goal.returns
returns c =
    let vs = c.args.atoms.now in
    let F : List AtomValue → Type 0 = λ v.
    AtomsLeft v vs c.loop-atom.left.now c.args.numbers.now (map postfix (map term_of c.loop-atom.exprs.items)) in
    atoms_all vs c.loop-atom.left.now c.args.numbers.now (map postfix (map term_of c.loop-atom.exprs.items))
    (subst F (drop_all c.loop-atom.atom-index vs (omega arith)) c.loop-atom.invariant)
