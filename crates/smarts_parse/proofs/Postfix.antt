-- Postfix order: an expression is told from its steps, and steps leave one expression.
use Rattle.std.proofs.Common.{◌≡◌, ℕ, ◌+◌, ◌-◌, ◌≤◌, List, [], ◌∷◌, ◌++◌, map, replicate, zero, suc, refl, sym, ◌∙◌, ap, subst, arith, append_assoc}
use Rattle.std.proofs.lemmas.List.{append-nil}
use Rattle.std.specs.List.{flat_map, AllByRecursion}
use Rattle.smarts_words.specs.declared.word.Step.{Step}
use Rattle.smarts_words.specs.declared.word.Step.TheVariants as steps
use Rattle.smarts_words.specs.Expression.{joined}
use Rattle.smarts_parse.specs.Pattern.{Term, Prim, Not, And, Or}
use Rattle.smarts_parse.specs.Meaning.{postfix}
use Rattle.smarts_parse.specs.Steps.{operands, LeaveOne}

-- the expressions that steps leave on a stack, the last of them first
run : {P : Type 0} → List (Step P) → List (Term P) → List (Term P)
run [] es = es
run (steps.Prim p ∷ ss) es = run ss (Prim p ∷ es)
run (steps.Not ∷ ss) [] = []
run (steps.Not ∷ ss) (e ∷ es) = run ss (Not e ∷ es)
run (steps.And ∷ ss) [] = []
run (steps.And ∷ ss) (f ∷ []) = []
run (steps.And ∷ ss) (f ∷ e ∷ es) = run ss (And e f ∷ es)
run (steps.Or ∷ ss) [] = []
run (steps.Or ∷ ss) (f ∷ []) = []
run (steps.Or ∷ ss) (f ∷ e ∷ es) = run ss (Or e f ∷ es)

run_postfix : {P : Type 0} (e : Term P) (ss : List (Step P)) (es : List (Term P))
    → run (postfix e ++ ss) es ≡ run ss (e ∷ es)
unfolding run
run_postfix (Prim p) ss es = refl
run_postfix (Not e) ss es = ap (λ w. run w es) (append_assoc (postfix e) (steps.Not ∷ []) ss)
    ∙ run_postfix e (steps.Not ∷ ss) es
run_postfix (And e f) ss es =
    ap (λ w. run w es) (append_assoc (postfix e) (postfix f ++ steps.And ∷ []) ss
    ∙ ap (λ w. postfix e ++ w) (append_assoc (postfix f) (steps.And ∷ []) ss))
    ∙ run_postfix e (postfix f ++ steps.And ∷ ss) es ∙ run_postfix f (steps.And ∷ ss) (e ∷ es)
run_postfix (Or e f) ss es =
    ap (λ w. run w es) (append_assoc (postfix e) (postfix f ++ steps.Or ∷ []) ss
    ∙ ap (λ w. postfix e ++ w) (append_assoc (postfix f) (steps.Or ∷ []) ss))
    ∙ run_postfix e (postfix f ++ steps.Or ∷ ss) es ∙ run_postfix f (steps.Or ∷ ss) (e ∷ es)

run_whole : {P : Type 0} (e : Term P) → run (postfix e) [] ≡ e ∷ []
unfolding run
run_whole e = ap (λ w. run w []) (sym (append-nil (postfix e))) ∙ run_postfix e [] []

pub postfix_injective : {P : Type 0} (e f : Term P) → postfix e ≡ postfix f → e ≡ f
postfix_injective e f h = let k : e ∷ [] ≡ f ∷ [] = sym (run_whole e) ∙ ap (λ w. run w []) h ∙ run_whole f in cc

pub postfixes_injective : {P : Type 0} (es fs : List (Term P)) → map postfix es ≡ map postfix fs → es ≡ fs
postfixes_injective [] [] h = refl
postfixes_injective [] (f ∷ fs) h = absurd (cc)
postfixes_injective (e ∷ es) [] h = absurd (cc)
postfixes_injective (e ∷ es) (f ∷ fs) h =
    let p : postfix e ≡ postfix f = cc in
    let q : map postfix es ≡ map postfix fs = cc in
    let r = postfix_injective e f p in
    let s = postfixes_injective es fs q in
    cc

-- steps that put one more expression on the stack
abbrev pub PutOne : {P : Type 0} → List (Step P) → Type 0
PutOne {P = P} ss = (n : ℕ) (rest : List (Step P)) → LeaveOne (n + 1) rest → LeaveOne n (ss ++ rest)

pub leave_one : {P : Type 0} (ss : List (Step P)) → PutOne ss → LeaveOne 0 ss
leave_one {P = P} ss h = subst (λ (w : List (Step P)). LeaveOne 0 w) (append-nil ss) (h 0 [] refl)

leave_step : {P : Type 0} (s : Step P) (m n : ℕ) (rest : List (Step P)) → operands s ≤ m → m + 1 ≡ n + operands s
    → LeaveOne n rest → LeaveOne m (s ∷ rest)
leave_step {P = P} s m n rest le e h = let k : n ≡ m - operands s + 1 = omega arith in
    (le, subst (λ (w : ℕ). LeaveOne w rest) k h)

pub put_prim : {P : Type 0} (p : P) → PutOne (steps.Prim p ∷ [])
put_prim p n rest h = leave_step (steps.Prim p) n (n + 1) rest (omega arith) (omega arith) h

nots_put : {P : Type 0} (k : ℕ) (n : ℕ) (rest : List (Step P)) → LeaveOne (n + 1) rest
    → LeaveOne (n + 1) (replicate k steps.Not ++ rest)
nots_put zero n rest h = h
nots_put (suc k) n rest h = leave_step steps.Not (n + 1) (n + 1) (replicate k steps.Not ++ rest) (omega arith)
    (omega arith) (nots_put k n rest h)

pub put_not : {P : Type 0} (p : P) (k : ℕ) → PutOne (steps.Prim p ∷ replicate k steps.Not)
put_not p k n rest h = leave_step (steps.Prim p) n (n + 1) (replicate k steps.Not ++ rest) (omega arith) (omega arith)
    (nots_put k n rest h)

put_flat : {P : Type 0} (op : Step P) → operands op ≡ 2 → (xs : List (List (Step P)))
    → AllByRecursion (λ x. PutOne x) xs
    → (n : ℕ) (rest : List (Step P)) → LeaveOne (n + 1) rest
    → LeaveOne (n + 1) (flat_map (λ y. y ++ op ∷ []) xs ++ rest)
put_flat op two [] all n rest h = h
put_flat {P = P} op two (x ∷ xs) all n rest h =
    let more = flat_map (λ y. y ++ op ∷ []) xs in
    let e : ((x ++ op ∷ []) ++ more) ++ rest ≡ x ++ (op ∷ (more ++ rest)) = append_assoc (x ++ op ∷ []) more rest
    ∙ append_assoc x (op ∷ []) (more ++ rest) in
    subst (λ (w : List (Step P)). LeaveOne (n + 1) w) (sym e)
    (all.0 (n + 1) (op ∷ (more ++ rest)) (leave_step op (n + 1 + 1) (n + 1) (more ++ rest) (omega (arith, two))
    (omega (arith, two)) (put_flat op two xs all.1 n rest h)))

pub put_joined : {P : Type 0} (op : Step P) → operands op ≡ 2 → (x : List (Step P)) (xs : List (List (Step P)))
    → PutOne x → AllByRecursion (λ x. PutOne x) xs → PutOne (joined op (x ∷ xs))
put_joined {P = P} op two x xs first all n rest h =
    let more = flat_map (λ y. y ++ op ∷ []) xs in
    subst (λ (w : List (Step P)). LeaveOne n w) (sym (append_assoc x more rest))
    (first n (more ++ rest) (put_flat op two xs all n rest h))
