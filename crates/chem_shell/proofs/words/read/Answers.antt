use Rattle.std.proofs.Common.{rules, ◌≡◌, ◌∙◌, None, Some, option_map, codes, ap, sym, inl, inr}
use Rattle.std.proofs.lemmas.Result.{IfOk-weaker, IfErr-weaker}
use Rattle.clap.proofs.WalkLemmas.{first_value-rows}
use Rattle.clap.specs.Words.{found_of, rows_of}
use Rattle.chem_shell.specs.Words.{texts}
use Rattle.chem_shell.specs.declared.request.Verb.TheVariants.{Mem, Init, Run, Serve, Bulk, Drill}
use Rattle.chem_shell.proofs.Asked.{asks, asks_not, no_command, no_word, some_same, word_of}
use Rattle.chem_shell.proofs.words.read.Goals as goal

pub returns-in-Some-mem-clause-ok : goal.returns-in-Some-mem-clause-ok
returns-in-Some-mem-clause-ok c =
    let found = c.in_ok-found.ensures.ok in
    let word : option_map (λ s. s.now) c.get_str.result ≡ Some (codes "mem") = search rules in
    let command = sym (first_value-rows (found_of c.in_ok-found.found) (codes "command")) ∙ sym c.get_str.ensures
    ∙ word in
    IfOk-weaker c.in_memory.result _ _
    (λ plan row. asks Mem (texts c.args.words.now)
    (rows_of (found_of c.in_ok-found.found)) plan found.0 found.1 command row)
    c.in_memory.ensures.ok

pub returns-in-Some-mem-clause-err : goal.returns-in-Some-mem-clause-err
returns-in-Some-mem-clause-err c =
    let found = c.in_ok-found.ensures.ok in
    let word : option_map (λ s. s.now) c.get_str.result ≡ Some (codes "mem") = search rules in
    let command = sym (first_value-rows (found_of c.in_ok-found.found) (codes "command")) ∙ sym c.get_str.ensures
    ∙ word in
    IfErr-weaker c.in_memory.result _ _
    (λ fault none. inr (asks_not Mem (texts c.args.words.now)
    (rows_of (found_of c.in_ok-found.found)) found.1 command none))
    c.in_memory.ensures.err

pub returns-in-Some-init-clause-ok : goal.returns-in-Some-init-clause-ok
returns-in-Some-init-clause-ok c =
    let found = c.in_ok-found.ensures.ok in
    let word : option_map (λ s. s.now) c.get_str.result ≡ Some (codes "init") = search rules in
    let command = sym (first_value-rows (found_of c.in_ok-found.found) (codes "command")) ∙ sym c.get_str.ensures
    ∙ word in
    IfOk-weaker c.init.result _ _
    (λ plan row. asks Init (texts c.args.words.now)
    (rows_of (found_of c.in_ok-found.found)) plan found.0 found.1 command row)
    c.init.ensures.ok

pub returns-in-Some-init-clause-err : goal.returns-in-Some-init-clause-err
returns-in-Some-init-clause-err c =
    let found = c.in_ok-found.ensures.ok in
    let word : option_map (λ s. s.now) c.get_str.result ≡ Some (codes "init") = search rules in
    let command = sym (first_value-rows (found_of c.in_ok-found.found) (codes "command")) ∙ sym c.get_str.ensures
    ∙ word in
    IfErr-weaker c.init.result _ _
    (λ fault none. inr (asks_not Init (texts c.args.words.now)
    (rows_of (found_of c.in_ok-found.found)) found.1 command none))
    c.init.ensures.err

pub returns-in-Some-run-clause-ok : goal.returns-in-Some-run-clause-ok
returns-in-Some-run-clause-ok c =
    let found = c.in_ok-found.ensures.ok in
    let word : option_map (λ s. s.now) c.get_str.result ≡ Some (codes "run") = search rules in
    let command = sym (first_value-rows (found_of c.in_ok-found.found) (codes "command")) ∙ sym c.get_str.ensures
    ∙ word in
    IfOk-weaker c.run.result _ _
    (λ plan row. asks Run (texts c.args.words.now)
    (rows_of (found_of c.in_ok-found.found)) plan found.0 found.1 command row)
    c.run.ensures.ok

pub returns-in-Some-run-clause-err : goal.returns-in-Some-run-clause-err
returns-in-Some-run-clause-err c =
    let found = c.in_ok-found.ensures.ok in
    let word : option_map (λ s. s.now) c.get_str.result ≡ Some (codes "run") = search rules in
    let command = sym (first_value-rows (found_of c.in_ok-found.found) (codes "command")) ∙ sym c.get_str.ensures
    ∙ word in
    IfErr-weaker c.run.result _ _
    (λ fault none. inr (asks_not Run (texts c.args.words.now)
    (rows_of (found_of c.in_ok-found.found)) found.1 command none))
    c.run.ensures.err

pub returns-in-Some-serve-clause-ok : goal.returns-in-Some-serve-clause-ok
returns-in-Some-serve-clause-ok c =
    let found = c.in_ok-found.ensures.ok in
    let word : option_map (λ s. s.now) c.get_str.result ≡ Some (codes "serve") = search rules in
    let command = sym (first_value-rows (found_of c.in_ok-found.found) (codes "command")) ∙ sym c.get_str.ensures
    ∙ word in
    IfOk-weaker c.serve.result _ _
    (λ plan row. asks Serve (texts c.args.words.now)
    (rows_of (found_of c.in_ok-found.found)) plan found.0 found.1 command row)
    c.serve.ensures.ok

pub returns-in-Some-serve-clause-err : goal.returns-in-Some-serve-clause-err
returns-in-Some-serve-clause-err c =
    let found = c.in_ok-found.ensures.ok in
    let word : option_map (λ s. s.now) c.get_str.result ≡ Some (codes "serve") = search rules in
    let command = sym (first_value-rows (found_of c.in_ok-found.found) (codes "command")) ∙ sym c.get_str.ensures
    ∙ word in
    IfErr-weaker c.serve.result _ _
    (λ fault none. elim none [
      | inl memory ↦ inl memory
      | inr refused ↦ inr (asks_not Serve (texts c.args.words.now)
          (rows_of (found_of c.in_ok-found.found)) found.1 command refused)
    ])
    c.serve.ensures.err

pub returns-in-Some-bulk-clause-ok : goal.returns-in-Some-bulk-clause-ok
returns-in-Some-bulk-clause-ok c =
    let found = c.in_ok-found.ensures.ok in
    let word : option_map (λ s. s.now) c.get_str.result ≡ Some (codes "bulk") = search rules in
    let command = sym (first_value-rows (found_of c.in_ok-found.found) (codes "command")) ∙ sym c.get_str.ensures
    ∙ word in
    IfOk-weaker c.bulk.result _ _
    (λ plan row. asks Bulk (texts c.args.words.now)
    (rows_of (found_of c.in_ok-found.found)) plan found.0 found.1 command row)
    c.bulk.ensures.ok

pub returns-in-Some-bulk-clause-err : goal.returns-in-Some-bulk-clause-err
returns-in-Some-bulk-clause-err c =
    let found = c.in_ok-found.ensures.ok in
    let word : option_map (λ s. s.now) c.get_str.result ≡ Some (codes "bulk") = search rules in
    let command = sym (first_value-rows (found_of c.in_ok-found.found) (codes "command")) ∙ sym c.get_str.ensures
    ∙ word in
    IfErr-weaker c.bulk.result _ _
    (λ fault none. inr (asks_not Bulk (texts c.args.words.now)
    (rows_of (found_of c.in_ok-found.found)) found.1 command none))
    c.bulk.ensures.err

pub returns-in-Some-drill-clause-ok : goal.returns-in-Some-drill-clause-ok
returns-in-Some-drill-clause-ok c =
    let found = c.in_ok-found.ensures.ok in
    let word : option_map (λ s. s.now) c.get_str.result ≡ Some (codes "drill") = search rules in
    let command = sym (first_value-rows (found_of c.in_ok-found.found) (codes "command")) ∙ sym c.get_str.ensures
    ∙ word in
    IfOk-weaker c.in_memory-in-Some-drill.result _ _
    (λ plan row. asks Drill (texts c.args.words.now)
    (rows_of (found_of c.in_ok-found.found)) plan found.0 found.1 command row)
    c.in_memory-in-Some-drill.ensures.ok

pub returns-in-Some-drill-clause-err : goal.returns-in-Some-drill-clause-err
returns-in-Some-drill-clause-err c =
    let found = c.in_ok-found.ensures.ok in
    let word : option_map (λ s. s.now) c.get_str.result ≡ Some (codes "drill") = search rules in
    let command = sym (first_value-rows (found_of c.in_ok-found.found) (codes "command")) ∙ sym c.get_str.ensures
    ∙ word in
    IfErr-weaker c.in_memory-in-Some-drill.result _ _
    (λ fault none. inr (asks_not Drill (texts c.args.words.now) (rows_of (found_of c.in_ok-found.found)) found.1
    command none))
    c.in_memory-in-Some-drill.ensures.err

pub returns-in-Some-clause-err : goal.returns-in-Some-clause-err
returns-in-Some-clause-err c =
    let found = c.in_ok-found.ensures.ok in
    let command = sym (first_value-rows (found_of c.in_ok-found.found) (codes "command")) ∙ sym c.get_str.ensures in
    let word = ap (option_map (λ s. s.now)) (sym c.in-Some.is) ∙ sym command in
    inr (no_word (texts c.args.words.now) (rows_of (found_of c.in_ok-found.found)) found.1
    (λ mem.
    let same = some_same c.in-Some.word.now (codes "mem") (word ∙ mem) in
    c.in-Some.not-mem (search rules))
    (λ init.
    let same = some_same c.in-Some.word.now (codes "init") (word ∙ init) in
    c.in-Some.not-init (search rules))
    (λ run.
    let same = some_same c.in-Some.word.now (codes "run") (word ∙ run) in
    c.in-Some.not-run (search rules))
    (λ serve.
    let same = some_same c.in-Some.word.now (codes "serve") (word ∙ serve) in
    c.in-Some.not-serve (search rules))
    (λ bulk.
    let same = some_same c.in-Some.word.now (codes "bulk") (word ∙ bulk) in
    c.in-Some.not-bulk (search rules))
    (λ drill.
    let same = some_same c.in-Some.word.now (codes "drill") (word ∙ drill) in
    c.in-Some.not-drill (search rules)))

pub returns-clause-err : goal.returns-clause-err
returns-clause-err c =
    let found = c.in_ok-found.ensures.ok in
    let command = sym (first_value-rows (found_of c.in_ok-found.found) (codes "command")) ∙ sym c.get_str.ensures in
    let none = ap (option_map (λ s. s.now)) (sym c.in-None.is) ∙ sym command in
    inr (no_command (texts c.args.words.now) (rows_of (found_of c.in_ok-found.found)) found.1 (λ verb is.
    let bad : None ≡ Some (word_of verb) = none ∙ is in
    cc))
