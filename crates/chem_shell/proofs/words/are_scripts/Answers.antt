use Rattle.std.proofs.Common.{◌≡◌, ◌<◌, ◌==◌, ◌∙◌, ap, arith, Bor, get_or, inl, inr, List, [], length, sym, true, false, ℕ}
use Rattle.std.proofs.lemmas.Bool.{cases_lt}
use Rattle.std.proofs.lemmas.Bool.Decides.{nat_tests}
use Rattle.std.proofs.lemmas.List.{get_or-map, length-map}
use Rattle.chem_shell.specs.Words.{texts}
use Rattle.chem_shell.proofs.EndCounts.{none_of_length}
use Rattle.chem_shell.proofs.words.are_scripts.Goals as goal

abbrev nowhere : Bor (List ℕ)
nowhere = record { ref_ptr = (0, 0); now = [] }

-- a word's bytes, among those of all
bytes_at : (words : List (Bor (List ℕ))) (i : ℕ) (d : List ℕ) → i < length words
    → get_or (texts words) i d ≡ (get_or words i nowhere).now
bytes_at words i d less = get_or-map (λ (w : Bor (List ℕ)). w.now) words i nowhere d less

is_nothing : (word : List ℕ) → (length word == 0) ≡ true → word ≡ []
is_nothing word e = none_of_length word (grind (arith, nat_tests, e))

is_something : (word : List ℕ) → (length word == 0) ≡ false → word ≡ [] → ⊥
is_something word e none =
    let zero_long : length word ≡ 0 = ap length none in
    absurd (grind (arith, nat_tests, e, zero_long))

pub returns-then-is_empty-clause-err : goal.returns-then-is_empty-clause-err
returns-then-is_empty-clause-err c = λ some few all.
    let i = c.loop-word.word-index in
    let less : i < length c.args.words.now = c.loop-word-test.true in
    let count = length-map c.args.words.now (λ (w : Bor (List ℕ)). w.now) in
    all i [] (omega (arith, less, count)) (bytes_at c.args.words.now i [] less
    ∙ is_nothing (get_or c.args.words.now i nowhere).now (sym c.is_empty.ensures ∙ c.if-is_empty.true))

pub loop-word-preserved : goal.loop-word-preserved
loop-word-preserved c = λ k d less is.
    let i = c.loop-word.word-index in
    let within : i < length c.args.words.now = c.loop-word-test.true in
    elim (cases_lt k i) [
      | inl before ↦ c.loop-word.invariant k d before is
      | inr behind ↦
          let at : i ≡ k = (let h = less in let b = behind in omega (arith, h, b)) in
          is_something (get_or c.args.words.now i nowhere).now (sym c.is_empty.ensures ∙ c.if-is_empty.false)
          (sym (bytes_at c.args.words.now i d within) ∙ (ap (λ (j : ℕ). get_or (texts c.args.words.now) j d) at ∙ is))
    ]
