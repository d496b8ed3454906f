-- Options, numbers and plans, in other words.
use Rattle.std.proofs.Common.{◌≡◌, ◌≢◌, ◌<◌, ◌≤◌, ◌^◌, ◌∙◌, ℕ, List, [], ◌∷◌, Option, Some, None, Result, Ok, Err, refl, sym, ap, subst, inl, inr, arith, codes, decimal, option_map, get_or, if◌then◌else◌, ◌==◌, length}
use Rattle.std.specs.Prelude.{unwrap_or, IfErr, OnErr}
use Rattle.std.proofs.lemmas.Fmt.{decimal_injective}
use Rattle.std.proofs.lemmas.List.{length-map}
use Rattle.std.specs.Borrow.{Bor}
use Rattle.clap.specs.Words.{Row, Text, all_of, fault_of, first_of, matches_of}
use Rattle.session_run.specs.Servable.{IsServable}
use Rattle.store_core.specs.declared.store.TheConstants.{MOST_COMMITS}
use Rattle.chem_shell.specs.declared.request.Plan.{Plan}
use Rattle.chem_shell.specs.declared.request.Verb.{Verb}
use Rattle.chem_shell.specs.declared.request.Verb.TheVariants.{Mem, Init, Run, Serve, Bulk, Drill}
use Rattle.chem_shell.specs.declared.words.TheConstants.{LAST_SEED, MOST_STRUCTURES}
use Rattle.chem_shell.specs.Done.{HasEnds}
use Rattle.chem_shell.specs.Words.{AreCommits, AreSizes, Asks, AsksFor, HasScripts, IsBulk, IsInMemory, IsInit, IsNumber, IsRow, IsRunOf, IsServe, IsSetting, IsWithinLimits, chemdb_app, settings_of}

pub none_of_image : {X Y : Type 0} (f : X → Y) (o : Option X) (v : Option Y) → option_map f o ≡ v → v ≡ None → o ≡ None
none_of_image f None v same none = refl
none_of_image f (Some x) v same none =
    let bad : Some (f x) ≡ None = same ∙ none in
    cc

pub image_of_none : {X Y : Type 0} (f : X → Y) (o : Option X) (v : Option Y) → option_map f o ≡ v → o ≡ None → v ≡ None
image_of_none f None v same none = sym same
image_of_none f (Some x) v same none = cc

pub on_err : {X E A : Type 0} (r : Result X E) → A → OnErr r A
on_err (Ok x) a = tt
on_err (Err e) a = a

pub if_err : {X E : Type 0} (r : Result X E) (P : E → Type 0) → ((e : E) → P e) → IfErr r P
if_err (Ok x) P f = tt
if_err (Err e) P f = f e

pub some_same : {X : Type 0} (x y : X) → Some x ≡ Some y → x ≡ y
some_same x y same = ap (λ o. unwrap_or o x) same

-- a decimal below a range is none in it
pub below_is_none : (word : List ℕ) (number least most n : ℕ) → most < 2 ^ 32 → number ≤ most → number < least
    → word ≡ decimal number → IsNumber word least most n → ⊥
below_is_none word number least most n small within below is other =
    let same : number ≡ n =
    decimal_injective number n (omega (arith, within, small)) (omega (arith, other.2, small)) (sym is ∙ other.0) in
    omega (arith, other.1, same, below)

-- words that are the same are one number
pub one_number : (v w : Text) (least most n m : ℕ) → most < 2 ^ 32 → v ≡ w → IsNumber v least most n
    → IsNumber w least most m → n ≡ m
one_number v w least most n m small e a b =
    decimal_injective n m (omega (arith, a.2, small)) (omega (arith, b.2, small)) (sym a.0 ∙ e ∙ b.0)

-- an option gives one number
pub one_setting : (o : Option Text) (most default n m : ℕ) → most < 2 ^ 32 → IsSetting o most default n
    → IsSetting o most default m → n ≡ m
one_setting None most default n m small a b = a ∙ sym b
one_setting (Some text) most default n m small a b = one_number text text 1 most n m small refl a b

setting_within : (o : Option Text) (most default n : ℕ) → 1 ≤ default → default ≤ most → IsSetting o most default n
    → (1 ≤ n) × (n ≤ most)
setting_within None most default n some few is = (omega (arith, some, is), omega (arith, few, is))
setting_within (Some text) most default n some few is = (is.1, is.2)

-- the sizes and the commits that options give are within their limits
servable : (found : List Row) (p : Plan) → AreSizes found p.workers p.page → IsServable (settings_of p)
servable found p sizes =
    let w = setting_within (first_of (codes "workers") found) 16 1 p.workers (omega arith) (omega arith) sizes.0 in
    let r = setting_within (first_of (codes "page") found) 256 256 p.page (omega arith) (omega arith) sizes.1 in
    record { some_workers = w.0; few_workers = w.1; some_records = r.0; few_records = r.1 }

within : (found : List Row) (p : Plan) → AreSizes found p.workers p.page → AreCommits found p.commits
    → IsWithinLimits p
within found p sizes commits =
    let c =
    setting_within (first_of (codes "commits") found) MOST_COMMITS MOST_COMMITS p.commits (omega arith) (omega arith)
    commits in
    record { servable = servable found p sizes; some_commits = c.0; few_commits = c.1 }

-- the row of a command
abbrev pub IsOf : Verb → List Row → Plan → Type 0
IsOf Mem found p = IsInMemory Mem found p
IsOf Init found p = IsInit found p
IsOf Run found p = IsRunOf found p
IsOf Serve found p = IsServe found p
IsOf Bulk found p = IsBulk found p
IsOf Drill found p = IsInMemory Drill found p

of_within : (verb : Verb) (found : List Row) (p : Plan) → IsOf verb found p → IsWithinLimits p
of_within Mem found p a = within found p a.sizes a.commits
of_within Drill found p a = within found p a.sizes a.commits
of_within Run found p a = within found p a.sizes a.commits
of_within Serve found p a = within found p a.sizes a.commits
of_within Bulk found p a = record {
  servable = servable found p a.sizes;
  some_commits = omega (arith, a.commits);
  few_commits = omega (arith, a.commits);
}
of_within Init found p a = record {
  servable = record {
    some_workers = omega (arith, a.workers);
    few_workers = omega (arith, a.workers);
    some_records = omega (arith, a.page);
    few_records = omega (arith, a.page);
  };
  some_commits = omega (arith, a.commits);
  few_commits = omega (arith, a.commits);
}

-- two plans have the same command, and ask for the same of it
pub record SamePlan (p q : Plan) : Type 0 where
  pub command : p.command ≡ q.command
  pub ends : p.ends ≡ q.ends
  pub commits : p.commits ≡ q.commits
  pub page : p.page ≡ q.page
  pub seed : p.seed ≡ q.seed
  pub count : p.count ≡ q.count

pub firsts_same : (a b c d : Text) → Some (a ∷ b ∷ []) ≡ Some (c ∷ d ∷ []) → (a ≡ c) × (b ≡ d)
firsts_same a b c d e = (cc, cc)

rest_same : (a c : Text) (bs ds : List Text) → Some (a ∷ bs) ≡ Some (c ∷ ds) → bs ≡ ds
rest_same a c bs ds e = cc

-- as many scripts as words
scripts_of : (args : Option (List Text)) (p : Plan) (h : HasScripts args p) → length p.scripts.items ≡ length h.words
scripts_of args p h = sym (length-map p.scripts.items (λ (word : Bor Text). word.now)) ∙ ap length h.scripts

one_commits : (found : List Row) (p q : Plan) → AreCommits found p.commits → AreCommits found q.commits
    → p.commits ≡ q.commits
one_commits found p q a b =
    one_setting (first_of (codes "commits") found) MOST_COMMITS MOST_COMMITS p.commits q.commits (omega arith) a b

one_page : (found : List Row) (p q : Plan) → AreSizes found p.workers p.page → AreSizes found q.workers q.page
    → p.page ≡ q.page
one_page found p q a b = one_setting (first_of (codes "page") found) 256 256 p.page q.page (omega arith) a.1 b.1

one_in_memory : (verb : Verb) (found : List Row) (p q : Plan) → IsInMemory verb found p → IsInMemory verb found q
    → SamePlan p q
one_in_memory verb found p q a b = record {
  command = a.command ∙ sym b.command;
  ends = a.ends ∙ sym b.ends;
  commits = one_commits found p q a.commits b.commits;
  page = one_page found p q a.sizes b.sizes;
  seed = a.seed ∙ sym b.seed;
  count = a.count ∙ sym b.count;
}

one_of : (verb : Verb) (found : List Row) (p q : Plan) → IsOf verb found p → IsOf verb found q → SamePlan p q
one_of Mem found p q a b = one_in_memory Mem found p q a b
one_of Drill found p q a b = one_in_memory Drill found p q a b
one_of Init found p q a b = record {
  command = a.command ∙ sym b.command;
  ends = a.ends ∙ sym b.ends;
  commits = a.commits ∙ sym b.commits;
  page = a.page ∙ sym b.page;
  seed = a.seed ∙ sym b.seed;
  count = a.count ∙ sym b.count;
}
one_of Run found p q a b = record {
  command = a.command ∙ sym b.command;
  ends = a.ends ∙ sym b.ends;
  commits = one_commits found p q a.commits b.commits;
  page = one_page found p q a.sizes b.sizes;
  seed = a.seed ∙ sym b.seed;
  count = a.count ∙ sym b.count;
}
one_of Serve found p q a b =
    let args = all_of (codes "args") found in
    let words = rest_same a.args.word b.args.word a.args.words b.args.words (sym a.args.are.are ∙ b.args.are.are) in
    record {
      command = a.command ∙ sym b.command;
      ends = a.ends ∙ (scripts_of args p a.args ∙ (ap length words
          ∙ (sym (scripts_of args q b.args) ∙ sym b.ends)));
      commits = one_commits found p q a.commits b.commits;
      page = one_page found p q a.sizes b.sizes;
      seed = a.seed ∙ sym b.seed;
      count = a.count ∙ sym b.count;
    }
one_of Bulk found p q a b =
    let words =
    firsts_same a.args.seed_word a.args.count_word b.args.seed_word b.args.count_word
    (sym a.args.two ∙ b.args.two) in
    record {
      command = a.command ∙ sym b.command;
      ends = a.ends ∙ sym b.ends;
      commits = a.commits ∙ sym b.commits;
      page = one_page found p q a.sizes b.sizes;
      seed = one_number a.args.seed_word b.args.seed_word 1 LAST_SEED p.seed q.seed
          (omega arith) words.0 a.args.seed_is b.args.seed_is;
      count = one_number a.args.count_word b.args.count_word 0 MOST_STRUCTURES p.count q.count
          (omega arith) words.1 a.args.count_is b.args.count_is;
    }

-- the words of the commands begin with different letters
abbrev pub word_of : Verb → Text
word_of Mem = codes "mem"
word_of Init = codes "init"
word_of Run = codes "run"
word_of Serve = codes "serve"
word_of Bulk = codes "bulk"
word_of Drill = codes "drill"

abbrev verb_at : ℕ → Verb
verb_at n =
    if n == 109 then Mem else (if n == 105 then Init else (if n == 114 then Run else (if n == 115 then Serve
    else (if n == 98 then Bulk else Drill))))

verb_of_word : (verb : Verb) → verb_at (get_or (word_of verb) 0 0) ≡ verb
verb_of_word Mem = refl
verb_of_word Init = refl
verb_of_word Run = refl
verb_of_word Serve = refl
verb_of_word Bulk = refl
verb_of_word Drill = refl

one_verb : (v w : Verb) → word_of v ≡ word_of w → v ≡ w
one_verb v w e = sym (verb_of_word v) ∙ (ap (λ word. verb_at (get_or word 0 0)) e ∙ verb_of_word w)

-- a row is that of its command
verb_of : (o : Option Text) (found : List Row) (p : Plan) → IsRow o found p
    → (verb : Verb) × (o ≡ Some (word_of verb)) × IsOf verb found p
verb_of o found p (inl a) = (Mem, a.0, a.1)
verb_of o found p (inr (inl a)) = (Init, a.0, a.1)
verb_of o found p (inr (inr (inl a))) = (Run, a.0, a.1)
verb_of o found p (inr (inr (inr (inl a)))) = (Serve, a.0, a.1)
verb_of o found p (inr (inr (inr (inr (inl a))))) = (Bulk, a.0, a.1)
verb_of o found p (inr (inr (inr (inr (inr a))))) = (Drill, a.0, a.1)

row_of : (verb : Verb) (o : Option Text) (found : List Row) (p : Plan) → o ≡ Some (word_of verb) → IsOf verb found p
    → IsRow o found p
row_of Mem o found p e a = inl (e, a)
row_of Init o found p e a = inr (inl (e, a))
row_of Run o found p e a = inr (inr (inl (e, a)))
row_of Serve o found p e a = inr (inr (inr (inl (e, a))))
row_of Bulk o found p e a = inr (inr (inr (inr (inl (e, a)))))
row_of Drill o found p e a = inr (inr (inr (inr (inr (e, a)))))

of_row : (verb : Verb) (o : Option Text) (found : List Row) (p : Plan) → o ≡ Some (word_of verb) → IsRow o found p
    → IsOf verb found p
of_row verb o found p e row =
    let v = verb_of o found p row in
    subst (λ (x : Verb). IsOf x found p)
    (one_verb v.0 verb (some_same (word_of v.0) (word_of verb) (sym v.1 ∙ e))) v.2

abbrev the_command : List Text → Option Text
the_command words = first_of (codes "command") (matches_of chemdb_app words)

-- a plan's settings are within their limits
pub plan_within : (words : List Text) (p : Plan) → AsksFor words p → IsWithinLimits p
plan_within words p a =
    let v = verb_of (the_command words) (matches_of chemdb_app words) p a.row in
    of_within v.0 (matches_of chemdb_app words) p v.2

-- words ask for one thing
pub one_plan : (words : List Text) (p q : Plan) → AsksFor words p → AsksFor words q → SamePlan p q
one_plan words p q a b =
    let v = verb_of (the_command words) (matches_of chemdb_app words) p a.row in
    one_of v.0 (matches_of chemdb_app words) p q v.2
    (of_row v.0 (the_command words) (matches_of chemdb_app words) q v.1 b.row)

-- what the words ask for, and why they ask for nothing, by what `clap` found
pub asks : (verb : Verb) (words : List Text) (rows : List Row) (p : Plan) → fault_of chemdb_app words ≡ []
    → rows ≡ matches_of chemdb_app words
    → first_of (codes "command") rows ≡ Some (word_of verb) → IsOf verb rows p → AsksFor words p
asks verb words rows p taken is command row = record {
  taken = taken;
  row = subst (λ found. IsRow (first_of (codes "command") found) found p) is
      (row_of verb (first_of (codes "command") rows) rows p command row);
}

no_row : (words : List Text) (rows : List Row) → rows ≡ matches_of chemdb_app words
    → ((p : Plan) → IsRow (first_of (codes "command") rows) rows p → ⊥) → ¬ Asks words
no_row words rows is none asks =
    none asks.0 (subst (λ found. IsRow (first_of (codes "command") found) found asks.0) (sym is) asks.1.row)

pub asks_not : (verb : Verb) (words : List Text) (rows : List Row) → rows ≡ matches_of chemdb_app words
    → first_of (codes "command") rows ≡ Some (word_of verb) → ((p : Plan) → ¬ IsOf verb rows p) → ¬ Asks words
asks_not verb words rows is command none =
    no_row words rows is (λ p row. none p (of_row verb (first_of (codes "command") rows) rows p command row))

pub no_command : (words : List Text) (rows : List Row) → rows ≡ matches_of chemdb_app words
    → ((verb : Verb) → first_of (codes "command") rows ≢ Some (word_of verb)) → ¬ Asks words
no_command words rows is none = no_row words rows is (λ p row.
    let v = verb_of (first_of (codes "command") rows) rows p row in
    none v.0 v.1)

-- the same, word for word
pub no_word : (words : List Text) (rows : List Row) → rows ≡ matches_of chemdb_app words
    → first_of (codes "command") rows ≢ Some (codes "mem") → first_of (codes "command") rows ≢ Some (codes "init")
    → first_of (codes "command") rows ≢ Some (codes "run") → first_of (codes "command") rows ≢ Some (codes "serve")
    → first_of (codes "command") rows ≢ Some (codes "bulk") → first_of (codes "command") rows ≢ Some (codes "drill")
    → ¬ Asks words
no_word words rows is mem init run serve bulk drill = no_command words rows is each
  where
    each : (verb : Verb) → first_of (codes "command") rows ≢ Some (word_of verb)
    each Mem = mem
    each Init = init
    each Run = run
    each Serve = serve
    each Bulk = bulk
    each Drill = drill

-- a plan has as many ends as its command
has_ends : (verb : Verb) (found : List Row) (p : Plan) → IsOf verb found p → HasEnds p.command p.ends
has_ends Mem found p a = subst (λ (v : Verb). HasEnds v p.ends) (sym a.command) a.ends
has_ends Init found p a = subst (λ (v : Verb). HasEnds v p.ends) (sym a.command) a.ends
has_ends Run found p a = subst (λ (v : Verb). HasEnds v p.ends) (sym a.command) a.ends
has_ends Bulk found p a = subst (λ (v : Verb). HasEnds v p.ends) (sym a.command) a.ends
has_ends Drill found p a = subst (λ (v : Verb). HasEnds v p.ends) (sym a.command) a.ends
has_ends Serve found p a =
    let count = a.ends ∙ scripts_of (all_of (codes "args") found) p a.args in
    subst (λ (v : Verb). HasEnds v p.ends) (sym a.command)
    (omega (arith, count, a.args.are.some), omega (arith, count, a.args.are.few))

pub ends_of_plan : (words : List Text) (p : Plan) → AsksFor words p → HasEnds p.command p.ends
ends_of_plan words p a =
    let v = verb_of (the_command words) (matches_of chemdb_app words) p a.row in
    has_ends v.0 (matches_of chemdb_app words) p v.2

-- `serve` has an end for each script
pub scripts_of_plan : (words : List Text) (p : Plan) → AsksFor words p → p.command ≡ Serve
    → p.ends ≡ length p.scripts.items
scripts_of_plan words p a serves =
    let v = verb_of (the_command words) (matches_of chemdb_app words) p a.row in
    go v.0 (matches_of chemdb_app words) v.2
  where
    go : (verb : Verb) (found : List Row) → IsOf verb found p → p.ends ≡ length p.scripts.items
    go Serve found b = b.ends
    go Mem found b = absurd (cc (b.command, serves))
    go Init found b = absurd (cc (b.command, serves))
    go Run found b = absurd (cc (b.command, serves))
    go Bulk found b = absurd (cc (b.command, serves))
    go Drill found b = absurd (cc (b.command, serves))
