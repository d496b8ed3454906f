-- For callers: the plan that the words of the command line ask for.
use Rattle.std.specs.Prelude.{◌≡◌, ◌≢◌, ◌⊎◌, ◌≤◌, ℕ, List, [], ◌∷◌, map, option_map, Option, Some, None, true, codes, decimal, length, All}
use Rattle.std.specs.Borrow.{Bor}
use Rattle.clap.specs.Lexer.{usize_max}
use Rattle.clap.specs.Simple.{new_shape}
use Rattle.clap.specs.Words.{App, Row, Rule, Text, all_of, fault_of, first_of, matches_of, new_rule}
use Rattle.serve_ends.specs.declared.serve.TheConstants.{MOST_ENDS}
use Rattle.session_run.specs.Servable.{IsServable}
use Rattle.session_run.specs.declared.settings.Settings.{Settings}
use Rattle.store_core.specs.declared.store.TheConstants.{MOST_COMMITS}
use Rattle.chem_shell.specs.declared.request.Plan.{Plan}
use Rattle.chem_shell.specs.declared.request.Verb.{Verb}
use Rattle.chem_shell.specs.declared.request.Verb.TheVariants.{Mem, Init, Run, Serve, Bulk, Drill}
use Rattle.chem_shell.specs.declared.settings.TheConstants.{INPUT_LIMIT}
use Rattle.chem_shell.specs.declared.words.TheConstants.{LAST_SEED, MOST_STRUCTURES}

-- the bytes of words
abbrev pub texts : List (Bor Text) → List Text
texts words = map (λ word. word.now) words

-- the bytes of the values of an argument, if it has an entry
abbrev pub args_of : Option (Bor (List (Bor Text))) → Option (List Text)
args_of args = option_map (λ words. texts words.now) args

-- the positional that must be given: the word of the command
abbrev pub command_rule : Rule
command_rule = record (new_rule (codes "command")) { required = true }

-- the last positional, of any number of values
abbrev pub args_rule : Rule
args_rule = record (new_rule (codes "args")) {
  range = Some (record { start_inclusive = 0; end_inclusive = usize_max });
}

-- an option of one value
abbrev pub option_rule : Text → Rule
option_rule name = record (new_rule name) { long = Some name }

-- the command by which `clap` reads the words
abbrev pub chemdb_app : App
chemdb_app = record {
  top = record (new_shape (codes "chemdb")) {
    rules = command_rule ∷ args_rule
        ∷ option_rule (codes "workers") ∷ option_rule (codes "page") ∷ option_rule (codes "commits") ∷ [];
    no_binary_name = true;
    disable_help_flag = true;
    disable_version_flag = true;
  };
  subs = [];
}

-- the word is the decimal of this number, which is in a range
abbrev pub IsNumber : Text → ℕ → ℕ → ℕ → Type 0
IsNumber word least most n = (word ≡ decimal n) × (least ≤ n) × (n ≤ most)

-- the number of an option, from 1 on, or the default if the option is not given
abbrev pub IsSetting : Option Text → ℕ → ℕ → ℕ → Type 0
IsSetting None most default n = n ≡ default
IsSetting (Some word) most default n = IsNumber word 1 most n

-- 1 to 16 workers, pages of 1 to 256 records
abbrev pub AreSizes : List Row → ℕ → ℕ → Type 0
AreSizes found workers page =
    IsSetting (first_of (codes "workers") found) 16 1 workers × IsSetting (first_of (codes "page") found) 256 256 page

-- 1 to 16,777,215 commits
abbrev pub AreCommits : List Row → ℕ → Type 0
AreCommits found commits = IsSetting (first_of (codes "commits") found) MOST_COMMITS MOST_COMMITS commits

-- `mem` and `drill`: no args, 1 to 16,777,215 commits, one end
pub record IsInMemory (verb : Verb) (found : List Row) (plan : Plan) : Type 0 where
  pub args : all_of (codes "args") found ≡ None
  pub sizes : AreSizes found plan.workers plan.page
  pub commits : AreCommits found plan.commits
  pub command : plan.command ≡ verb
  pub ends : plan.ends ≡ 1
  pub file : plan.file ≡ None
  pub scripts : plan.scripts.items ≡ []
  pub seed : plan.seed ≡ 0
  pub count : plan.count ≡ 0

-- the args are one word that is not empty, the file
pub record IsFile (args : Option (List Text)) (file : Text) : Type 0 where
  pub one : args ≡ Some (file ∷ [])
  pub some : file ≢ []

-- the plan names the file that the args are
pub record HasFile (args : Option (List Text)) (plan : Plan) : Type 0 where
  pub word : Text
  pub is : IsFile args word
  pub file : option_map (λ w. w.now) plan.file ≡ Some word

-- `init`: a file, no options, no end
pub record IsInit (found : List Row) (plan : Plan) : Type 0 where
  pub args : HasFile (all_of (codes "args") found) plan
  pub no_workers : first_of (codes "workers") found ≡ None
  pub no_page : first_of (codes "page") found ≡ None
  pub no_commits : first_of (codes "commits") found ≡ None
  pub command : plan.command ≡ Init
  pub ends : plan.ends ≡ 0
  pub workers : plan.workers ≡ 1
  pub page : plan.page ≡ 256
  pub commits : plan.commits ≡ MOST_COMMITS
  pub scripts : plan.scripts.items ≡ []
  pub seed : plan.seed ≡ 0
  pub count : plan.count ≡ 0

-- `run`: a file, 1 to 16,777,215 commits, one end
pub record IsRunOf (found : List Row) (plan : Plan) : Type 0 where
  pub args : HasFile (all_of (codes "args") found) plan
  pub sizes : AreSizes found plan.workers plan.page
  pub commits : AreCommits found plan.commits
  pub command : plan.command ≡ Run
  pub ends : plan.ends ≡ 1
  pub scripts : plan.scripts.items ≡ []
  pub seed : plan.seed ≡ 0
  pub count : plan.count ≡ 0

-- the args are a file and 1 to 16 scripts, all not empty
pub record AreFileAndScripts (args : Option (List Text)) (file : Text) (scripts : List Text) : Type 0 where
  pub are : args ≡ Some (file ∷ scripts)
  pub file_is : file ≢ []
  pub some : 1 ≤ length scripts
  pub few : length scripts ≤ MOST_ENDS
  pub scripts_are : All (λ script. script ≢ []) scripts

-- the plan names the file and the scripts that the args are
pub record HasScripts (args : Option (List Text)) (plan : Plan) : Type 0 where
  pub word : Text
  pub words : List Text
  pub are : AreFileAndScripts args word words
  pub file : option_map (λ w. w.now) plan.file ≡ Some word
  pub scripts : texts plan.scripts.items ≡ words

-- `serve`: a file and scripts, 1 to 16,777,215 commits, an end for each script
pub record IsServe (found : List Row) (plan : Plan) : Type 0 where
  pub args : HasScripts (all_of (codes "args") found) plan
  pub sizes : AreSizes found plan.workers plan.page
  pub commits : AreCommits found plan.commits
  pub command : plan.command ≡ Serve
  pub ends : plan.ends ≡ length plan.scripts.items
  pub seed : plan.seed ≡ 0
  pub count : plan.count ≡ 0

-- the args are a seed from 1 on and a count of structures
pub record AreSeedAndCount (args : Option (List Text)) (seed count : ℕ) : Type 0 where
  pub seed_word : Text
  pub count_word : Text
  pub two : args ≡ Some (seed_word ∷ count_word ∷ [])
  pub seed_is : IsNumber seed_word 1 LAST_SEED seed
  pub count_is : IsNumber count_word 0 MOST_STRUCTURES count

-- `bulk`: a seed and a count, no limit on commits but that of every store, one end
pub record IsBulk (found : List Row) (plan : Plan) : Type 0 where
  pub args : AreSeedAndCount (all_of (codes "args") found) plan.seed plan.count
  pub sizes : AreSizes found plan.workers plan.page
  pub none : first_of (codes "commits") found ≡ None
  pub commits : plan.commits ≡ MOST_COMMITS
  pub command : plan.command ≡ Bulk
  pub ends : plan.ends ≡ 1
  pub file : plan.file ≡ None
  pub scripts : plan.scripts.items ≡ []

-- the table of commands
abbrev pub IsRow : Option Text → List Row → Plan → Type 0
IsRow command found plan =
    ((command ≡ Some (codes "mem")) × IsInMemory Mem found plan)
    ⊎ (((command ≡ Some (codes "init")) × IsInit found plan)
    ⊎ (((command ≡ Some (codes "run")) × IsRunOf found plan)
    ⊎ (((command ≡ Some (codes "serve")) × IsServe found plan)
    ⊎ (((command ≡ Some (codes "bulk")) × IsBulk found plan)
    ⊎ ((command ≡ Some (codes "drill")) × IsInMemory Drill found plan)))))

-- `clap` finds no fault in the words, and their match is a row of the table that has this plan
pub record AsksFor (words : List Text) (plan : Plan) : Type 0 where
  pub taken : fault_of chemdb_app words ≡ []
  pub row : IsRow (first_of (codes "command") (matches_of chemdb_app words)) (matches_of chemdb_app words) plan

-- the words have a plan
abbrev pub Asks : List Text → Type 0
Asks words = (plan : Plan) × AsksFor words plan

-- P holds of the plan of the words, if it has this command
abbrev pub OnPlan : List Text → Verb → (Plan → Type 0) → Type 0
OnPlan words verb P = (plan : Plan) → AsksFor words plan → plan.command ≡ verb → P plan

-- the settings that a plan gives a session
abbrev pub settings_of : Plan → Settings
settings_of plan = record { workers = plan.workers; page = plan.page; input_limit = INPUT_LIMIT }

-- the settings of a plan and its commits are within their limits
pub record IsWithinLimits (plan : Plan) : Type 0 where
  pub servable : IsServable (settings_of plan)
  pub some_commits : 1 ≤ plan.commits
  pub few_commits : plan.commits ≤ MOST_COMMITS
