use Rattle.std.proofs.Common.{◌≡◌, ◌∙◌, ap, ap₂, true, false, codes, Option, Some, None}
use Rattle.std.specs.Prelude.{IsSomeAnd}
use Rattle.clap.specs.Lexer.{usize_max}
use Rattle.clap.specs.declared.builder.arg.Arg.{Arg}
use Rattle.clap.specs.declared.builder.range.ValueRange.{ValueRange}
use Rattle.std.proofs.lemmas.Result.{IfOk-weaker}
use Rattle.clap.specs.Simple.{app_of_fields, on_top, with_rule, new_app}
use Rattle.clap.specs.Words.{Rule, Shape, app_of, rule_of}
use Rattle.chem_shell.specs.Words.{command_rule, args_rule}
use Rattle.chem_shell.proofs.words.command.Goals as goal

abbrev any_number : ValueRange
any_number = record { start_inclusive = 0; end_inclusive = usize_max }

some_of : {X : Type 0} (o : Option X) (x : X) → IsSomeAnd o (λ y. y ≡ x) → o ≡ Some x
some_of None x is = absurd is
some_of (Some y) x is = ap Some is

abbrev no_name : Shape → Shape
no_name s = record s { no_binary_name = true }

abbrev help_off : Shape → Shape
help_off s = record s { disable_help_flag = true }

abbrev version_off : Shape → Shape
version_off s = record s { disable_version_flag = true }

pub returns : goal.returns
returns c =
    let command_is : rule_of c.required-command.result ≡ command_rule =
    ap rule_of c.required-command.ensures ∙ ap (λ (r : Rule). record r { required = true }) c.new.ensures.rule in
    let command_local : c.required-command.result.global ≡ false = ap (λ (a : Arg). a.global) c.required-command.ensures
    ∙ c.new.ensures.optional.1 in
    let any = some_of _ any_number c.num_args-args.ensures.1 in
    let args_is : rule_of c.num_args-args.result ≡ args_rule =
    ap rule_of c.num_args-args.ensures.0
    ∙ ap₂ (λ (r : Rule) range. record r { range = range }) c.new-2.ensures.rule any in
    let args_local : c.num_args-args.result.global ≡ false = ap (λ (a : Arg). a.global) c.num_args-args.ensures.0
    ∙ c.new-2.ensures.optional.1 in
    let unnamed : app_of c.no_binary_name.result ≡ on_top no_name (new_app (codes "chemdb")) =
    ap app_of_fields c.no_binary_name.ensures ∙ ap (on_top no_name) c.new-3.ensures.app in
    let unhelped : app_of c.disable_help_flag.result ≡ on_top help_off (on_top no_name (new_app (codes "chemdb"))) =
    ap app_of_fields c.disable_help_flag.ensures ∙ ap (on_top help_off) unnamed in
    let bare : app_of c.disable_version_flag.result ≡ on_top version_off
    (on_top help_off (on_top no_name (new_app (codes "chemdb")))) =
    ap app_of_fields c.disable_version_flag.ensures ∙ ap (on_top version_off) unhelped in
    let one = c.in_ok-arg.ensures.shape command_local ∙ ap₂ with_rule bare command_is in
    let two = c.in_ok-arg-2.ensures.shape args_local ∙ ap₂ with_rule one args_is in
    let three = c.in_ok-arg-3.ensures.shape c.option.ensures.local ∙ ap₂ with_rule two c.option.ensures.rule in
    let four = c.in_ok-arg-4.ensures.shape c.option-2.ensures.local ∙ ap₂ with_rule three c.option-2.ensures.rule in
    IfOk-weaker c.arg-5.result _ _
    (λ r adds. adds.shape c.option-3.ensures.local ∙ ap₂ with_rule four c.option-3.ensures.rule) c.arg-5.ensures
