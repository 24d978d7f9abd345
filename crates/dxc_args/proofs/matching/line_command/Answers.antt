-- The command is the one that the line's words are read by.
use Rattle.std.proofs.Common.{ap, ap₂, ◌≡◌, ◌∙◌, Option, Some, None, true}
use Rattle.std.specs.Prelude.{IsSomeAnd}
use Rattle.std.proofs.lemmas.Result.{IfOk-weaker}
use Rattle.clap.specs.Lexer.{usize_max}
use Rattle.clap.specs.Simple.{App, app_of_fields}
use Rattle.clap.specs.Walk.{Rule}
use Rattle.clap.specs.Words.{app_of, rule_of, with_rule}
use Rattle.clap.specs.declared.builder.arg.Arg.{Arg}
use Rattle.clap.specs.declared.builder.range.ValueRange.{ValueRange}
use Rattle.dxc_args.specs.Matching.{bare_app, mode_rule, rest_rule}
use Rattle.dxc_args.proofs.matching.line_command.Goals as goal

some_is : {X : Type 0} (o : Option X) (v : X) → IsSomeAnd o (λ r. r ≡ v) → o ≡ Some v
some_is None v h = elim h [ ]
some_is (Some x) v h = ap (λ y. Some y) h

pub returns : goal.returns
returns c =
    let needed : rule_of c.required.result ≡ record (rule_of c.new.result) { required = true } = ap rule_of c.required.ensures in
    let mode_is : rule_of c.trailing_var_arg-mode.result ≡ mode_rule =
    ap rule_of c.trailing_var_arg-mode.ensures ∙ ap (λ (r : Rule). record r { trailing_var_arg = true }) (needed ∙ ap (λ (r : Rule). record r { required = true }) c.new.ensures.rule) in
    let mode_local = ap (λ (a : Arg). a.global) c.trailing_var_arg-mode.ensures ∙ ap (λ (a : Arg). a.global) c.required.ensures ∙ c.new.ensures.optional.1 in
    let every : ValueRange = record { start_inclusive = 0; end_inclusive = usize_max } in
    let range_is = some_is c.num_args-rest.result.num_vals every c.num_args-rest.ensures.1 in
    let with_range : Rule → Option ValueRange → Rule = λ r v. record r { range = v } in
    let shape : rule_of c.num_args-rest.result ≡ with_range (rule_of c.new-2.result) c.num_args-rest.result.num_vals = ap rule_of c.num_args-rest.ensures.0 in
    let rest_is : rule_of c.num_args-rest.result ≡ rest_rule = shape ∙ ap₂ with_range c.new-2.ensures.rule range_is in
    let rest_local = ap (λ (a : Arg). a.global) c.num_args-rest.ensures.0 ∙ c.new-2.ensures.optional.1 in
    let no_name : App → App = λ a. record a { top = record a.top { no_binary_name = true } } in
    let no_help : App → App = λ a. record a { top = record a.top { disable_help_flag = true } } in
    let no_version : App → App = λ a. record a { top = record a.top { disable_version_flag = true } } in
    let named : app_of c.no_binary_name.result ≡ no_name (app_of c.new-3.result) = ap app_of_fields c.no_binary_name.ensures in
    let helpless : app_of c.disable_help_flag.result ≡ no_help (app_of c.no_binary_name.result) = ap app_of_fields c.disable_help_flag.ensures in
    let unversioned : app_of c.disable_version_flag.result ≡ no_version (app_of c.disable_help_flag.result) = ap app_of_fields c.disable_version_flag.ensures in
    let bare_is : app_of c.disable_version_flag.result ≡ bare_app = unversioned ∙ ap no_version (helpless ∙ ap no_help (named ∙ ap no_name c.new-3.ensures.app)) in
    let first_is = c.in_ok-arg.ensures.shape mode_local ∙ ap₂ with_rule bare_is mode_is in
    IfOk-weaker c.arg-2.result _ _ (λ r h. h.shape rest_local ∙ ap₂ with_rule first_is rest_is) c.arg-2.ensures
