use Rattle.std.proofs.Common.{◌≡◌, ap, ap₂, ◌∙◌}
use Rattle.std.proofs.lemmas.Result.{IfOk-weaker}
use Rattle.clap.specs.Words.{app_of, with_rule}
use Rattle.clap.specs.Simple.{app_of_fields}
use Rattle.lg_command.specs.Rules.{app, without_help, mode_rule, target_rule, steps_rule, code_rule, seed_rule, stats_rule}
use Rattle.lg_command.proofs.arguments.command.Goals as goal

pub returns : goal.returns
unfolding app
returns c =
    let start : app_of c.disable_help_flag-named.result ≡ without_help (app_of c.new.result) = ap app_of_fields c.disable_help_flag-named.ensures in
    let named = start ∙ ap without_help c.new.ensures.app in
    let modes = c.in_ok-with_modes.ensures ∙ ap (λ a. with_rule (with_rule (with_rule a mode_rule) target_rule) steps_rule) named in
    let figures = c.in_ok-with_options.ensures ∙ ap (λ a. with_rule (with_rule (with_rule a code_rule) seed_rule) stats_rule) modes in
    let file = c.in_ok-arg.ensures.shape c.file_argument.ensures.local ∙ ap₂ with_rule figures c.file_argument.ensures.rule in
    IfOk-weaker c.arg-2.result _ _ (λ r h. h.shape c.rest_argument.ensures.local ∙ ap₂ with_rule file c.rest_argument.ensures.rule) c.arg-2.ensures
