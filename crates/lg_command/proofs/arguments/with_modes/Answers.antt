use Rattle.std.proofs.Common.{◌≡◌, refl, ap₂, ◌∙◌}
use Rattle.std.proofs.lemmas.Result.{IfOk-weaker}
use Rattle.clap.specs.Words.{app_of, with_rule}
use Rattle.lg_command.proofs.arguments.with_modes.Goals as goal

pub returns : goal.returns
returns c =
    let one = c.in_ok-arg.ensures.shape c.mode_argument.ensures.local ∙ ap₂ with_rule refl c.mode_argument.ensures.rule in
    let two = c.in_ok-arg-2.ensures.shape c.target_argument.ensures.local ∙ ap₂ with_rule one c.target_argument.ensures.rule in
    IfOk-weaker c.arg-3.result _ _ (λ r h. h.shape c.steps_argument.ensures.local ∙ ap₂ with_rule two c.steps_argument.ensures.rule) c.arg-3.ensures
