use Rattle.std.proofs.Common.{◌≡◌, refl, ap₂, ◌∙◌}
use Rattle.std.proofs.lemmas.Result.{IfOk-weaker}
use Rattle.clap.specs.Words.{app_of, with_rule}
use Rattle.lg_command.proofs.arguments.with_figures.Goals as goal

pub returns : goal.returns
returns c =
    let one = c.in_ok-arg.ensures.shape c.code_argument.ensures.local ∙ ap₂ with_rule refl c.code_argument.ensures.rule in
    let two = c.in_ok-arg-2.ensures.shape c.seed_argument.ensures.local ∙ ap₂ with_rule one c.seed_argument.ensures.rule in
    IfOk-weaker c.arg-3.result _ _ (λ r h. h.shape c.stats_argument.ensures.local ∙ ap₂ with_rule two c.stats_argument.ensures.rule) c.arg-3.ensures
