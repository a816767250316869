use Rattle.std.proofs.Common.{drop, ◌∙◌}
use Rattle.lg_macro.proofs.CallLemmas.{between_solid, between_from}
use Rattle.lg_macro.proofs.arguments.solid_range.Goals as goal

pub returns-clause-value : goal.returns-clause-value
returns-clause-value c =
    between_from c.args.from c.white_len-white.result c.solid_len-len.result c.args.pieces.now
    ∙ between_solid (drop c.args.from c.args.pieces.now) c.white_len-white.result c.solid_len-len.result c.white_len-white.ensures.inside c.solid_len-len.ensures.value c.white_len-white.ensures.value
