use Rattle.std.proofs.Common.{◌∙◌}
use Rattle.lg_macro.proofs.RowLemmas.{parts_cut}
use Rattle.lg_macro.proofs.text.front_with.Goals as goal

pub of-requires : goal.of-requires
of-requires c = let cut = parts_cut c.args.text.now c.ahead.result.now c.args.at c.args.parts.items c.requires.parts c.requires.inside c.ahead.ensures in cut.0

pub returns-clause-pieces : goal.returns-clause-pieces
returns-clause-pieces c = c.in_ok-pieces.ensures ∙ (parts_cut c.args.text.now c.ahead.result.now c.args.at c.args.parts.items c.requires.parts c.requires.inside c.ahead.ensures).1
