use Rattle.std.proofs.Common.{sym, ◌∙◌}
use Rattle.lg_tst.proofs.WordLemmas.{op_begins}
use Rattle.lg_tst.proofs.statement.code_statement.Goals as goal

pub returns-in-Some : goal.returns-in-Some
returns-in-Some c = op_begins c.args.word.now c.in-Some.op (sym c.op_of.ensures ∙ c.in-Some.is)
