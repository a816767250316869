use Rattle.std.proofs.Common.{◌≡◌}
use Rattle.lg_tst.proofs.OperandLemmas.{IsRead}
use Rattle.lg_tst.proofs.parser.Parser.operands.Given as goal

abbrev pub invariant-loop-form : goal.invariant-loop-form
invariant-loop-form l = (l.node.op ≡ l.op) × (l.node.line ≡ l.line) × IsRead l.op l.line l.form-index l.node.operands l.self l.fn.self
