use Rattle.std.proofs.Common.{◌∙◌, sym, arith}
use Rattle.lg_macro.specs.Defines.{with_len}
use Rattle.lg_macro.proofs.DefineLemmas.{folded_more, folded_all}
use Rattle.lg_macro.proofs.body.size_of.Goals as goal

pub pieces-preserved : goal.pieces-preserved
pieces-preserved c = (rw c.with_len-n.ensures (omega arith), folded_more with_len c.args.pieces.now c.pieces.at c.args.end c.pieces.n c.with_len-n.result (omega arith) (omega arith) c.with_len-n.ensures ∙ c.pieces.invariant.1)

pub returns : goal.returns
returns c = sym (folded_all with_len c.args.pieces.now c.pieces.at c.args.end c.pieces.n (omega arith)) ∙ c.pieces.invariant.1
