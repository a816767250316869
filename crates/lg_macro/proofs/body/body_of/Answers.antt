use Rattle.std.proofs.Common.{◌∙◌, sym, refl, arith}
use Rattle.lg_macro.specs.Defines.{with_piece}
use Rattle.lg_macro.proofs.DefineLemmas.{folded_more, folded_all}
use Rattle.lg_macro.proofs.body.body_of.Goals as goal

pub pieces-init : goal.pieces-init
pieces-init c = rw c.in_ok-body.ensures refl

pub pieces-preserved : goal.pieces-preserved
pieces-preserved c = folded_more (with_piece c.args.names.now) c.args.pieces.now c.pieces.at c.args.end c.pieces.body c.take_piece.new.body (omega arith) (omega arith) c.in_ok-take_piece.ensures ∙ c.pieces.invariant

pub returns : goal.returns
returns c = sym (folded_all (with_piece c.args.names.now) c.args.pieces.now c.pieces.at c.args.end c.pieces.body (omega arith)) ∙ c.pieces.invariant
