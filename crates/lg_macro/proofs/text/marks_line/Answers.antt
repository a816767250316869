use Rattle.std.proofs.Common.{◌∙◌, sym, ap, arith}
use Rattle.lg_macro.specs.Pieces.{is_byte}
use Rattle.lg_macro.specs.Text.{is_number}
use Rattle.lg_macro.proofs.TextLemmas.{marks_here, marks_more, marks_none}
use Rattle.lg_macro.proofs.text.marks_line.Goals as goal

pub returns-then-not-is_byte : goal.returns-then-not-is_byte
returns-then-not-is_byte c = c.is_number.ensures ∙ ap is_number c.kind-kind.ensures ∙ marks_here c.args.pieces.now c.spaces.at (omega arith) (ap (is_byte 32) (sym c.kind-kind.ensures) ∙ sym c.is_byte.ensures ∙ c.if-not-is_byte.true) ∙ c.spaces.invariant.2

pub spaces-preserved : goal.spaces-preserved
spaces-preserved c = (omega arith, c.spaces.invariant.1, marks_more c.args.pieces.now c.spaces.at (omega arith) (ap (is_byte 32) (sym c.kind-kind.ensures) ∙ sym c.is_byte.ensures ∙ c.if-not-is_byte.false) ∙ c.spaces.invariant.2)

pub returns : goal.returns
returns c = marks_none c.args.pieces.now c.spaces.at (omega arith) ∙ c.spaces.invariant.2
