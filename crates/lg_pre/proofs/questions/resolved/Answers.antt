use Rattle.std.proofs.Common.{◌∙◌, ◌-◌, sym, refl, length, arith}
use Rattle.lg_pre.proofs.QuestionLemmas.{resolved_more, resolved_done}
use Rattle.lg_pre.proofs.questions.resolved.Goals as goal

pub pieces-init : goal.pieces-init
pieces-init c = (c.len-end.ensures, omega arith, (length c.args.pieces.now, omega arith, rw c.new-out.ensures refl))

pub pieces-preserved : goal.pieces-preserved
pieces-preserved c = (
  c.pieces.invariant.0,
  omega (arith, c.in_ok-next.ensures.inside.1),
  (
    c.pieces.invariant.2.0 - 1,
    omega (arith, c.in_ok-next.ensures.inside.0),
    resolved_more c.args.table.now c.args.pieces.now c.pieces.out c.push_resolved.new.out c.pieces.invariant.2.0 c.pieces.at c.in_ok-next.next (omega arith) (omega arith) c.in_ok-next.ensures.piece c.in_ok-next.ensures.next ∙ c.pieces.invariant.2.2,
  ),
)

pub returns : goal.returns
returns c = sym (resolved_done c.args.table.now c.args.pieces.now c.pieces.out c.pieces.invariant.2.0 c.pieces.at (omega arith)) ∙ c.pieces.invariant.2.2
