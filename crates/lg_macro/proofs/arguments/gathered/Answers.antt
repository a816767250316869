use Rattle.std.proofs.Common.{◌-◌, ◌==◌, ◌&&◌, refl, sym, ap, ◌∙◌, arith}
use Rattle.lg_macro.specs.Pieces.{is_byte}
use Rattle.lg_macro.specs.Arguments.{depth_after, stripped}
use Rattle.lg_macro.specs.declared.pieces.PieceKind.{PieceKind}
use Rattle.lg_macro.proofs.CallLemmas.{next_comma, next_piece, gathered_end, depth_low}
use Rattle.lg_macro.proofs.arguments.gathered.Goals as goal
use Rattle.lg_macro.proofs.arguments.gathered.Goals.{then-ends+in_ok-push_stripped, else-ends+in_ok-push_in}

pub pieces-preserved : goal.pieces-preserved
pieces-preserved c = elim c.if-ends.branch [
  | then-ends+in_ok-push_stripped w ↦ (omega (arith, w.depth-is), next_comma c.args.line c.pieces.depth c.if-ends.depth c.pieces.at c.args.end c.pieces.done.items c.if-ends.done.items (stripped c.pieces.now) c.pieces.now c.if-ends.now c.args.pieces.now (omega arith) (omega arith) (ap (λ (k : PieceKind). is_byte 44 k && (c.pieces.depth == 0)) (sym c.kind-kind.ensures) ∙ sym c.ends.ensures ∙ w.if-ends.true) w.depth-is (ap (λ v. v.items) w.done-is ∙ w.in_ok-push_stripped.ensures) refl (w.now-is ∙ w.take-now-then-ends.ensures) ∙ c.pieces.invariant.1)
  | else-ends+in_ok-push_in w ↦ (let low = depth_low c.pieces.depth (c.pieces.at - c.args.from) c.if-ends.depth c.kind-kind.result (omega arith) (w.depth-is ∙ w.depth_after-depth.ensures) in omega (arith, low), next_piece c.args.line c.pieces.depth c.if-ends.depth c.pieces.at c.args.end c.pieces.done.items c.if-ends.done.items c.pieces.now c.if-ends.now c.args.pieces.now (omega arith) (omega arith) (ap (λ (k : PieceKind). is_byte 44 k && (c.pieces.depth == 0)) (sym c.kind-kind.ensures) ∙ sym c.ends.ensures ∙ w.if-ends.false) (w.depth-is ∙ w.depth_after-depth.ensures ∙ ap (depth_after c.pieces.depth) c.kind-kind.ensures) (ap (λ v. v.items) w.done-is) (w.now-is ∙ w.in_ok-push_in.ensures) ∙ c.pieces.invariant.1)
]

pub returns : goal.returns
returns c = c.in_ok-push_stripped-2.ensures ∙ sym (gathered_end c.args.line c.pieces.depth c.pieces.at c.args.end c.pieces.done.items c.pieces.now c.args.pieces.now (omega arith)) ∙ c.pieces.invariant.1
