-- After each `.align` of a text the code is at a multiple of its number.
use Rattle.std.proofs.Common.{◌≡◌, ⊎_elim, true, false, Some, sym, ap, ◌∙◌, arith}
use Rattle.std.specs.Prelude.{slice_get, slice_index}
use Rattle.std.proofs.lemmas.Option.{slice_get_within, get_or_from_slice_get, same_Some}
use Rattle.lg_op.specs.declared.node.Node.{Node}
use Rattle.lg_op.specs.declared.op.Op.TheVariants as op
use Rattle.lg_op.specs.declared.op.PlainOp.TheVariants as plain
use Rattle.lg_op.specs.declared.operand.Label.{Label}
use Rattle.lg_node.specs.ShapeLaws.{has_target}
use Rattle.lg_node.proofs.FunctionLaws.{node_within}
use Rattle.lg_opt.specs.Remaining.{retargeted}
use Rattle.lg_opt.specs.Rewritings.{IsThreadedNode}
use Rattle.lg_dead.specs.Folds.{IsFoldedNode}
use Rattle.lg_dead.specs.Known.{made, last_known, folded_by}
use Rattle.lg_dead.specs.Rewritten.{is_droppable, IsRewrittenNode}
use Rattle.lg_asm.specs.Assembled.{AlignsStand}

no-target : true ≡ false → ⊥
no-target e = cc

-- an `.align` is left as it is
folded-same : (n m : Node) → n.op ≡ op.Plain plain.Align → IsFoldedNode n m → m ≡ n
folded-same n m e f = f.1 ∙ ap (λ o. folded_by n (made f.0 o n.operands) (last_known f.0 o n.operands)) e

threaded-same : (n m : Node) → n.op ≡ op.Plain plain.Align → IsThreadedNode n m → m ≡ n
threaded-same n m e t =
    ⊎_elim (λ (same : m ≡ n). same)
    (λ (other : (has_target n.op ≡ true) × (y : Label) × (m ≡ retargeted (Some y) n)). absurd (no-target (sym other.0 ∙ ap has_target e)))
    t

rewritten-same : (n m : Node) → n.op ≡ op.Plain plain.Align → IsRewrittenNode n m → m ≡ n
rewritten-same n m e r =
    let middle = folded-same n r.0 e r.1 in
    threaded-same r.0 m (ap (λ (x : Node). x.op) middle ∙ e) r.2 ∙ middle

pub aligns-stand : AlignsStand
aligns-stand c l i number node code others from here align operands =
    let p = others i node here (ap is_droppable align) in
    let at : slice_index c.origin p.0 ≡ i = get_or_from_slice_get c.origin p.0 i 0 p.1 in
    let n = node_within c.nodes.nodes p.0 (let lt = slice_get_within c.origin p.0 i p.1 in omega (arith, lt, from.count)) in
    let old = from.nodes p.0 n.0 n.1 in
    let one : old.0 ≡ node = same_Some old.0 node (sym old.1 ∙ ap (slice_get l.nodes) at ∙ here) in
    let same : n.0 ≡ node = rewritten-same old.0 n.0 (ap (λ (x : Node). x.op) one ∙ align) old.2 ∙ one in
    (p.0, p.1, code.ordered.aligned p.0 number n.0 n.1 (ap (λ (x : Node). x.op) same ∙ align) (ap (λ (x : Node). x.operands) same ∙ operands))
