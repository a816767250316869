use Rattle.std.proofs.Common.{◌≡◌, None, [], ◌∷◌, ◌++◌, refl, sym, ap, ◌∙◌}
use Rattle.std.specs.Prelude.{if◌then◌else◌}
use Rattle.lg_op.specs.declared.operand.Reg.{Reg}
use Rattle.lg_node.specs.Nodes.{LabelledNodes, with_node}
use Rattle.lg_dead.specs.Known.{folded}
use Rattle.lg_dead.specs.Tables.{known_of}
use Rattle.lg_dead.proofs.FoldListLemmas.{first-folded, first-after, next-folded, next-after}
use Rattle.lg_dead.proofs.list.push_folded.Goals as goal

pub loop-index-init : goal.loop-index-init
loop-index-init c = record {
  list = refl;
  folded = first-folded c.args.nodes.now c.args.list.now.nodes c.requires.empty;
  known = first-after c.args.nodes.now c.args.list.now.nodes c.none-known.result c.none-known.ensures;
}

pub loop-index-preserved : goal.loop-index-preserved
loop-index-preserved c =
    let l = c.args.nodes.now in
    let i = c.loop-index.index in
    let n = c.node-node.result in
    let here = sym c.node-node.ensures.node in
    let ns = c.loop-index.list.nodes in
    let ms = c.push_next.new.list.nodes in
    let f = c.meet.new.known in
    let k = folded (known_of f) n in
    let g = c.push_next.new.known in
    let mark = c.is_labelled.ensures l c.requires.labels in
    let known = λ (r : Reg). c.meet.ensures r ∙ ap (λ b. if b then None else known_of c.loop-index.known r) mark ∙ c.loop-index.invariant.known r in
    let grown : ms ≡ ns ++ k ∷ [] = ap (λ (x : LabelledNodes). x.nodes) c.in_ok-push_next.ensures.list in
    record {
      list = c.in_ok-push_next.ensures.list ∙ ap (λ (x : LabelledNodes). with_node x k) c.loop-index.invariant.list ∙ ap (λ ys. record c.args.list.now { nodes = ys }) (sym grown);
      folded = next-folded l ns ms i n k c.loop-index.invariant.folded here f known refl grown;
      known = next-after l ns ms i n k c.loop-index.invariant.folded here f known refl grown g c.in_ok-push_next.ensures.known;
    }
