-- Lists of nodes that grow.
use Rattle.std.proofs.Common.{◌≡◌, ◌<◌, ◌≤◌, ℕ, zero, suc, true, false, refl, List, [], ◌∷◌, ◌++◌, ap, ◌∙◌, append_assoc, arith}
use Rattle.lg_op.specs.declared.node.Node.{Node}
use Rattle.lg_node.specs.Nodes.{LabelledNodes, with_node}
use Rattle.lg_node.specs.Unused.{IsUnused}
use Rattle.lg_expression.specs.Units.{put_nodes}

-- nodes after others
pub joined : (l : LabelledNodes) (a b : List Node) → put_nodes (put_nodes l a) b ≡ put_nodes l (a ++ b)
joined l a b = ap (λ nodes. record l { nodes = nodes }) (append_assoc l.nodes a b)

-- a node, and then others
pub next : (l m k : LabelledNodes) (n : Node) (ns : List Node) → m ≡ with_node l n → k ≡ put_nodes m ns → k ≡ put_nodes l (n ∷ ns)
next l m k n ns first rest = rest ∙ ap (λ x. put_nodes x ns) first ∙ joined l (n ∷ []) ns

-- the first label of a list that has none has the word of 0
pub first_number : (n : ℕ) → IsUnused [] n → n ≡ 0
first_number zero h = refl
first_number (suc n) h =
    let least : 0 ≤ 0 = omega arith in
    let before : 0 < suc n = omega arith in
    let no : false ≡ true = h.first 0 least before in
    cc
