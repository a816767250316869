use Rattle.std.proofs.Common.{◌≡◌, ◌∙◌, Some, OnOk, subst, sym}
use Rattle.std.proofs.lemmas.Bool.{not-true}
use Rattle.lg_op.specs.declared.node.Node.{Node}
use Rattle.lg_op.specs.declared.operand.Reg.{Reg}
use Rattle.lg_node.specs.Nodes.{with_node}
use Rattle.lg_dead.specs.Known.{known_at}
use Rattle.lg_dead.specs.Tables.{known_of}
use Rattle.lg_dead.proofs.NoneLemmas.{none_folded}
use Rattle.lg_dead.proofs.list.push_next.Goals as goal

pub returns-then-is_none : goal.returns-then-is_none
returns-then-is_none c =
    let same = none_folded c.args.known.now c.args.node.now c.requires.form (not-true c.args.known.now.some (sym c.is_none.ensures ∙ c.if-is_none.true)) in
    record {
      list = subst (λ (n : Node). OnOk c.push_on.result (c.push_on.new.list ≡ with_node c.args.list.now n)) same c.push_on.ensures.list;
      known = subst (λ (n : Node). OnOk c.push_on.result ((r : Reg) → known_of c.push_on.new.known r ≡ known_at (known_of c.args.known.now) (Some n) r)) same c.push_on.ensures.known;
    }
