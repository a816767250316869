-- What is asked of a node, its choices and the labels of a buffer before its code is appended.
use Rattle.std.specs.Prelude.{◌≡◌, ℕ, Bool, true, List}
use Rattle.lg_base.specs.declared.target.Target.{Target}
use Rattle.lg_op.specs.Nodes.{InForm}
use Rattle.lg_op.specs.declared.node.Node.{Node}
use Rattle.lg_op.specs.declared.op.Op.{Op}
use Rattle.lg_op.specs.declared.operand.Reg.{Reg}
use Rattle.lg_carry.specs.Nodes.Operands.{HaveWords, NameBelow}
use Rattle.lg_sel.specs.Selected.{AreChosen, AreFirst, is_pusharg, TakesLabelsWell}
use Rattle.lg_temp.specs.declared.choice.Choice.{Choice}
use Rattle.lg_temp.specs.declared.choice.Need.{Need}

-- the choices are those for the node's needs, a `pushargr` or `pushargi` finds the first arguments staged, and the node names labels of the buffer (this
-- many), and those in the place of an immediate only where they may be
pub record IsAsked (target : Target) (needs : Op → List Need) (n : Node) (live : Reg → Bool) (staged : List Bool) (choices : List Choice)
    (labels : ℕ) : Type 0 where
  pub formed : InForm n
  pub chosen : AreChosen target (needs n.op) n live staged choices
  pub first : is_pusharg n.op ≡ true → AreFirst staged
  pub named : NameBelow labels n.operands
  pub takes : TakesLabelsWell n
  pub words : HaveWords n.operands
