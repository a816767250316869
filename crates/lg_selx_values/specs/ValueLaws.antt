-- The nodes that compute values are carried by their items.
use Rattle.std.specs.Prelude.{◌≡◌, ℕ, ◌<◌, Bool, true, false, List, [], ◌∷◌, slice_index, slice_index_or, ⊤}
use Rattle.lg_base.specs.declared.target.Target.TheVariants.{X86_64}
use Rattle.lg_op.specs.declared.node.Node.{Node}
use Rattle.lg_op.specs.declared.op.Op.{Op}
use Rattle.lg_op.specs.declared.op.Op.TheVariants as op
use Rattle.lg_op.specs.declared.op.PlainOp.TheVariants as plain
use Rattle.lg_op.specs.declared.operand.Reg.{Reg}
use Rattle.lg_op.specs.declared.operand.Operand.{Operand}
use Rattle.lg_op.specs.declared.operand.Operand.TheVariants as operand
use Rattle.lg_node.specs.Preparations.{pushed}
use Rattle.lg_temp.specs.declared.choice.Choice.{Choice}
use Rattle.lg_temp.specs.Chosen.{around}
use Rattle.lg_temp.specs.Choices.{AreFor}
use Rattle.lg_carry.specs.FinalNodes.{Code}
use Rattle.lg_carry.specs.NodeCode.{numbered, CarriesNode}
use Rattle.lg_carry.specs.TextNodes.{IsInText, IsFrameOf}
use Rattle.lg_selx_values.specs.Processor.Places.{IsInCode}
use Rattle.lg_selx_values.specs.Processor.X86Rows.{x86_processor}
use Rattle.lg_selx_values.specs.Items.{settled}
use Rattle.lg_selx_values.specs.Needs.{value_needs}
use Rattle.lg_carry.specs.Values.ValueNodes.{is_value}
use Rattle.lg_selx_values.specs.ValueItems.{value_items}
use Rattle.lg_carry.specs.Nodes.Operands.{AreWords}

-- no operand is a label
abbrev pub IsUnlabelled : Operand → Type 0
IsUnlabelled (operand.Label l) = ⊥
IsUnlabelled x = ⊤

abbrev pub AreUnlabelled : List Operand → Type 0
AreUnlabelled [] = ⊤
AreUnlabelled (x ∷ xs) = IsUnlabelled x × AreUnlabelled xs

-- the operations one of whose operands may be a label
abbrev pub takes_label : Op → Bool
takes_label (op.Plain plain.Movi) = true
takes_label o = false

-- for all choices for the node's needs, whatever is live and staged
abbrev pub ValueNodesCarry : Type 0
ValueNodesCarry =
    (code : List ℕ) (trash : ℕ) (c : Code) (i frame : ℕ) (n : Node) (live : Reg → Bool) (staged : List Bool) (choices : List Choice)
    → is_value n.op ≡ true → AreWords c.addresses n.operands → (takes_label n.op ≡ false → AreUnlabelled n.operands)
    → AreFor (around X86_64 n live staged) (value_needs n.op) [] (value_needs n.op) choices
    → ((j : ℕ) → j < pushed c.nodes.nodes i → slice_index_or staged j false ≡ true)
    → IsInText c i n → IsFrameOf c i frame
    → IsInCode code trash c i (settled (slice_index c.addresses) (c.place i) (value_items frame n choices))
    → CarriesNode (x86_processor code trash) c i n (numbered live)
