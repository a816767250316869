-- The nodes that compute values are carried by their items.
use Rattle.std.specs.Prelude.{◌≡◌, ℕ, ◌<◌, Bool, true, false, List, [], slice_index, slice_index_or}
use Rattle.lg_base.specs.declared.target.Target.TheVariants.{Aarch64}
use Rattle.lg_op.specs.declared.node.Node.{Node}
use Rattle.lg_op.specs.declared.operand.Reg.{Reg}
use Rattle.lg_node.specs.Preparations.{pushed}
use Rattle.lg_temp.specs.declared.choice.Choice.{Choice}
use Rattle.lg_temp.specs.Chosen.{around}
use Rattle.lg_temp.specs.Choices.{AreFor}
use Rattle.lg_carry.specs.FinalNodes.{Code}
use Rattle.lg_carry.specs.NodeCode.{numbered, CarriesNode}
use Rattle.lg_sela_values.specs.Processor.A64Rows.{a64_processor}
use Rattle.lg_sela_values.specs.Processor.Places.{IsInCode}
use Rattle.lg_sela_values.specs.Items.{settled}
use Rattle.lg_carry.specs.Values.ValueNodes.{is_value}
use Rattle.lg_sela_values.specs.ValueItems.{value_needs, value_items}
use Rattle.lg_carry.specs.TextNodes.{IsInText}
use Rattle.lg_carry.specs.Nodes.Operands.{AreWords}

-- for all choices for the node's needs, whatever is live and staged
abbrev pub ValueNodesCarry : Type 0
ValueNodesCarry =
    (code : List ℕ) (trash : ℕ) (c : Code) (i : ℕ) (n : Node) (live : Reg → Bool) (staged : List Bool) (choices : List Choice)
    → is_value n.op ≡ true → AreWords c.addresses n.operands
    → AreFor (around Aarch64 n live staged) (value_needs n.op) [] (value_needs n.op) choices
    → ((j : ℕ) → j < pushed c.nodes.nodes i → slice_index_or staged j false ≡ true)
    → IsInText c i n → IsInCode code trash c i (settled (slice_index c.addresses) (c.place i) (value_items n choices))
    → CarriesNode (a64_processor code trash) c i n (numbered live)
