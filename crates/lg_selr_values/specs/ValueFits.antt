-- What is asked of the items of a node that are emitted.
use Rattle.std.specs.Prelude.{ℕ, ◌≤◌, Bool, List, [], length, false}
use Rattle.lg_base.specs.declared.target.Target.TheVariants.{Riscv64}
use Rattle.lg_op.specs.declared.node.Node.{Node}
use Rattle.lg_op.specs.declared.operand.Reg.{Reg}
use Rattle.lg_temp.specs.declared.choice.Choice.{Choice}
use Rattle.lg_temp.specs.Chosen.{around}
use Rattle.lg_temp.specs.Choices.{AreFor}
use Rattle.lg_carry.specs.Blocks.{IsBlock}
use Rattle.lg_selr_values.specs.Processor.RvRows.{is_straight}
use Rattle.lg_selr_values.specs.Items.{words_in, settled, AreItems, NameLabels, StayWithin}
use Rattle.lg_carry.specs.Values.Parts.{HaveSlots}
use Rattle.lg_selr_values.specs.ValueItems.{value_needs, value_items}
use Rattle.lg_carry.specs.Nodes.Operands.{NameBelow}

-- at most one register is chosen; the items are in the ranges of their instructions (at most 32), and each is followed by the next
pub record AreValueItems (n : Node) (choices : List Choice) : Type 0 where
  pub few : length choices ≤ 1
  pub slots : HaveSlots choices
  pub fit : AreItems (value_items n choices)
  pub short : words_in (value_items n choices) ≤ 32
  pub block : (to : ℕ → ℕ) (at : ℕ) → IsBlock is_straight (settled to at (value_items n choices))

abbrev pub ValueItemsFit : Type 0
ValueItemsFit = (n : Node) (live : Reg → Bool) (staged : List Bool) (choices : List Choice)
    → AreFor (around Riscv64 n live staged) (value_needs n.op) [] (value_needs n.op) choices → AreValueItems n choices

-- then so are those of the items
abbrev pub ValueItemsName : Type 0
ValueItemsName = (labels : ℕ) (n : Node) (choices : List Choice) → NameBelow labels n.operands → NameLabels labels (value_items n choices)

-- the items write no register that is outside of the conventions
abbrev pub ValueItemsStay : Type 0
ValueItemsStay = (n : Node) (live : Reg → Bool) (staged : List Bool) (choices : List Choice)
    → AreFor (around Riscv64 n live staged) (value_needs n.op) [] (value_needs n.op) choices → StayWithin false (value_items n choices)
