-- What is asked of the items of a node that are emitted.
use Rattle.std.specs.Prelude.{ℕ, ◌≤◌, Bool, List, [], length, false}
use Rattle.lg_base.specs.declared.target.Target.TheVariants.{X86_64}
use Rattle.lg_op.specs.declared.node.Node.{Node}
use Rattle.lg_op.specs.declared.operand.Reg.{Reg}
use Rattle.lg_temp.specs.declared.choice.Choice.{Choice}
use Rattle.lg_temp.specs.Chosen.{around}
use Rattle.lg_temp.specs.Choices.{AreFor}
use Rattle.lg_carry.specs.Blocks.{IsBlock}
use Rattle.lg_selx_values.specs.Processor.X86Rows.{is_straight}
use Rattle.lg_selx_values.specs.Items.{words_in, blanks, settled, AreItems, NameLabels, StayWithin}
use Rattle.lg_selx_values.specs.Needs.{value_needs}
use Rattle.lg_carry.specs.Values.Parts.{HaveSlots}
use Rattle.lg_selx_values.specs.ValueItems.{value_items}
use Rattle.lg_carry.specs.Nodes.Operands.{HaveWords, NameBelow}

-- at most two registers are chosen; the items are in the ranges of their instructions (at most 12), with at most 128 bytes in all, and each is followed by
-- the next
pub record AreValueItems (frame : ℕ) (n : Node) (choices : List Choice) : Type 0 where
  pub few : length choices ≤ 2
  pub slots : HaveSlots choices
  pub fit : AreItems (value_items frame n choices)
  pub short : words_in (value_items frame n choices) ≤ 12
  pub small : length (blanks (value_items frame n choices)) ≤ 128
  pub block : (to : ℕ → ℕ) (at : ℕ) → IsBlock is_straight (settled to at (value_items frame n choices))

-- in a function with a frame of 272 to 65,808 bytes
abbrev pub ValueItemsFit : Type 0
ValueItemsFit = (frame : ℕ) (n : Node) (live : Reg → Bool) (staged : List Bool) (choices : List Choice) → 272 ≤ frame → frame ≤ 65808 → HaveWords n.operands
    → AreFor (around X86_64 n live staged) (value_needs n.op) [] (value_needs n.op) choices → AreValueItems frame n choices

-- the choices alone, as the emitter asks for them
pub record AreSlots (choices : List Choice) : Type 0 where
  pub few : length choices ≤ 2
  pub slots : HaveSlots choices

abbrev pub ChoicesHaveSlots : Type 0
ChoicesHaveSlots = (n : Node) (live : Reg → Bool) (staged : List Bool) (choices : List Choice)
    → AreFor (around X86_64 n live staged) (value_needs n.op) [] (value_needs n.op) choices → AreSlots choices

-- then so are those of the items
abbrev pub ValueItemsName : Type 0
ValueItemsName = (labels frame : ℕ) (n : Node) (choices : List Choice) → NameBelow labels n.operands → NameLabels labels (value_items frame n choices)

-- the items write no register that is outside of the conventions
abbrev pub ValueItemsStay : Type 0
ValueItemsStay = (frame : ℕ) (n : Node) (live : Reg → Bool) (staged : List Bool) (choices : List Choice)
    → AreFor (around X86_64 n live staged) (value_needs n.op) [] (value_needs n.op) choices → StayWithin false (value_items frame n choices)
