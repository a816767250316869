-- What is asked of the items of loads, stores and arguments that are emitted.
use Rattle.std.specs.Prelude.{◌≡◌, ℕ, ◌^◌, ◌<◌, ◌≤◌, Bool, List, [], length, false}
use Rattle.lg_base.specs.declared.target.Target.TheVariants.{X86_64}
use Rattle.lg_op.specs.declared.node.Node.{Node}
use Rattle.lg_op.specs.declared.op.Addressing.{Addressing}
use Rattle.lg_op.specs.declared.op.StoreType.{StoreType}
use Rattle.lg_op.specs.declared.op.ValueType.{ValueType}
use Rattle.lg_op.specs.declared.operand.Label.{Label}
use Rattle.lg_op.specs.declared.operand.Operand.TheVariants as operand
use Rattle.lg_op.specs.declared.operand.Reg.{Reg}
use Rattle.lg_meaning.specs.Steps.{operand_at}
use Rattle.lg_carry.specs.Memory.Operands.{HasWords}
use Rattle.lg_selx_values.specs.declared.items.Item.{Item}
use Rattle.lg_selx_values.specs.Processor.X86Rows.{is_straight}
use Rattle.lg_sel.specs.GoodItems as good_items
use Rattle.lg_carry.specs.Values.Parts.{HaveSlots}
use Rattle.lg_temp.specs.Choices.{AreFor}
use Rattle.lg_temp.specs.Chosen.{around}
use Rattle.lg_temp.specs.declared.choice.Choice.{Choice}
use Rattle.lg_selx_values.specs.Items.{ones, NameLabels, StayWithin, x86_holes, IsItem, StaysWithin}
use Rattle.lg_selx.specs.Memory.Accesses.{load_code, store_needs, store_items}
use Rattle.lg_selx.specs.Memory.ArgumentCode.{argument_code}
use Rattle.lg_selx.specs.Memory.PushCode.{push_code}
use Rattle.lg_selx.specs.Memory.VariableArgumentCode.{next_argument_code}

-- the registers that the items write: none that is outside of the conventions, with the choices for the needs of a store
pub record MemoryItemsStay : Type 0 where
  pub loads : (frame : ℕ) (t : ValueType) (at : Addressing) (n : Node) → StayWithin false (ones (load_code frame t at n))
  pub stores : (t : StoreType) (at : Addressing) (n : Node) (live : Reg → Bool) (staged : List Bool) (choices : List Choice)
      → AreFor (around X86_64 n live staged) (store_needs at) [] (store_needs at) choices → StayWithin false (store_items t at n choices)
  pub arguments : (frame : ℕ) (t : ValueType) (n : Node) → StayWithin false (ones (argument_code frame t n))
  pub next_arguments : (n : Node) → StayWithin false (ones (next_argument_code n))
  pub pushes : (frame j : ℕ) (n : Node) → StayWithin false (push_code frame j n)

-- the items are in the ranges of their instructions (at most this many), with at most one fix, and each is followed by the next
abbrev pub AreMemoryItems : ℕ → List Item → Type 0
AreMemoryItems most items = good_items.AreFew x86_holes is_straight IsItem (StaysWithin false) most items

-- at most one choice, which has a slot where its register is saved
pub record AreStoreChoices (choices : List Choice) : Type 0 where
  pub few : length choices ≤ 1
  pub slots : HaveSlots choices

-- in a frame whose size is a number of 31 bits, where the numbers of the operands are words
pub record MemoryItemsFit : Type 0 where
  pub loads : (frame : ℕ) (t : ValueType) (at : Addressing) (n : Node) → frame < 0x40000000 → HasWords n
      → AreMemoryItems 4 (ones (load_code frame t at n))
  pub stores : (t : StoreType) (at : Addressing) (n : Node) (live : Reg → Bool) (staged : List Bool) (choices : List Choice) → HasWords n
      → AreFor (around X86_64 n live staged) (store_needs at) [] (store_needs at) choices → AreMemoryItems 5 (store_items t at n choices)
  pub choices : (at : Addressing) (n : Node) (live : Reg → Bool) (staged : List Bool) (choices : List Choice)
      → AreFor (around X86_64 n live staged) (store_needs at) [] (store_needs at) choices → AreStoreChoices choices
  pub arguments : (frame : ℕ) (t : ValueType) (n : Node) → frame < 0x40000000 → AreMemoryItems 1 (ones (argument_code frame t n))
  pub next_arguments : (n : Node) → AreMemoryItems 8 (ones (next_argument_code n))
  pub pushes : (frame j : ℕ) (n : Node) → frame < 0x40000000 → j < 16 → ((v : ℕ) → operand_at n 0 ≡ operand.Number v → v < 2 ^ 64)
      → AreMemoryItems 3 (push_code frame j n)

-- the items name no label but that of the operand which is passed
pub record MemoryItemsName : Type 0 where
  pub loads : (labels frame : ℕ) (t : ValueType) (at : Addressing) (n : Node) → NameLabels labels (ones (load_code frame t at n))
  pub stores : (labels : ℕ) (t : StoreType) (at : Addressing) (n : Node) (choices : List Choice) → NameLabels labels (store_items t at n choices)
  pub arguments : (labels frame : ℕ) (t : ValueType) (n : Node) → NameLabels labels (ones (argument_code frame t n))
  pub next_arguments : (labels : ℕ) (n : Node) → NameLabels labels (ones (next_argument_code n))
  pub pushes : (labels frame j : ℕ) (n : Node) → ((l : Label) → operand_at n 0 ≡ operand.Label l → l.0 < labels)
      → NameLabels labels (push_code frame j n)
