-- What is asked of the items of loads, stores and arguments that are emitted.
use Rattle.std.specs.Prelude.{◌≡◌, ℕ, ◌<◌, ◌≤◌, Bool, [], List, length, false}
use Rattle.lg_base.specs.declared.target.Target.TheVariants.{Riscv64}
use Rattle.lg_op.specs.declared.node.Node.{Node}
use Rattle.lg_op.specs.declared.op.Addressing.{Addressing}
use Rattle.lg_op.specs.declared.op.StoreType.{StoreType}
use Rattle.lg_op.specs.declared.op.ValueType.{ValueType}
use Rattle.lg_op.specs.declared.operand.Label.{Label}
use Rattle.lg_op.specs.declared.operand.Operand.TheVariants as operand
use Rattle.lg_op.specs.declared.operand.Reg.{Reg}
use Rattle.lg_meaning.specs.Steps.{operand_at}
use Rattle.lg_selr_values.specs.Processor.RvRows.{is_straight}
use Rattle.lg_sel.specs.GoodItems as good_items
use Rattle.lg_selr_values.specs.declared.items.Item.{Item}
use Rattle.lg_op.specs.Operators.{width, store_width}
use Rattle.lg_selr_values.specs.Items.{rv_holes, ones, IsItem, AreItems, StaysWithin, NameLabels, StayWithin}
use Rattle.lg_selr.specs.Memory.Accesses.{access_needs, load_items, store_items}
use Rattle.lg_selr.specs.Memory.ArgumentCode.{argument_code}
use Rattle.lg_selr.specs.Memory.PushCode.{push_code}
use Rattle.lg_selr.specs.Memory.VariableArgumentCode.{next_argument_code}
use Rattle.lg_temp.specs.Choices.{AreFor}
use Rattle.lg_temp.specs.Chosen.{around}
use Rattle.lg_carry.specs.Values.Parts.{HaveSlots}
use Rattle.lg_temp.specs.declared.choice.Choice.{Choice}

-- the registers that the items write: none that is outside of the conventions, with the choices for the needs of a load or a store
pub record MemoryItemsStay : Type 0 where
  pub loads : (t : ValueType) (at : Addressing) (n : Node) (live : Reg → Bool) (staged : List Bool) (choices : List Choice)
      → AreFor (around Riscv64 n live staged) (access_needs (width t)) [] (access_needs (width t)) choices → StayWithin false (load_items t at n choices)
  pub stores : (t : StoreType) (at : Addressing) (n : Node) (live : Reg → Bool) (staged : List Bool) (choices : List Choice)
      → AreFor (around Riscv64 n live staged) (access_needs (store_width t)) [] (access_needs (store_width t)) choices → StayWithin false (store_items t at n choices)
  pub arguments : (t : ValueType) (n : Node) → StayWithin false (ones (argument_code t n))
  pub next_arguments : (n : Node) → StayWithin false (ones (next_argument_code n))
  pub pushes : (j : ℕ) (n : Node) → StayWithin false (push_code j n)

-- the items are in the ranges of their instructions (at most this many), with at most one fix, and each is followed by the next
abbrev pub AreMemoryItems : ℕ → List Item → Type 0
AreMemoryItems most items = good_items.AreFew rv_holes is_straight IsItem (StaysWithin false) most items

-- those of an access, which may branch, are in range and write none that is outside, with at most one choice, which has a slot where its register is saved
pub record AreAccessItems (choices : List Choice) (items : List Item) : Type 0 where
  pub few : length choices ≤ 1
  pub slots : HaveSlots choices
  pub fit : AreItems items
  pub within : StayWithin false items

pub record MemoryItemsFit : Type 0 where
  pub loads : (t : ValueType) (at : Addressing) (n : Node) (live : Reg → Bool) (staged : List Bool) (choices : List Choice)
      → AreFor (around Riscv64 n live staged) (access_needs (width t)) [] (access_needs (width t)) choices → AreAccessItems choices (load_items t at n choices)
  pub stores : (t : StoreType) (at : Addressing) (n : Node) (live : Reg → Bool) (staged : List Bool) (choices : List Choice)
      → AreFor (around Riscv64 n live staged) (access_needs (store_width t)) [] (access_needs (store_width t)) choices
      → AreAccessItems choices (store_items t at n choices)
  pub arguments : (t : ValueType) (n : Node) → AreMemoryItems 1 (ones (argument_code t n))
  pub next_arguments : (n : Node) → AreMemoryItems 8 (ones (next_argument_code n))
  pub pushes : (j : ℕ) (n : Node) → j < 16 → AreMemoryItems 9 (push_code j n)

-- the items name no label but that of the operand which is passed
pub record MemoryItemsName : Type 0 where
  pub loads : (labels : ℕ) (t : ValueType) (at : Addressing) (n : Node) (choices : List Choice) → NameLabels labels (load_items t at n choices)
  pub stores : (labels : ℕ) (t : StoreType) (at : Addressing) (n : Node) (choices : List Choice) → NameLabels labels (store_items t at n choices)
  pub arguments : (labels : ℕ) (t : ValueType) (n : Node) → NameLabels labels (ones (argument_code t n))
  pub next_arguments : (labels : ℕ) (n : Node) → NameLabels labels (ones (next_argument_code n))
  pub pushes : (labels j : ℕ) (n : Node) → ((l : Label) → operand_at n 0 ≡ operand.Label l → l.0 < labels) → NameLabels labels (push_code j n)
