-- What is asked of the items of loads, stores and arguments that are emitted.
use Rattle.std.specs.Prelude.{◌≡◌, ℕ, ◌<◌, List, false}
use Rattle.lg_op.specs.declared.node.Node.{Node}
use Rattle.lg_op.specs.declared.op.Addressing.{Addressing}
use Rattle.lg_op.specs.declared.op.StoreType.{StoreType}
use Rattle.lg_op.specs.declared.op.ValueType.{ValueType}
use Rattle.lg_op.specs.declared.operand.Label.{Label}
use Rattle.lg_op.specs.declared.operand.Operand.TheVariants as operand
use Rattle.lg_meaning.specs.Steps.{operand_at}
use Rattle.lg_sela_values.specs.declared.items.Item.{Item}
use Rattle.lg_sela_values.specs.Processor.A64Rows.{is_straight}
use Rattle.lg_sel.specs.GoodItems as good_items
use Rattle.lg_sela_values.specs.Items.{ones, NameLabels, StayWithin, a64_holes, IsItem, StaysWithin}
use Rattle.lg_sela.specs.Memory.Accesses.{load_code, store_code}
use Rattle.lg_sela.specs.Memory.ArgumentCode.{argument_code}
use Rattle.lg_sela.specs.Memory.PushCode.{push_code}
use Rattle.lg_sela.specs.Memory.VariableArgumentCode.{next_argument_code}

-- the registers that the items write: none that is outside of the conventions
pub record MemoryItemsStay : Type 0 where
  pub loads : (t : ValueType) (at : Addressing) (n : Node) → StayWithin false (ones (load_code t at n))
  pub stores : (t : StoreType) (at : Addressing) (n : Node) → StayWithin false (ones (store_code t at n))
  pub arguments : (t : ValueType) (n : Node) → StayWithin false (ones (argument_code t n))
  pub next_arguments : (n : Node) → StayWithin false (ones (next_argument_code n))
  pub pushes : (j : ℕ) (n : Node) → StayWithin false (push_code j n)

-- the items are in the ranges of their instructions (at most this many), with at most one fix, and each is followed by the next
abbrev pub AreMemoryItems : ℕ → List Item → Type 0
AreMemoryItems most items = good_items.AreFew a64_holes is_straight IsItem (StaysWithin false) most items

pub record MemoryItemsFit : Type 0 where
  pub loads : (t : ValueType) (at : Addressing) (n : Node) → AreMemoryItems 6 (ones (load_code t at n))
  pub stores : (t : StoreType) (at : Addressing) (n : Node) → AreMemoryItems 6 (ones (store_code t at n))
  pub arguments : (t : ValueType) (n : Node) → AreMemoryItems 2 (ones (argument_code t n))
  pub next_arguments : (n : Node) → AreMemoryItems 7 (ones (next_argument_code n))
  pub pushes : (j : ℕ) (n : Node) → j < 16 → AreMemoryItems 5 (push_code j n)

-- the items name no label but that of the operand which is passed
pub record MemoryItemsName : Type 0 where
  pub loads : (labels : ℕ) (t : ValueType) (at : Addressing) (n : Node) → NameLabels labels (ones (load_code t at n))
  pub stores : (labels : ℕ) (t : StoreType) (at : Addressing) (n : Node) → NameLabels labels (ones (store_code t at n))
  pub arguments : (labels : ℕ) (t : ValueType) (n : Node) → NameLabels labels (ones (argument_code t n))
  pub next_arguments : (labels : ℕ) (n : Node) → NameLabels labels (ones (next_argument_code n))
  pub pushes : (labels j : ℕ) (n : Node) → ((l : Label) → operand_at n 0 ≡ operand.Label l → l.0 < labels) → NameLabels labels (push_code j n)
