-- The items of loads, stores and arguments write no register that is outside of the conventions, and name no label but that of an operand.
use Rattle.std.proofs.Common.{◌≡◌, ◌<◌, ℕ, Bool, true, false, [], ◌∷◌, ◌++◌, refl}
use Rattle.std.specs.Prelude.{nat_lt, slice_index, if◌then◌else◌}
use Rattle.lg_base.specs.Conventions.{argument_registers}
use Rattle.lg_base.specs.HostNames.{host_address}
use Rattle.lg_base.specs.declared.target.Target.TheVariants.{Riscv64}
use Rattle.lg_selr_values.specs.Processor.Numbers.{number_code}
use Rattle.lg_meaning.specs.Steps.{operand_at}
use Rattle.lg_op.specs.declared.node.Node.{Node}
use Rattle.lg_op.specs.declared.operand.Label.{Label}
use Rattle.lg_op.specs.declared.operand.Operand.{Operand}
use Rattle.lg_op.specs.declared.operand.Operand.TheVariants as operand
use Rattle.lg_selr_values.specs.Items.{NameLabels, StayWithin}
use Rattle.lg_selr_values.proofs.ItemLemmas.{names-append, names-ones}
use Rattle.lg_selr.specs.Memory.Accesses.{link}
use Rattle.lg_selr.specs.Memory.ArgumentCode.{argument_code}
use Rattle.lg_selr.specs.Memory.PushCode.{into, stack_push, onto_stack, push_code}
use Rattle.lg_selr.specs.Memory.VariableArgumentCode.{next_argument_code}
use Rattle.lg_selr_values.proofs.WithinLemmas.{In, stay-append, stay-ones, number}
use Rattle.lg_selr.specs.Memory.MemoryFits.{MemoryItemsName, MemoryItemsStay}
use Rattle.lg_selr.proofs.OfMemory.AccessFitLemmas.{load-items-fit, store-items-fit, load-items-name, store-items-name}
use Rattle.lg_selr.proofs.OfMemory.FitLemmas.{argument-fine, memory-items-fit}

-- ---- registers
puts : (rd : ℕ) (x : Operand) → In rd → StayWithin false (into rd x)
puts rd (operand.Reg r) h = (h, tt)
puts rd (operand.Number v) h = stay-ones (number_code rd v) (number rd v h)
puts rd (operand.Host name) h = stay-ones (number_code rd (host_address name)) (number rd (host_address name) h)
puts rd (operand.Label l) h = (h, tt)
puts rd (operand.Slot k) h = tt

stacks : (j : ℕ) (x : Operand) → StayWithin false (into link x ++ stack_push j link ∷ [])
stacks j x = stay-append (into link x) (stack_push j link ∷ []) (puts link x refl) (tt, tt)

stacked : (j : ℕ) (x : Operand) → StayWithin false (onto_stack j x)
stacked j (operand.Reg r) = (tt, tt)
stacked j (operand.Number v) = stacks j (operand.Number v)
stacked j (operand.Host name) = stacks j (operand.Host name)
stacked j (operand.Label l) = stacks j (operand.Label l)
stacked j (operand.Slot k) = stacks j (operand.Slot k)

pushes : (j : ℕ) (n : Node) → StayWithin false (push_code j n)
pushes j n = by (nat_lt j 8)
  where
    by : (b : Bool) → StayWithin false (if b then into (slice_index (argument_registers Riscv64) j) (operand_at n 0) else onto_stack j (operand_at n 0))
    by true = puts (slice_index (argument_registers Riscv64) j) (operand_at n 0) (argument-fine j).1
    by false = stacked j (operand_at n 0)

pub memory-items-stay : MemoryItemsStay
memory-items-stay = record {
  loads = λ t at n live staged choices are. (load-items-fit t at n live staged choices are).within;
  stores = λ t at n live staged choices are. (store-items-fit t at n live staged choices are).within;
  arguments = λ t n. (memory-items-fit.arguments t n).appendable.within;
  next_arguments = λ n. (memory-items-fit.next_arguments n).appendable.within;
  pushes = pushes;
}

-- ---- labels
module _ (labels : ℕ) where
  names : (rd : ℕ) (x : Operand) → ((l : Label) → x ≡ operand.Label l → l.0 < labels) → NameLabels labels (into rd x)
  names rd (operand.Reg r) h = (tt, tt)
  names rd (operand.Number v) h = names-ones labels (number_code rd v)
  names rd (operand.Host name) h = names-ones labels (number_code rd (host_address name))
  names rd (operand.Label l) h = (h l refl, tt)
  names rd (operand.Slot k) h = tt

  linked : (j : ℕ) (x : Operand) → ((l : Label) → x ≡ operand.Label l → l.0 < labels) → NameLabels labels (into link x ++ stack_push j link ∷ [])
  linked j x h = names-append labels (into link x) (stack_push j link ∷ []) (names link x h) (tt, tt)

  onto : (j : ℕ) (x : Operand) → ((l : Label) → x ≡ operand.Label l → l.0 < labels) → NameLabels labels (onto_stack j x)
  onto j (operand.Reg r) h = (tt, tt)
  onto j (operand.Number v) h = linked j (operand.Number v) h
  onto j (operand.Host name) h = linked j (operand.Host name) h
  onto j (operand.Label l) h = linked j (operand.Label l) h
  onto j (operand.Slot k) h = linked j (operand.Slot k) h

  passes : (j : ℕ) (n : Node) → ((l : Label) → operand_at n 0 ≡ operand.Label l → l.0 < labels) → NameLabels labels (push_code j n)
  passes j n h = by (nat_lt j 8)
    where
      by : (b : Bool) → NameLabels labels (if b then into (slice_index (argument_registers Riscv64) j) (operand_at n 0) else onto_stack j (operand_at n 0))
      by true = names (slice_index (argument_registers Riscv64) j) (operand_at n 0) h
      by false = onto j (operand_at n 0) h

pub memory-items-name : MemoryItemsName
memory-items-name = record {
  loads = load-items-name;
  stores = store-items-name;
  arguments = λ labels t n. names-ones labels (argument_code t n);
  next_arguments = λ labels n. names-ones labels (next_argument_code n);
  pushes = passes;
}
