-- The items of arguments: their numbers are in the ranges of their instructions, there are few, and each is followed by the next.
use Rattle.std.proofs.Common.{◌≡◌, ℕ, suc, ◌+◌, ◌-◌, ◌*◌, ◌<◌, ◌≤◌, Bool, true, false, List, [], ◌∷◌, ◌++◌, length, refl, arith}
use Rattle.std.specs.Prelude.{ℤ, pos, negsuc, ◌≤ℤ◌, nat_lt, slice_index, if◌then◌else◌}
use Rattle.std.proofs.lemmas.Int.{ints}
use Rattle.lg_base.specs.Conventions.{argument_registers}
use Rattle.lg_base.specs.HostNames.{host_address}
use Rattle.lg_base.specs.declared.target.Target.TheVariants.{Riscv64}
use Rattle.lg_op.specs.declared.node.Node.{Node}
use Rattle.lg_op.specs.declared.op.ValueType.{ValueType}
use Rattle.lg_op.specs.declared.op.ValueType.TheVariants as value_type
use Rattle.lg_op.specs.declared.operand.Operand.{Operand}
use Rattle.lg_op.specs.declared.operand.Operand.TheVariants as operand
use Rattle.lg_rv.specs.declared.instruction.Instr.{Instr}
use Rattle.lg_rv.specs.declared.instruction.Instr.TheVariants as instr
use Rattle.lg_rv.specs.declared.instruction.ImmOp.TheVariants.{Addi}
use Rattle.lg_rv.specs.declared.instruction.StoreOp.TheVariants.{Sd}
use Rattle.lg_meaning.specs.Steps.{operand_at, slot}
use Rattle.lg_temp.specs.Abis.{register_of}
use Rattle.lg_selr_values.specs.Processor.Numbers.{number_code}
use Rattle.lg_selr_values.specs.Processor.RvRows.{is_straight}
use Rattle.lg_selr_values.proofs.OfProcessor.RegisterLemmas.{register-small}
use Rattle.lg_sel.proofs.FewLemmas.{AreBounded, bounded-append, bounded-more, bounded-ones, bounded-few}
use Rattle.lg_carry.specs.Memory.Operands.{named}
use Rattle.lg_selr_values.specs.declared.items.Item.{Item}
use Rattle.lg_selr_values.specs.declared.items.Item.TheVariants.{One}
use Rattle.lg_selr_values.specs.GoodItems.{Fine, AreGood, IsGoodItem}
use Rattle.lg_selr_values.specs.Items.{rv_holes, IsItem, StaysWithin, ones}
use Rattle.lg_selr_values.proofs.GoodLemmas.{link-fine, number-good, ones-good, good-items-are-appendable}
use Rattle.lg_selr_values.proofs.WithinLemmas.{portable}
use Rattle.lg_selr.proofs.OfMemory.AccessFitLemmas.{load-items-fit, store-items-fit}
use Rattle.lg_selr.specs.Memory.Accesses.{link, register, load_row}
use Rattle.lg_selr.specs.Memory.ArgumentCode.{argument_offset, argument_code}
use Rattle.lg_selr.specs.Memory.MemoryFits.{AreMemoryItems, MemoryItemsFit}
use Rattle.lg_selr.specs.Memory.PushCode.{into, stack_push, onto_stack, push_code}
use Rattle.lg_selr.specs.Memory.VariableArgumentCode.{next_argument_instrs, next_argument_code}
use Rattle.lg_selr_values.proofs.EmissionLemmas.{number_few}

register-fine : (x : Operand) → Fine (register x)
register-fine x = (register-small (named x), portable (named x))

-- good instructions (at most this many)
record IsFitCode (most : ℕ) (is : List Instr) : Type 0 where
  good : AreGood is
  few : length is ≤ most

-- ---- reading an argument
load-straight : (t : ValueType) (rd base : ℕ) (offset : ℤ) → is_straight (instr.Imm (load_row t) rd base offset) ≡ true
load-straight value_type.Char rd base offset = refl
load-straight t rd base offset = refl

offset-fits : (k : ℕ) → k < 16 → (negsuc 2047 ≤ℤ argument_offset k) × (argument_offset k ≤ℤ pos 2047)
offset-fits k few = by (nat_lt k 8)
  where
    by : (b : Bool) → (negsuc 2047 ≤ℤ (if b then negsuc (31 + 8 * k) else pos (16 + 8 * (k - 8)))) × ((if b then negsuc (31 + 8 * k) else pos (16 + 8 * (k - 8))) ≤ℤ pos 2047)
    by true = (omega (arith, ints, few), omega (arith, ints, few))
    by false = (omega (arith, ints, few), omega (arith, ints, few))

argument-fits : (t : ValueType) (n : Node) → IsFitCode 1 (argument_code t n)
argument-fits t n = by (nat_lt (slot (operand_at n 1)) 16) refl
  where
    few : nat_lt (slot (operand_at n 1)) 16 ≡ true → slot (operand_at n 1) < 16
    few e = grind (arith, e)

    by : (b : Bool) → nat_lt (slot (operand_at n 1)) 16 ≡ b
        → IsFitCode 1 (if b then instr.Imm (load_row t) (register (operand_at n 0)) 8 (argument_offset (slot (operand_at n 1))) ∷ [] else [])
    by true e =
        let k = offset-fits (slot (operand_at n 1)) (few e) in
        let h = register-fine (operand_at n 0) in record {
          good = (((h.0, omega arith, k.0, k.1), h.1, load-straight t (register (operand_at n 0)) 8 (argument_offset (slot (operand_at n 1)))), tt);
          few = omega arith;
        }
    by false e = record { good = tt; few = omega arith }

-- ---- reading the next variable argument
next-fits : (d s : ℕ) → Fine d → Fine s → IsFitCode 8 (next_argument_instrs d s)
next-fits d s fd fs =
    let fl : link < 32 = omega arith in
    record {
      good = (
        ((fl, fs.0, omega (arith, ints), omega (arith, ints)), refl, refl),
        (
          ((fl, fl, omega arith, λ z. absurd (omega (arith, z))), refl, refl),
          (
            ((fl, fl, omega (arith, ints), omega (arith, ints)), refl, refl),
            (
              ((fd.0, fs.0, omega (arith, ints), omega (arith, ints)), fd.1, refl),
              (
                ((fd.0, fd.0, fl), fd.1, refl),
                (
                  ((fd.0, fd.0, omega arith), fd.1, refl),
                  (((fd.0, fd.0, omega (arith, ints), omega (arith, ints)), fd.1, refl), (((fs.0, fs.0, omega (arith, ints), omega (arith, ints)), fs.1, refl), tt)),
                ),
              ),
            ),
          ),
        ),
      );
      few = omega arith;
    }

-- ---- passing an argument
abbrev AreFit : ℕ → ℕ → List Item → Type 0
AreFit most fixes xs = AreBounded rv_holes IsGoodItem most fixes xs

code-fit : (most : ℕ) (is : List Instr) → IsFitCode most is → AreFit most 0 (ones is)
code-fit most is h = bounded-ones rv_holes IsGoodItem One (λ i. refl) (λ p i. refl) most is (ones-good is h.good) h.few

fewer : (m n f g : ℕ) (xs : List Item) → m ≤ n → f ≤ g → AreFit m f xs → AreFit n g xs
fewer = bounded-more rv_holes IsGoodItem

number-fit : (rd v : ℕ) → Fine rd → AreFit 8 1 (ones (number_code rd v))
number-fit rd v h = fewer 8 8 0 1 (ones (number_code rd v)) (omega arith) (omega arith) (code-fit 8 (number_code rd v) record { good = number-good rd v h; few = number_few rd v })

into-fit : (rd : ℕ) (x : Operand) → Fine rd → AreFit 8 1 (into rd x)
into-fit rd (operand.Reg r) h =
    let i = instr.Imm Addi rd (register_of Riscv64 r) (pos 0) in
    fewer 1 8 0 1 (ones (i ∷ [])) (omega arith) (omega arith)
    (code-fit 1 (i ∷ []) record { good = (((h.0, register-small r, omega (arith, ints), omega (arith, ints)), h.1, refl), tt); few = omega arith })
into-fit rd (operand.Number v) h = number-fit rd v h
into-fit rd (operand.Host name) h = number-fit rd (host_address name) h
into-fit rd (operand.Label l) h = record { good = (h, tt); short = omega arith; fixed = λ p. omega arith }
into-fit rd (operand.Slot k) h = record { good = tt; short = omega arith; fixed = λ p. omega arith }

stack-push-fit : (j r : ℕ) → j < 16 → r < 32 → AreFit 1 0 (stack_push j r ∷ [])
stack-push-fit j r few lt =
    code-fit 1 (instr.Store Sd 2 r (pos (8 * (j - 8))) ∷ []) record { good = (((omega arith, lt, omega (arith, ints), omega (arith, ints)), tt, refl), tt); few = omega arith }

linked-fit : (j : ℕ) (x : Operand) → j < 16 → AreFit 9 1 (into link x ++ stack_push j link ∷ [])
linked-fit j x few = bounded-append rv_holes IsGoodItem 8 1 1 0 (into link x) (stack_push j link ∷ []) (into-fit link x link-fine) (stack-push-fit j link few (omega arith))

onto-fit : (j : ℕ) (x : Operand) → j < 16 → AreFit 9 1 (onto_stack j x)
onto-fit j (operand.Reg r) few =
    fewer 1 9 0 1 (stack_push j (register_of Riscv64 r) ∷ []) (omega arith) (omega arith) (stack-push-fit j (register_of Riscv64 r) few (register-small r))
onto-fit j (operand.Number v) few = linked-fit j (operand.Number v) few
onto-fit j (operand.Host name) few = linked-fit j (operand.Host name) few
onto-fit j (operand.Label l) few = linked-fit j (operand.Label l) few
onto-fit j (operand.Slot k) few = linked-fit j (operand.Slot k) few

-- the registers of arguments
pub argument-fine : (j : ℕ) → Fine (slice_index (argument_registers Riscv64) j)
argument-fine (suc (suc (suc (suc (suc (suc (suc (suc j)))))))) = (omega arith, refl)
argument-fine j = (omega arith, refl)

push-fit : (j : ℕ) (n : Node) → j < 16 → AreFit 9 1 (push_code j n)
push-fit j n few = by (nat_lt j 8)
  where
    by : (b : Bool) → AreFit 9 1 (if b then into (slice_index (argument_registers Riscv64) j) (operand_at n 0) else onto_stack j (operand_at n 0))
    by true =
        let rd = slice_index (argument_registers Riscv64) j in
        fewer 8 9 1 1 (into rd (operand_at n 0)) (omega arith) (omega arith) (into-fit rd (operand_at n 0) (argument-fine j))
    by false = onto-fit j (operand_at n 0) few

-- ---- what is asked of items
are-items : (most fixes : ℕ) (xs : List Item) → fixes ≤ 1 → AreFit most fixes xs → AreMemoryItems most xs
are-items = bounded-few rv_holes IsGoodItem is_straight IsItem (StaysWithin false) good-items-are-appendable

pub memory-items-fit : MemoryItemsFit
memory-items-fit = record {
  loads = load-items-fit;
  stores = store-items-fit;
  arguments = λ t n. are-items 1 0 (ones (argument_code t n)) (omega arith) (code-fit 1 (argument_code t n) (argument-fits t n));
  next_arguments = λ n. are-items 8 0 (ones (next_argument_code n)) (omega arith)
      (code-fit 8 (next_argument_code n) (next-fits (register (operand_at n 0)) (register (operand_at n 1)) (register-fine (operand_at n 0)) (register-fine (operand_at n 1))));
  pushes = λ j n few. are-items 9 1 (push_code j n) (omega arith) (push-fit j n few);
}
