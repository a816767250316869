-- Passing an argument of a call: what a target's code of it does, and that nodes with this code are carried.
use Rattle.std.specs.Prelude.{◌≡◌, ◌≢◌, ℕ, ◌+◌, ◌^◌, ◌<◌, ◌≤◌, nat_lt, if◌then◌else◌, Bool, false, List, [], length, slice_index, Option, Some}
use Rattle.lg_base.specs.Conventions.{argument_registers, argument_word, frame_register, stack_register}
use Rattle.lg_base.specs.Layout.{code_base, most_code, stack_argument}
use Rattle.lg_base.specs.Spaces.{stored}
use Rattle.lg_base.specs.declared.target.Target.{Target}
use Rattle.lg_node.specs.Preparations.{pushed}
use Rattle.lg_op.specs.declared.node.Node.{Node}
use Rattle.lg_op.specs.declared.op.ControlOp.TheVariants as control
use Rattle.lg_op.specs.declared.op.LastOperand.{LastOperand}
use Rattle.lg_op.specs.declared.op.Op.TheVariants as op
use Rattle.lg_op.specs.declared.operand.Label.{Label}
use Rattle.lg_op.specs.declared.operand.Operand.{Operand}
use Rattle.lg_op.specs.declared.operand.Operand.TheVariants as operand
use Rattle.lg_meaning.specs.Steps.{operand_at}
use Rattle.lg_carry.specs.Blocks.{spellings}
use Rattle.lg_carry.specs.FinalNodes.{Code}
use Rattle.lg_carry.specs.NodeBlocks.{IsNodeBlock}
use Rattle.lg_carry.specs.NodeCode.{CarriesNode}
use Rattle.lg_carry.specs.Rows.{Rows}
use Rattle.lg_carry.specs.Spills.{Does, with_register}
use Rattle.lg_carry.specs.TextNodes.{IsInText, IsFrameOf, NamesCode}
use Rattle.lg_carry.specs.Nodes.Straight.{spoils, from_to}
use Rattle.lg_carry.specs.Nodes.Stretches.{HasFrame}
use Rattle.lg_carry.specs.Memory.Operands.{HasWords, operand_word}
use Rattle.lg_carry.specs.Memory.Stores.{IsWritable}

-- the code that passes an operand as an argument, by its number: in a frame of this many bytes, with these addresses of the labels, from an address on
abbrev pub PushCode : Type 0 → Type 0
PushCode I = ℕ → (ℕ → ℕ) → ℕ → ℕ → Operand → List I

-- argument j goes in a register
abbrev pub is_in_register : Target → ℕ → Bool
is_in_register target j = nat_lt j (length (argument_registers target))

-- the stack word of argument j, from the stack pointer
abbrev pub outgoing_word : Target → ℕ → ℕ → ℕ
outgoing_word target low j = stack_argument low (argument_word target j)

-- the registers and the bytes with argument j of the call
abbrev pub with_argument : Target → ℕ → ℕ → (ℕ → ℕ) → ℕ → ℕ
with_argument target j v w = if is_in_register target j then with_register w (slice_index (argument_registers target) j) v else w

abbrev pub with_outgoing : Target → ℕ → ℕ → ℕ → (ℕ → Option ℕ) → ℕ → Option ℕ
with_outgoing target low j v bytes = if is_in_register target j then bytes else stored bytes (outgoing_word target low j) 8 v

-- what is known of an operand: its word is one, and that of a label lies in the code part
pub record IsPassed (target : Target) (w to : ℕ → ℕ) (x : Operand) (v : ℕ) : Type 0 where
  pub word : operand_word target w to x ≡ Some v
  pub small : v < 2 ^ 64
  pub label : (l : Label) → x ≡ operand.Label l → (code_base ≤ v) × (v ≤ code_base + most_code)

-- the code puts the operand's word into the argument's register or stack word, and changes no other register but scratch registers
abbrev pub PushesDo : {Q I : Type 0} → Rows Q I → (ℕ → Bool) → PushCode I → Type 0
PushesDo {Q} R scratch code =
    (frame : ℕ) (to : ℕ → ℕ) (from j : ℕ) (x : Operand) (q : Q) (v : ℕ) → j < 16 → HasFrame R.processor.target frame (R.processor.seen q)
    → IsPassed R.processor.target (R.processor.seen q).registers to x v
    → (is_in_register R.processor.target j ≡ false → IsWritable (R.processor.seen q) ((R.processor.seen q).registers (frame_register R.processor.target))
    (outgoing_word R.processor.target ((R.processor.seen q).registers (stack_register R.processor.target)) j) 8)
    → Does R
    (from_to (R.processor.seen q) (with_argument R.processor.target j v (R.processor.seen q).registers)
    (with_outgoing R.processor.target ((R.processor.seen q).registers (stack_register R.processor.target)) j v (R.processor.seen q).bytes)
    (R.processor.seen q).flags)
    (code frame to from j x) ((R.processor.seen q).registers (frame_register R.processor.target)) 0 (spoils scratch [])

abbrev pub HasPushCode : {Q I : Type 0} → Rows Q I → PushCode I → Type 0
HasPushCode R code =
    (frame : ℕ) (to : ℕ → ℕ) (from j : ℕ) (x : Operand) → j < 16 → ((k : ℕ) → x ≢ operand.Slot k) → ((v : ℕ) → x ≡ operand.Number v → v < 2 ^ 64)
    → 0 < length (spellings R.spelling (code frame to from j x))

-- a node that passes an argument, where this many are passed before it, is carried by it, whatever is live after it
abbrev pub PushesCarry : {Q I : Type 0} → Rows Q I → (I → Type 0) → PushCode I → Type 0
PushesCarry R fits code =
    (c : Code) (i : ℕ) (n : Node) (last : LastOperand) (frame : ℕ) (S : ℕ → Bool) → n.op ≡ op.Control control.Pusharg last → HasWords n → NamesCode c n
    → IsInText c i n → IsFrameOf c i frame
    → IsNodeBlock R fits c i (code frame (slice_index c.addresses) (c.place i) (pushed c.nodes.nodes i) (operand_at n 0)) → CarriesNode R.processor c i n S
