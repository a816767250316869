-- Reading an argument of the function: what a target's code of it does, and that nodes with this code are carried.
use Rattle.lg_carry.specs.Memory.Accesses.{LiesAbove}
use Rattle.std.specs.Prelude.{◌≡◌, ◌≢◌, ℕ, ◌+◌, ◌%◌, ◌^◌, ◌<◌, ◌==◌, nat_lt, if◌then◌else◌, Bool, true, List, [], length}
use Rattle.lg_base.specs.Conventions.{argument_registers, argument_word, frame_register, stack_register}
use Rattle.lg_base.specs.Layout.{frame_pointer, home_word, stack_argument}
use Rattle.lg_base.specs.declared.target.Target.{Target}
use Rattle.lg_op.specs.declared.node.Node.{Node}
use Rattle.lg_op.specs.declared.op.Op.TheVariants as op
use Rattle.lg_op.specs.declared.op.ValueType.{ValueType}
use Rattle.lg_op.specs.declared.operand.Reg.{Reg}
use Rattle.lg_op.specs.declared.operand.Reg.TheVariants.{Fp}
use Rattle.lg_op.specs.Operators.{width}
use Rattle.lg_meaning.specs.Steps.{operand_at, slot}
use Rattle.lg_carry.specs.Blocks.{spellings}
use Rattle.lg_carry.specs.FinalNodes.{Code}
use Rattle.lg_carry.specs.NodeBlocks.{IsNodeBlock}
use Rattle.lg_carry.specs.NodeCode.{CarriesNode}
use Rattle.lg_carry.specs.Rows.{Rows}
use Rattle.lg_carry.specs.TextNodes.{IsInText, IsFrameOf}
use Rattle.lg_carry.specs.Nodes.Stretches.{HasFrame}
use Rattle.lg_carry.specs.Memory.Loads.{IsReadable, Reads}
use Rattle.lg_carry.specs.Memory.Operands.{named}

-- the code that reads an argument, by its number, by a type into a register, in a frame of this many bytes
abbrev pub ArgumentCode : Type 0 → Type 0
ArgumentCode I = ℕ → ValueType → Reg → ℕ → List I

-- where argument k of the function stands whose frame ends at sp: in its home, or in a stack word of the caller
abbrev pub argument_place : Target → ℕ → ℕ → ℕ
argument_place target sp k =
    if nat_lt k (length (argument_registers target)) then home_word (frame_pointer sp) k else stack_argument sp (argument_word target k)

-- the code leaves the argument's low bytes, extended by the type, in the register, and changes no other but scratch registers
abbrev pub ArgumentsDo : {Q I : Type 0} → Rows Q I → (ℕ → Bool) → ArgumentCode I → Type 0
ArgumentsDo {Q} R scratch code =
    (frame : ℕ) (t : ValueType) (d : Reg) (k : ℕ) (q : Q) (a v : ℕ) → d ≢ Fp → k < 16 → HasFrame R.processor.target frame (R.processor.seen q)
    → argument_place R.processor.target ((R.processor.seen q).registers (stack_register R.processor.target) + frame) k ≡ a → (a % width t == 0) ≡ true
    → IsReadable (R.processor.seen q) ((R.processor.seen q).registers (frame_register R.processor.target)) a (width t) v
    → LiesAbove R.processor.target ((R.processor.seen q).registers (stack_register R.processor.target)) a (width t) → v < 256 ^ width t
    → Reads R scratch [] t d q v (code frame t d k)

abbrev pub HasArgumentCode : {Q I : Type 0} → Rows Q I → ArgumentCode I → Type 0
HasArgumentCode R code = (frame : ℕ) (t : ValueType) (d : Reg) (k : ℕ) → k < 16 → 0 < length (spellings R.spelling (code frame t d k))

-- the code of a node that reads an argument; a function has no more than 16
abbrev pub argument_of : {I : Type 0} → ArgumentCode I → ℕ → ValueType → Node → List I
argument_of code frame t n = if nat_lt (slot (operand_at n 1)) 16 then code frame t (named (operand_at n 0)) (slot (operand_at n 1)) else []

-- such a node is carried by it, whatever is live after it
abbrev pub ArgumentsCarry : {Q I : Type 0} → Rows Q I → (I → Type 0) → ArgumentCode I → Type 0
ArgumentsCarry R fits code =
    (c : Code) (i : ℕ) (n : Node) (t : ValueType) (frame : ℕ) (S : ℕ → Bool) → n.op ≡ op.Getarg t → IsInText c i n → IsFrameOf c i frame
    → IsNodeBlock R fits c i (argument_of code frame t n) → CarriesNode R.processor c i n S
