-- Reading the next variable argument of the function: what a target's code of it does, and that nodes with this code are carried.
use Rattle.lg_carry.specs.Memory.Accesses.{LiesAbove}
use Rattle.std.specs.Prelude.{◌≡◌, ◌≢◌, ℕ, ◌+◌, ◌%◌, ◌^◌, ◌<◌, ◌==◌, Bool, true, List, [], length}
use Rattle.lg_base.specs.Conventions.{frame_register, stack_register}
use Rattle.lg_base.specs.declared.flags.Flags.{Flags}
use Rattle.lg_op.specs.declared.node.Node.{Node}
use Rattle.lg_op.specs.declared.op.Op.TheVariants as op
use Rattle.lg_op.specs.declared.op.PlainOp.TheVariants as plain
use Rattle.lg_op.specs.declared.operand.Reg.{Reg}
use Rattle.lg_op.specs.declared.operand.Reg.TheVariants.{Fp}
use Rattle.lg_meaning.specs.Steps.{operand_at}
use Rattle.lg_temp.specs.Abis.{register_of}
use Rattle.lg_carry.specs.Blocks.{spellings}
use Rattle.lg_carry.specs.FinalNodes.{Code}
use Rattle.lg_carry.specs.NodeBlocks.{IsNodeBlock}
use Rattle.lg_carry.specs.NodeCode.{CarriesNode}
use Rattle.lg_carry.specs.Rows.{Rows}
use Rattle.lg_carry.specs.Spills.{Does, with_register}
use Rattle.lg_carry.specs.TextNodes.{IsInText, IsFrameOf}
use Rattle.lg_carry.specs.Nodes.Straight.{spoils, from_to}
use Rattle.lg_carry.specs.Nodes.Stretches.{HasFrame}
use Rattle.lg_carry.specs.Memory.Arguments.{argument_place}
use Rattle.lg_carry.specs.Memory.Loads.{IsReadable}
use Rattle.lg_carry.specs.Memory.Operands.{named}

-- the code that reads an argument into the first register, by its number in the second one, which then holds the next number
abbrev pub NextArgumentCode : Type 0 → Type 0
NextArgumentCode I = Reg → Reg → List I

-- code leaves these words in two registers, changes no other but scratch registers, and leaves some flags
pub record LeavesBoth {Q I : Type 0} (R : Rows Q I) (scratch : ℕ → Bool) (d s : Reg) (v k : ℕ) (q : Q) (code : List I) : Type 0 where
  pub flags : Flags
  pub does : Does R
      (from_to (R.processor.seen q)
      (with_register (with_register (R.processor.seen q).registers (register_of R.processor.target d) v) (register_of R.processor.target s) k)
      (R.processor.seen q).bytes flags)
      code ((R.processor.seen q).registers (frame_register R.processor.target)) 0 (spoils scratch [])

-- the code leaves argument k in the one register and k + 1 in the other, wherever the argument stands
abbrev pub NextArgumentsDo : {Q I : Type 0} → Rows Q I → (ℕ → Bool) → NextArgumentCode I → Type 0
NextArgumentsDo {Q} R scratch code =
    (frame : ℕ) (d s : Reg) (q : Q) (k a v : ℕ) → d ≢ Fp → s ≢ Fp → d ≢ s → k < 16 → HasFrame R.processor.target frame (R.processor.seen q)
    → (R.processor.seen q).registers (register_of R.processor.target s) ≡ k
    → argument_place R.processor.target ((R.processor.seen q).registers (stack_register R.processor.target) + frame) k ≡ a → (a % 8 == 0) ≡ true
    → IsReadable (R.processor.seen q) ((R.processor.seen q).registers (frame_register R.processor.target)) a 8 v
    → LiesAbove R.processor.target ((R.processor.seen q).registers (stack_register R.processor.target)) a 8 → v < 2 ^ 64
    → LeavesBoth R scratch d s v (k + 1) q (code d s)

abbrev pub HasNextArgumentCode : {Q I : Type 0} → Rows Q I → NextArgumentCode I → Type 0
HasNextArgumentCode R code = (d s : Reg) → 0 < length (spellings R.spelling (code d s))

-- the code of a node that reads the next variable argument
abbrev pub next_argument_of : {I : Type 0} → NextArgumentCode I → Node → List I
next_argument_of code n = code (named (operand_at n 0)) (named (operand_at n 1))

-- such a node is carried by it, whatever is live after it
abbrev pub NextArgumentsCarry : {Q I : Type 0} → Rows Q I → (I → Type 0) → NextArgumentCode I → Type 0
NextArgumentsCarry R fits code =
    (c : Code) (i : ℕ) (n : Node) (frame : ℕ) (S : ℕ → Bool) → n.op ≡ op.Plain plain.VaArg → IsInText c i n → IsFrameOf c i frame
    → IsNodeBlock R fits c i (next_argument_of code n) → CarriesNode R.processor c i n S
