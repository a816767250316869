-- The code of operations gives registers their words, for every pattern of equal registers.
use Rattle.std.specs.Prelude.{◌≡◌, ◌≢◌, ◌-◌, ◌^◌, ◌<◌, ◌==◌, ◌||◌, ℕ, Bool, true, false, List, [], Some}
use Rattle.lg_base.specs.Flags.{carry_of}
use Rattle.lg_base.specs.Words.{add_words}
use Rattle.lg_base.specs.declared.target.Target.TheVariants.{X86_64}
use Rattle.lg_op.specs.declared.op.BinaryOp.{BinaryOp}
use Rattle.lg_op.specs.declared.op.WideOp.{WideOp}
use Rattle.lg_op.specs.declared.carry.Carry.{Carry}
use Rattle.lg_op.specs.Operators.{binary_value, sets_carry, carry_in, value_with_carry, carry_made, wide_value}
use Rattle.lg_meaning.specs.Steps.{bit_word}
use Rattle.lg_temp.specs.declared.choice.Choice.{Choice}
use Rattle.lg_carry.specs.Registers.{HoldsCarry}
use Rattle.lg_carry.specs.Nodes.Straight.{is_taken}
use Rattle.lg_carry.specs.Values.Computers.{Held}
use Rattle.lg_x86.specs.declared.instruction.Instr.{Instr}
use Rattle.lg_selx_values.specs.BinaryCode.{register_code}
use Rattle.lg_selx_values.specs.CarryCode.{carry_register_code}
use Rattle.lg_selx_values.specs.Needs.{spoils}
use Rattle.lg_selx_values.specs.WideCode.{wide_code}
use Rattle.lg_selx_values.specs.Words.{MakesWord, MakesPair}

-- registers hold words, and FP is where the stack pointer and the frame have it
pub record IsInFrame (frame : ℕ) (q : Held) : Type 0 where
  pub words : (r : ℕ) → q.registers r < 2 ^ 64
  pub pointer : add_words (q.registers 4) (frame - 16) ≡ q.registers 5

-- two registers into one; the result goes to no register of a need, FP or the stack pointer
abbrev pub BinariesAreMade : Type 0
BinariesAreMade =
    (choices : List Choice) (frame d a b : ℕ) (q : Held) → d ≢ 5 → d ≢ 4 → d ≢ 1 → a ≢ 1 → a ≢ 2 → IsInFrame frame q
    → (o : BinaryOp) (z : ℕ) → sets_carry o ≡ false → ((r : ℕ) → is_taken choices r ≡ false → r ≢ d → spoils o r ≡ false)
    → binary_value o (q.registers a) (q.registers b) ≡ Some z → MakesWord choices (register_code o frame d a b) d z q

-- and the carry, where the operation sets it
pub record MakesWithCarry (o : BinaryOp) (body : List Instr) (d x y c : ℕ) (q : Held) : Type 0 where
  pub word : MakesWord [] body d (value_with_carry o x y c) q
  pub holds : HoldsCarry X86_64 word.registers (carry_of word.flags) (carry_made o x y c)

abbrev pub CarryCodesAreMade : Type 0
CarryCodesAreMade =
    (frame d a b : ℕ) (q : Held) → d ≢ 5 → d ≢ 4 → IsInFrame frame q → (o : BinaryOp) (k : Carry) (c : Bool) → sets_carry o ≡ true → carry_in o k ≡ Some c
    → HoldsCarry X86_64 q.registers (carry_of q.flags) k
    → MakesWithCarry o (carry_register_code o frame d a b) d (q.registers a) (q.registers b) (bit_word c) q

-- two registers into two
abbrev pub WidePairsAreMade : Type 0
WidePairsAreMade =
    (choices : List Choice) (frame d e a b : ℕ) (q : Held) → d ≢ e → d ≢ 2 → e ≢ 2 → d ≢ 5 → e ≢ 5 → d ≢ 4 → e ≢ 4 → a ≢ 2 → IsInFrame frame q
    → ((r : ℕ) → is_taken choices r ≡ false → r ≢ d → r ≢ e → ((r == 0) || (r == 2)) ≡ false)
    → (o : WideOp) (p : ℕ × ℕ) → wide_value o (q.registers a) (q.registers b) ≡ Some p → MakesPair choices (wide_code o frame d e a b) d e p q
