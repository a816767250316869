-- The code of a row with a number gives a register its word and leaves the row's carry, whether an instruction holds the number or not.
use Rattle.std.specs.Prelude.{◌≡◌, ◌≢◌, ℕ, ◌^◌, ◌<◌, Bool, false, List, [], Option, Some}
use Rattle.lg_base.specs.Flags.{carry_of}
use Rattle.lg_cpu.specs.X86Operators.{bit, carry_for, alu_value, alu_flags, alu_of, is_kept_by}
use Rattle.lg_carry.specs.Values.Computers.{Held}
use Rattle.lg_x86.specs.declared.instruction.ImmOp.{ImmOp}
use Rattle.lg_x86.specs.declared.instruction.Instr.{Instr}
use Rattle.lg_selx_values.specs.BinaryCode.{with_number}
use Rattle.lg_selx_values.specs.WordLaws.{IsInFrame}
use Rattle.lg_selx_values.specs.Words.{MakesWord}

-- a word and a carry
pub record LeavesWord (body : List Instr) (d z : ℕ) (k : Option Bool) (q : Held) : Type 0 where
  pub word : MakesWord [] body d z q
  pub carry_is : carry_of word.flags ≡ k

-- the rows that write a register, where the carry that they read is defined
abbrev pub NumberRowsAreMade : Type 0
NumberRowsAreMade =
    (frame d a v : ℕ) (q : Held) → d ≢ 5 → d ≢ 4 → v < 2 ^ 64 → IsInFrame frame q → (op : ImmOp) (c : Bool)
    → is_kept_by (alu_of op) ≡ false → carry_for (alu_of op) (carry_of q.flags) ≡ Some c
    → LeavesWord (with_number op (alu_of op) frame d a v) d (alu_value (alu_of op) (q.registers a) v (bit c))
    (carry_of (alu_flags (alu_of op) q.flags (q.registers a) v (bit c))) q
