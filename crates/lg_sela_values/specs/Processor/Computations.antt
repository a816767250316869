-- Instructions that only compute: each makes registers and flags of registers and flags, and the next one follows.
use Rattle.std.specs.Prelude.{ℕ, Bool, true, false, List, Option, Some, None}
use Rattle.lg_base.specs.Flags.{carry_of, negative_flag, zero_flag, overflow_flag}
use Rattle.lg_base.specs.declared.flags.Flags.{Flags}
use Rattle.lg_base.specs.declared.flags.Flags.TheVariants.{Nzcv}
use Rattle.lg_a64.specs.declared.instruction.Instr.{Instr}
use Rattle.lg_a64.specs.declared.instruction.Instr.TheVariants.{Reg, Imm, Wide, MulAdd, Bitfield, Csinc, Reverse, Scaled, Ldrx, Unscaled, Branch, BranchIf, BranchReg}
use Rattle.lg_cpu.specs.A64Operators.{reg_value, reg_flags, imm_number, imm_value, imm_flags, wide_value, mul_add_value, bitfield_value, csinc_value, reverse_value, condition_holds}
use Rattle.lg_cpu.specs.A64Step.{read, write, imm_registers}
use Rattle.lg_carry.specs.Values.Computers.{Held}
use Rattle.lg_carry.specs.Values.Computers as computer

-- all but loads, stores, branches and jumps
abbrev pub computes : Instr → Bool
computes (Scaled op rt rn imm) = false
computes (Ldrx rt rn rm) = false
computes (Unscaled op rt rn imm) = false
computes (Branch op words) = false
computes (BranchIf cond words) = false
computes (BranchReg op rn) = false
computes i = true

abbrev pub all_compute : List Instr → Bool
all_compute is = computer.all_compute computes is

abbrev pub holding : (ℕ → ℕ) → Flags → Held
holding registers flags = record { registers = registers; flags = flags }

-- the flags that instructions read: C is the carry, where it is known
abbrev pub carry_or_false : Option Bool → Bool
carry_or_false None = false
carry_or_false (Some carry) = carry

abbrev pub known : Flags → Flags
known f = Nzcv (negative_flag f) (zero_flag f) (carry_or_false (carry_of f)) (overflow_flag f)

-- what one makes of registers and flags
abbrev pub computed_by : Instr → Held → Held
computed_by (Reg op rd rn rm) w =
    holding (write w.registers rd (reg_value op (known w.flags) (read w.registers rn) (read w.registers rm)))
    (reg_flags op (known w.flags) (read w.registers rn) (read w.registers rm))
computed_by (Imm op rd rn imm shifted) w =
    holding (imm_registers op w.registers rd (imm_value op (w.registers rn) (imm_number imm shifted)))
    (imm_flags op (known w.flags) (w.registers rn) (imm_number imm shifted))
computed_by (Wide op rd imm hw) w = holding (write w.registers rd (wide_value op (read w.registers rd) imm hw)) w.flags
computed_by (MulAdd op rd rn rm ra) w =
    holding (write w.registers rd (mul_add_value op (read w.registers rn) (read w.registers rm) (read w.registers ra))) w.flags
computed_by (Bitfield op rd rn immr imms) w = holding (write w.registers rd (bitfield_value op (read w.registers rn) immr imms)) w.flags
computed_by (Csinc rd rn rm cond) w =
    holding (write w.registers rd (csinc_value (condition_holds cond (known w.flags)) (read w.registers rn) (read w.registers rm))) w.flags
computed_by (Reverse op rd rn) w = holding (write w.registers rd (reverse_value op (read w.registers rn))) w.flags
computed_by i w = w

-- and what a list of them makes, one after the other
abbrev pub computed : List Instr → Held → Held
computed is w = computer.computed computed_by is w
