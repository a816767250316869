-- The instructions of AArch64 in two groups: those that make a register of registers and numbers, and the rest.
use Rattle.std.specs.Prelude.{Bool, true, false}
use Rattle.lg_a64.specs.declared.instruction.RegOp.{RegOp}
use Rattle.lg_a64.specs.declared.instruction.RegOp.TheVariants.{Orn, Smulh, Umulh, Udiv, Sdiv, Lslv, Lsrv, Asrv}
use Rattle.lg_a64.specs.declared.instruction.Instr.{Instr}
use Rattle.lg_a64.specs.declared.instruction.Instr.TheVariants.{Scaled, Ldrx, Unscaled, Branch, BranchIf, BranchReg, Nop}

-- the instructions on memory, those that go elsewhere, and `nop`
abbrev pub is_rest : Instr → Bool
is_rest (Scaled op rt rn imm) = true
is_rest (Ldrx rt rn rm) = true
is_rest (Unscaled op rt rn imm) = true
is_rest (Branch op words) = true
is_rest (BranchIf cond words) = true
is_rest (BranchReg op rn) = true
is_rest Nop = true
is_rest i = false

-- the rows with three registers that neither set nor read flags, but for sums, differences and operations on bits
abbrev pub is_plain : RegOp → Bool
is_plain Orn = true
is_plain Smulh = true
is_plain Umulh = true
is_plain Udiv = true
is_plain Sdiv = true
is_plain Lslv = true
is_plain Lsrv = true
is_plain Asrv = true
is_plain op = false
