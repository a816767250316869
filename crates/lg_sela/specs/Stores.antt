-- The instructions of AArch64 that store.
use Rattle.std.specs.Prelude.{Bool, true, false}
use Rattle.lg_a64.specs.declared.instruction.Instr.{Instr}
use Rattle.lg_a64.specs.declared.instruction.Instr.TheVariants.{Scaled, Unscaled}
use Rattle.lg_a64.specs.declared.instruction.ScaledOp.TheVariants.{Str64, Str32, Str16, Str8}
use Rattle.lg_a64.specs.declared.instruction.UnscaledOp.TheVariants.{Stur}

abbrev pub a64_stores : Instr → Bool
a64_stores (Scaled Str64 rt rn imm) = true
a64_stores (Scaled Str32 rt rn imm) = true
a64_stores (Scaled Str16 rt rn imm) = true
a64_stores (Scaled Str8 rt rn imm) = true
a64_stores (Unscaled Stur rt rn imm) = true
a64_stores i = false
