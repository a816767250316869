-- The instructions of RV64 that store.
use Rattle.std.specs.Prelude.{Bool, true, false}
use Rattle.lg_rv.specs.declared.instruction.Instr.{Instr}
use Rattle.lg_rv.specs.declared.instruction.Instr.TheVariants.{Store}

abbrev pub rv_stores : Instr → Bool
rv_stores (Store o rs1 rs2 imm) = true
rv_stores i = false
