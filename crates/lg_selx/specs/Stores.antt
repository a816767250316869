-- The instructions of x86-64 that store.
use Rattle.std.specs.Prelude.{Bool, true, false}
use Rattle.lg_x86.specs.declared.instruction.Instr.{Instr}
use Rattle.lg_x86.specs.declared.instruction.Instr.TheVariants.{Store, Stack}
use Rattle.lg_x86.specs.declared.instruction.StackOp.TheVariants.{Push}

-- a push does, and a call does not
abbrev pub x86_stores : Instr → Bool
x86_stores (Store o base disp reg) = true
x86_stores (Stack Push reg) = true
x86_stores i = false
