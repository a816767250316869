-- The instructions of x86-64 in two groups: those that make a register of registers and numbers, and the rest.
use Rattle.std.specs.Prelude.{Bool, true, false}
use Rattle.lg_x86.specs.declared.instruction.Instr.{Instr}
use Rattle.lg_x86.specs.declared.instruction.Instr.TheVariants.{Load, Store, Stack, JumpIfShort, JumpIfNear, JumpShort, JumpNear, JumpReg, Bare}

-- the instructions on memory, on the stack, and those that go elsewhere
abbrev pub is_rest : Instr → Bool
is_rest (Load op reg base disp) = true
is_rest (Store op base disp reg) = true
is_rest (Stack op reg) = true
is_rest (JumpIfShort cond distance) = true
is_rest (JumpIfNear cond distance) = true
is_rest (JumpShort distance) = true
is_rest (JumpNear op distance) = true
is_rest (JumpReg op rm) = true
is_rest (Bare op) = true
is_rest i = false
