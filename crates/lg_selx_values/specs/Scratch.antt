-- Code that spoils FP after a `prolog` and makes it again: rbp, 5, is the stack pointer, rsp, 4, and the frame, less 16. `lea` changes no flag.
use Rattle.std.specs.Prelude.{ℕ, ◌-◌, ◌==◌, if◌then◌else◌, pos, List, [], ◌∷◌}
use Rattle.lg_x86.specs.declared.instruction.Instr.{Instr}
use Rattle.lg_x86.specs.declared.instruction.Instr.TheVariants.{RmReg, Load}
use Rattle.lg_x86.specs.declared.instruction.RmRegOp.TheVariants as alu
use Rattle.lg_x86.specs.declared.instruction.LoadOp.TheVariants.{Lea}

-- FP again
abbrev pub again : ℕ → List Instr
again frame = Load Lea 5 4 (pos (frame - 16)) ∷ []

-- a register from another, where they differ
abbrev pub moved : ℕ → ℕ → List Instr
moved d a = if d == a then [] else RmReg alu.Mov d a ∷ []
