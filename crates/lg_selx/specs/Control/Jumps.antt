-- `jmpi`: a jump, whose distance counts from its end: of two bytes with the shortest reach.
use Rattle.std.specs.Prelude.{ℕ, ◌+◌, pos, ◌-ℤ◌, List, [], ◌∷◌}
use Rattle.lg_x86.specs.declared.instruction.JumpNearOp.TheVariants.{Jmp32}
use Rattle.lg_x86.specs.declared.instruction.Instr.{Instr}
use Rattle.lg_x86.specs.declared.instruction.Instr.TheVariants as instr
use Rattle.lg_sel.specs.declared.reach.Reach.{Reach}
use Rattle.lg_sel.specs.declared.reach.Reach.TheVariants.{Short}

-- from an address to another one
abbrev pub jump_code : Reach → ℕ → ℕ → List Instr
jump_code Short from to = instr.JumpShort (pos to -ℤ pos (from + 2)) ∷ []
jump_code r from to = instr.JumpNear Jmp32 (pos to -ℤ pos (from + 5)) ∷ []
