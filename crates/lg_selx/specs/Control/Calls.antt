-- `calli` and `finishi` of a label: a call of the place of its `prolog`, which pushes the address after it.
use Rattle.std.specs.Prelude.{ℕ, ◌+◌, pos, ◌-ℤ◌, List, [], ◌∷◌}
use Rattle.lg_x86.specs.declared.instruction.JumpNearOp.TheVariants.{Call32}
use Rattle.lg_x86.specs.declared.instruction.Instr.{Instr}
use Rattle.lg_x86.specs.declared.instruction.Instr.TheVariants as instr

-- from an address to another one
abbrev pub call_code : ℕ → ℕ → List Instr
call_code from to = instr.JumpNear Call32 (pos to -ℤ pos (from + 5)) ∷ []
