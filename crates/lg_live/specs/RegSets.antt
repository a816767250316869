-- Sets of registers.
use Rattle.std.specs.Prelude.{◌==◌, ◌<◌, not, Bool, bit_and}
use Rattle.lg_op.specs.declared.operand.Reg.{Reg}
use Rattle.lg_live.specs.Registers.{bit_of}
use Rattle.lg_live.specs.declared.reg_set.RegSet.{RegSet}

-- whether a register is in a set
abbrev pub has : RegSet → Reg → Bool
has set r = not (bit_and set.0 (bit_of r) == 0)

-- no bit is set but those of registers
abbrev pub IsSmall : RegSet → Type 0
IsSmall set = set.0 < 64
