-- The registers by their bits.
use Rattle.std.specs.Prelude.{ℕ, ◌==◌, ◌&&◌, nat_lt, Bool}
use Rattle.lg_op.specs.Operands.{number_of}
use Rattle.lg_op.specs.declared.operand.Reg.{Reg}
use Rattle.lg_op.specs.declared.operand.Reg.TheVariants.{R0, R1, R2, V0, V1, V2, Fp}

-- whether both are one register, other than FP, which is in no set
abbrev pub is_same : Reg → Reg → Bool
is_same q r = (number_of q == number_of r) && nat_lt (number_of r) 6

-- the bit in a set; FP has none
abbrev pub bit_of : Reg → ℕ
bit_of R0 = 1
bit_of R1 = 2
bit_of R2 = 4
bit_of V0 = 8
bit_of V1 = 16
bit_of V2 = 32
bit_of Fp = 0
