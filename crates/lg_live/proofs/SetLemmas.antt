-- Sets of registers have no other bits.
use Rattle.std.proofs.Common.{ℕ, ◌<◌, arith}
use Rattle.std.specs.Prelude.{bit_or}
use Rattle.std.proofs.lemmas.Nat.{or_lt}
use Rattle.lg_op.specs.declared.operand.Reg.{Reg}
use Rattle.lg_op.specs.declared.operand.Reg.TheVariants.{R0, R1, R2, V0, V1, V2, Fp}
use Rattle.lg_live.specs.Registers.{bit_of}

bit_small : (r : Reg) → bit_of r < 64
bit_small R0 = omega arith
bit_small R1 = omega arith
bit_small R2 = omega arith
bit_small V0 = omega arith
bit_small V1 = omega arith
bit_small V2 = omega arith
bit_small Fp = omega arith

pub with_small : (set : ℕ) (r : Reg) → set < 64 → bit_or set (bit_of r) < 64
with_small set r h = or_lt 6 set (bit_of r) h (bit_small r)
