-- The registers that correspond to portable ones.
use Rattle.std.proofs.Common.{◌≢◌, ◌<◌, arith}
use Rattle.lg_base.specs.declared.target.Target.TheVariants.{Aarch64}
use Rattle.lg_op.specs.declared.operand.Reg.{Reg}
use Rattle.lg_op.specs.declared.operand.Reg.TheVariants.{R0}
use Rattle.lg_temp.specs.Abis.{register_of}

-- none is the link or 31
pub register-small : (d : Reg) → register_of Aarch64 d < 30
register-small R0 = omega arith
register-small o = omega arith

pub register-off-link : (d : Reg) → register_of Aarch64 d ≢ 30
register-off-link d = let l = register-small d in λ e. absurd (omega (arith, l, e))
