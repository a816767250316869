-- The registers of RV64IM that correspond to portable ones.
use Rattle.std.proofs.Common.{◌≡◌, ◌≢◌, ℕ, ◌<◌, refl, arith}
use Rattle.lg_base.specs.declared.target.Target.TheVariants.{Riscv64}
use Rattle.lg_op.specs.declared.operand.Reg.{Reg}
use Rattle.lg_op.specs.declared.operand.Reg.TheVariants.{R0}
use Rattle.lg_cpu.specs.RvStep.{read}
use Rattle.lg_temp.specs.Abis.{register_of}

pub register-nonzero : (d : Reg) → register_of Riscv64 d ≢ 0
register-nonzero R0 = λ e. absurd (omega (arith, e))
register-nonzero d = λ e. absurd (omega (arith, e))

-- nor the stack pointer
pub register-no-stack : (d : Reg) → register_of Riscv64 d ≢ 2
register-no-stack R0 = λ e. absurd (omega (arith, e))
register-no-stack d = λ e. absurd (omega (arith, e))

-- neither the link nor the carry
pub register-apart : (d : Reg) → (register_of Riscv64 d ≢ 1) × (register_of Riscv64 d ≢ 31)
register-apart R0 = (λ e. absurd (omega (arith, e)), λ e. absurd (omega (arith, e)))
register-apart d = (λ e. absurd (omega (arith, e)), λ e. absurd (omega (arith, e)))

pub register-small : (d : Reg) → register_of Riscv64 d < 32
register-small R0 = omega arith
register-small d = omega arith

-- none is x0
pub read-of : (w : ℕ → ℕ) (a : Reg) → read w (register_of Riscv64 a) ≡ w (register_of Riscv64 a)
read-of w R0 = refl
read-of w a = refl
