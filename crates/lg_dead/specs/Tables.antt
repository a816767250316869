-- How what is known of registers is held.
use Rattle.std.specs.Prelude.{ℕ, if◌then◌else◌, Option, Some, None}
use Rattle.lg_op.specs.declared.operand.Reg.{Reg}
use Rattle.lg_op.specs.declared.operand.Reg.TheVariants.{R0, R1, R2, V0, V1, V2, Fp}
use Rattle.lg_live.specs.Registers.{is_same}
use Rattle.lg_dead.specs.declared.known.Known.{Known}
use Rattle.lg_dead.specs.declared.known.Moved.{Moved}

abbrev pub held_in : Known → Reg → Option ℕ
held_in k R0 = k.r0
held_in k R1 = k.r1
held_in k R2 = k.r2
held_in k V0 = k.v0
held_in k V1 = k.v1
held_in k V2 = k.v2
held_in k Fp = None

abbrev pub known_of : Known → Reg → Option ℕ
known_of k r = if k.some then held_in k r else None

-- the number that is moved into a register, of one that is moved
abbrev pub moved_to : Option Moved → Reg → Option ℕ
moved_to None r = None
moved_to (Some m) r = if is_same m.into r then Some m.number else None
