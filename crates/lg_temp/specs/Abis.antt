-- The calling conventions, as the code crates ask for them.
use Rattle.std.specs.Prelude.{ℕ, Option, Some, None}
use Rattle.lg_base.specs.Conventions.{argument_register, argument_word, portable_register, frame_register}
use Rattle.lg_base.specs.declared.target.Target.{Target}
use Rattle.lg_op.specs.declared.operand.Reg.{Reg}
use Rattle.lg_op.specs.declared.operand.Reg.TheVariants.{Fp}
use Rattle.lg_op.specs.Operands.{number_of}
use Rattle.lg_temp.specs.declared.abi.ArgPlace.{ArgPlace}
use Rattle.lg_temp.specs.declared.abi.ArgPlace.TheVariants as place

-- the place of an argument that has a register, and of one that has none
abbrev pub placed : Option ℕ → ℕ → ArgPlace
placed (Some register) word = place.Reg register
placed None word = place.Stack word

abbrev pub place_of : Target → ℕ → ArgPlace
place_of target i = placed (argument_register target i) (argument_word target i)

-- the register that corresponds to one of the portable machine
abbrev pub register_of : Target → Reg → ℕ
register_of target Fp = frame_register target
register_of target r = portable_register target (number_of r)
