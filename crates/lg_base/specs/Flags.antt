-- What single flags of a processor are.
use Rattle.std.specs.Prelude.{Bool, false, Option, Some, None}
use Rattle.lg_base.specs.declared.flags.Flags.{Flags}
use Rattle.lg_base.specs.declared.flags.Flags.TheVariants.{NoFlags, Nzcv, Rflags}

-- the carry flag, where there is one and it is defined
abbrev pub carry_of : Flags → Option Bool
carry_of NoFlags = None
carry_of (Nzcv negative zero carry overflow) = Some carry
carry_of (Rflags sign zero carry overflow) = carry

-- N, Z, C and V of AArch64; the flags of other processors read as 0
abbrev pub negative_flag : Flags → Bool
negative_flag (Nzcv negative zero carry overflow) = negative
negative_flag f = false

abbrev pub zero_flag : Flags → Bool
zero_flag (Nzcv negative zero carry overflow) = zero
zero_flag f = false

abbrev pub carry_flag : Flags → Bool
carry_flag (Nzcv negative zero carry overflow) = carry
carry_flag f = false

abbrev pub overflow_flag : Flags → Bool
overflow_flag (Nzcv negative zero carry overflow) = overflow
overflow_flag f = false
