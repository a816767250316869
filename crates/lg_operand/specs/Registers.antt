-- The words of registers, and those of floating point.
use Rattle.std.specs.Prelude.{ℕ, ◌==◌, Bool, not, ◌&&◌, List, [], ◌∷◌, length, drop, slice_index, Option, find, codes}
use Rattle.std.specs.Char.{is_ascii_digit}
use Rattle.std.specs.List.{list_all}
use Rattle.std.specs.Str.{bytes_eq}
use Rattle.lg_op.specs.declared.operand.Reg.{Reg}
use Rattle.lg_op.specs.declared.operand.Reg.TheVariants.{R0, R1, R2, V0, V1, V2, Fp}

abbrev pub registers : List Reg
registers = R0 ∷ R1 ∷ R2 ∷ V0 ∷ V1 ∷ V2 ∷ Fp ∷ []

abbrev pub register_word : Reg → List ℕ
register_word R0 = codes "%r0"
register_word R1 = codes "%r1"
register_word R2 = codes "%r2"
register_word V0 = codes "%v0"
register_word V1 = codes "%v1"
register_word V2 = codes "%v2"
register_word Fp = codes "%fp"

abbrev pub register_of : List ℕ → Option Reg
register_of word = find (λ r. bytes_eq word (register_word r)) registers

abbrev pub are_digits : List ℕ → Bool
are_digits bytes = not (length bytes == 0) && list_all is_ascii_digit bytes

-- %f with digits names a floating-point register
abbrev pub is_float_register : List ℕ → Bool
is_float_register word = (slice_index word 1 == 102) && are_digits (drop 2 word)
