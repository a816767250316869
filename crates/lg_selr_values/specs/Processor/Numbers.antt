-- Code that loads a number into a register.
use Rattle.std.specs.Prelude.{◌≡◌, ◌≢◌, ℕ, zero, suc, ◌+◌, ◌-◌, ◌/◌, ◌%◌, ◌^◌, ◌==◌, ◌<◌, ◌≤◌, nat_lt, Bool, true, if◌then◌else◌, ℤ, pos, negsuc, List, [], ◌∷◌, ◌++◌, length}
use Rattle.std.specs.List.{All}
use Rattle.lg_base.specs.Words.{add_words, is_half}
use Rattle.lg_rv.specs.Spelling.{IsInstr}
use Rattle.lg_rv.specs.declared.instruction.Instr.{Instr}
use Rattle.lg_rv.specs.declared.instruction.Instr.TheVariants.{Upper, Imm, Shift}
use Rattle.lg_rv.specs.declared.instruction.UpperOp.TheVariants.{Lui}
use Rattle.lg_rv.specs.declared.instruction.ImmOp.TheVariants.{Addi, Addiw}
use Rattle.lg_rv.specs.declared.instruction.ShiftOp.TheVariants.{Slli}
use Rattle.lg_cpu.specs.HostSteps.{put}
use Rattle.lg_selr_values.specs.Processor.RvRows.{is_straight}
use Rattle.lg_selr_values.specs.Processor.Computations.{all_compute, computed}

-- the signed view is from -2,048 to 2,047
abbrev pub is_short : ℕ → Bool
is_short v = nat_lt ((v + 2048) % 2 ^ 64) 4096

-- the low 32 bits, as a number for `lui` and one for `addiw`
abbrev pub high_part : ℕ → ℕ
high_part v = (v + 2048) / 4096 % 2 ^ 20

-- the low 12 bits, with their sign
abbrev pub low_part : ℕ → ℤ
low_part v = if nat_lt (v % 4096) 2048 then pos (v % 4096) else negsuc (4095 - v % 4096)

abbrev pub short_code : ℕ → ℕ → List Instr
short_code rd v = Imm Addi rd 0 (low_part v) ∷ []

-- a number of 32 bits: its low 12 bits are added where they are not 0
abbrev pub half_code : ℕ → ℕ → List Instr
half_code rd v = if v % 4096 == 0 then Upper Lui rd (high_part v) ∷ [] else Upper Lui rd (high_part v) ∷ Imm Addiw rd rd (low_part v) ∷ []

-- the number without its low 12 bits, which have a sign, 12 bits further down
abbrev pub above : ℕ → ℕ
above v = let sum = add_words v 2048 in if nat_lt sum (2 ^ 63) then sum / 4096 else sum / 4096 + (2 ^ 64 - 2 ^ 52)

-- what was above goes up again, and the low 12 bits are added
abbrev pub low_code : ℕ → ℕ → List Instr
low_code rd v = if v % 4096 == 0 then Shift Slli rd rd 12 ∷ [] else Shift Slli rd rd 12 ∷ Imm Addi rd rd (low_part v) ∷ []

-- a number of 12 or 32 bits, or what is above the low 12 bits, so n times, and these after it
abbrev pub wide_code : ℕ → ℕ → ℕ → List Instr
wide_code zero rd v = half_code rd v
wide_code (suc n) rd v = if is_short v then short_code rd v else if is_half v then half_code rd v else wide_code n rd (above v) ++ low_code rd v

unfoldable pub long_code : ℕ → ℕ → List Instr
long_code rd v = wide_code 2 rd (above v) ++ low_code rd v

abbrev pub number_code : ℕ → ℕ → List Instr
number_code rd v = if is_short v then short_code rd v else if is_half v then half_code rd v else long_code rd v

-- the code puts the number into the register and changes no other; it has at most 8 instructions, and where the number has 12 bits one, where it has 32
-- bits two, and without a sign four
pub record LoadsNumber (rd v : ℕ) : Type 0 where
  pub computes : all_compute (number_code rd v) ≡ true
  pub value : (w : ℕ → ℕ) (r : ℕ) → computed (number_code rd v) w r ≡ put w rd v r
  pub some : 0 < length (number_code rd v)
  pub few : length (number_code rd v) ≤ 8
  pub one : is_short v ≡ true → length (number_code rd v) ≤ 1
  pub two : is_half v ≡ true → length (number_code rd v) ≤ 2
  pub four : v < 2 ^ 32 → length (number_code rd v) ≤ 4
  pub fits : All IsInstr (number_code rd v)
  pub straight : All (λ i. is_straight i ≡ true) (number_code rd v)

abbrev pub NumbersAreLoaded : Type 0
NumbersAreLoaded = (rd v : ℕ) → rd ≢ 0 → rd < 32 → v < 2 ^ 64 → LoadsNumber rd v
