-- Code that loads a number into a register: its quarters that are not 0, or, where its high half is all ones, those of its complement.
use Rattle.std.specs.Prelude.{◌≡◌, ℕ, ◌/◌, ◌%◌, ◌^◌, ◌<◌, ◌≤◌, ◌==◌, ◌||◌, not, nat_lt, Bool, true, if◌then◌else◌, List, [], ◌∷◌, ◌++◌, length}
use Rattle.std.specs.List.{All}
use Rattle.lg_base.specs.Words.{complement}
use Rattle.lg_a64.specs.Spelling.{IsInstr}
use Rattle.lg_a64.specs.declared.instruction.Instr.{Instr}
use Rattle.lg_a64.specs.declared.instruction.Instr.TheVariants.{Wide}
use Rattle.lg_a64.specs.declared.instruction.WideOp.TheVariants.{Movz, Movn, Movk}
use Rattle.lg_cpu.specs.HostSteps.{put}
use Rattle.lg_carry.specs.Values.Computers.{Held}
use Rattle.lg_sela_values.specs.Processor.Computations.{holding, all_compute, computed}

-- a quarter that is not 0 is put in its place
abbrev pub quarter_code : ℕ → ℕ → ℕ → List Instr
quarter_code rd part hw = if part == 0 then [] else Wide Movk rd part hw ∷ []

-- the first instruction puts the lowest quarter, or the lowest that is not 0, and the others are put after it
abbrev pub first_code : ℕ → ℕ → List Instr
first_code rd v =
    Wide Movz rd (v % 2 ^ 16) 0
    ∷ (quarter_code rd (v / 2 ^ 16 % 2 ^ 16) 1 ++ (quarter_code rd (v / 2 ^ 32 % 2 ^ 16) 2 ++ quarter_code rd (v / 2 ^ 48 % 2 ^ 16) 3))

abbrev pub second_code : ℕ → ℕ → List Instr
second_code rd v = Wide Movz rd (v / 2 ^ 16 % 2 ^ 16) 1 ∷ (quarter_code rd (v / 2 ^ 32 % 2 ^ 16) 2 ++ quarter_code rd (v / 2 ^ 48 % 2 ^ 16) 3)

abbrev pub third_code : ℕ → ℕ → List Instr
third_code rd v = Wide Movz rd (v / 2 ^ 32 % 2 ^ 16) 2 ∷ quarter_code rd (v / 2 ^ 48 % 2 ^ 16) 3

abbrev pub fourth_code : ℕ → ℕ → List Instr
fourth_code rd v = Wide Movz rd (v / 2 ^ 48 % 2 ^ 16) 3 ∷ []

-- the lowest quarter of a number is not 0, or no other is
abbrev pub is_low : ℕ → Bool
is_low v = nat_lt v (2 ^ 16) || not (v % 2 ^ 16 == 0)

abbrev pub upper_code : ℕ → ℕ → List Instr
upper_code rd v = if v % 2 ^ 32 == 0 then (if v % 2 ^ 48 == 0 then fourth_code rd v else third_code rd v) else second_code rd v

abbrev pub positive_code : ℕ → ℕ → List Instr
positive_code rd v = if is_low v then first_code rd v else upper_code rd v

-- the high half is all ones, and so is the second quarter, or it is put in its place
abbrev pub negative_code : ℕ → ℕ → List Instr
negative_code rd v = Wide Movn rd (complement v % 2 ^ 16) 0 ∷ (if v / 2 ^ 16 % 2 ^ 16 == 65535 then [] else Wide Movk rd (v / 2 ^ 16 % 2 ^ 16) 1 ∷ [])

abbrev pub number_code : ℕ → ℕ → List Instr
number_code rd v = if nat_lt (complement v) (2 ^ 32) then negative_code rd v else positive_code rd v

-- the code puts the number into the register and changes no other, and no flag; it has at most 4 instructions
pub record LoadsNumber (rd v : ℕ) : Type 0 where
  pub computes : all_compute (number_code rd v) ≡ true
  pub value : (w : Held) → computed (number_code rd v) w ≡ holding (put w.registers rd v) w.flags
  pub some : 0 < length (number_code rd v)
  pub few : length (number_code rd v) ≤ 4
  pub fits : All IsInstr (number_code rd v)

abbrev pub NumbersAreLoaded : Type 0
NumbersAreLoaded = (rd v : ℕ) → rd < 31 → v < 2 ^ 64 → LoadsNumber rd v
